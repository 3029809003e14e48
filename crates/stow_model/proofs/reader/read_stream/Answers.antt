use Rattle.std.proofs.Common.{◌≡◌, [], ◌∷◌, ◌++◌, length, length-append, map, ap, sym, ◌∙◌, subst, refl, arith, append_assoc}
use Rattle.std.proofs.lemmas.List.{map-append}
use Rattle.stow_model.specs.Message.{message_of}
use Rattle.stow_model.specs.Wire.{Splits, IsBegun, IsFaulty}
use Rattle.stow_model.specs.Reader.{IsMessageAt}
use Rattle.stow_model.proofs.Fronts.{spelled_some, IsSplitTo, none_split, one_more_split, split_whole, left_of}
use Rattle.stow_model.proofs.OneHistory.{begun_none}
use Rattle.stow_model.proofs.reader.read_stream.Goals as goal

pub loop-messages-init : goal.loop-messages-init
loop-messages-init g c = record {
  at = ([], refl);
  split = subst (λ ms. IsSplitTo c.args.bytes.now (map message_of ms) c.args.bytes.now) (sym c.new-messages.ensures.items) (none_split c.args.bytes.now);
}

pub loop-messages-smaller : goal.loop-messages-smaller
loop-messages-smaller g c =
    let found = subst (IsMessageAt c.loop-messages.left.now) c.in-Message.is c.in_ok-message.ensures in
    let some = spelled_some (message_of c.in-Message.message) found.0 found.1 in
    let whole : length c.loop-messages.left.now ≡ length (found.0 ++ c.in-Message.after.now) = ap length found.2 in
    omega (arith, length-append found.0 c.in-Message.after.now)

pub loop-messages-preserved : goal.loop-messages-preserved
loop-messages-preserved g c =
    let v = c.loop-messages.invariant in
    let found = subst (IsMessageAt c.loop-messages.left.now) c.in-Message.is c.in_ok-message.ensures in
    let old = c.loop-messages.messages.items in
    let m = c.in-Message.message in
    let items : map message_of old ++ message_of m ∷ [] ≡ map message_of c.push.new.self.items = sym (map-append message_of old (m ∷ [])) ∙ ap (map message_of) (sym c.in_ok-push-in-Message.ensures.items) in
    record {
      at = (v.at.0 ++ found.0, v.at.1 ∙ ap (λ t. v.at.0 ++ t) found.2 ∙ sym (append_assoc v.at.0 found.0 c.in-Message.after.now));
      split = subst (λ ms. IsSplitTo c.args.bytes.now ms c.in-Message.after.now) items (one_more_split c.args.bytes.now c.loop-messages.left.now c.in-Message.after.now found.0 (map message_of old) (message_of m) found.1 found.2 v.split);
    }

pub returns-in-More-clause-splits : goal.returns-in-More-clause-splits
returns-in-More-clause-splits g c =
    let v = c.loop-messages.invariant in
    let left = c.loop-messages.left.now in
    let begun = subst (IsMessageAt left) c.in-More.is c.in_ok-message.ensures in
    let ms = map message_of c.loop-messages.messages.items in
    subst (Splits c.args.bytes.now ms) (sym (left_of c.args.bytes.now v.at.0 left v.at.1)) (split_whole c.args.bytes.now left ms v.split (begun_none left begun))

pub returns-in-More-clause-rest : goal.returns-in-More-clause-rest
returns-in-More-clause-rest g c =
    let v = c.loop-messages.invariant in
    let left = c.loop-messages.left.now in
    let begun = subst (IsMessageAt left) c.in-More.is c.in_ok-message.ensures in
    subst IsBegun (sym (left_of c.args.bytes.now v.at.0 left v.at.1)) begun

pub returns-in-Faulty-clause-splits : goal.returns-in-Faulty-clause-splits
returns-in-Faulty-clause-splits g c =
    let v = c.loop-messages.invariant in
    let left = c.loop-messages.left.now in
    let faulty = subst (IsMessageAt left) c.in-Faulty.is c.in_ok-message.ensures in
    let ms = map message_of c.loop-messages.messages.items in
    subst (Splits c.args.bytes.now ms) (sym (left_of c.args.bytes.now v.at.0 left v.at.1)) (split_whole c.args.bytes.now left ms v.split faulty.none)

pub returns-in-Faulty-clause-rest : goal.returns-in-Faulty-clause-rest
returns-in-Faulty-clause-rest g c =
    let v = c.loop-messages.invariant in
    let left = c.loop-messages.left.now in
    let faulty = subst (IsMessageAt left) c.in-Faulty.is c.in_ok-message.ensures in
    subst (λ t. IsFaulty t c.in-Faulty.fault) (sym (left_of c.args.bytes.now v.at.0 left v.at.1)) faulty
