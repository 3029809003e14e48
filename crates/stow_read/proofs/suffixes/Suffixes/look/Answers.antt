use Rattle.std.proofs.Common.{◌≡◌, ◌+◌, ◌-◌, reverse, take, Some, ap, ◌∙◌, sym, subst, arith}
use Rattle.stow_tree_model.specs.Op.{op_of}
use Rattle.stow_tree_model.specs.Operations.{applied, latest, over}
use Rattle.stow_tree_model.specs.Messages.{ops_in}
use Rattle.stow_tree_model.specs.TreeMessage.{message_of}
use Rattle.stow_read.specs.Suffixes.{suffixes_of, continued}
use Rattle.stow_read.proofs.NextNumbers.{is_own}
use Rattle.stow_read.proofs.Looked.{IsLooking, looking_first, looking_on, applied_next, looked_past, looked_all}
use Rattle.stow_read.proofs.suffixes.Suffixes.look.Goals as goal

pub loop-i-init : goal.loop-i-init
loop-i-init g c =
    let all : c.front_up_to-front.result.count ≡ c.front_up_to-front.result.count - 0 = omega arith in
    subst (IsLooking c.args.buffer.now.messages c.args.key.bytes.now c.args.at (c.front_up_to-front.result.count - 0) (suffixes_of c.args.self.now)) (sym c.keep_place.ensures)
    (subst (λ left. IsLooking c.args.buffer.now.messages c.args.key.bytes.now c.args.at left (suffixes_of c.args.self.now) (suffixes_of c.args.self.now)) all
    (looking_first c.args.buffer.now.messages c.args.key.bytes.now c.args.at c.front_up_to-front.result.count (suffixes_of c.args.self.now) c.len-known.ensures.rising c.front_up_to-front.ensures.count))

pub returns-then-not-is_same : goal.returns-then-not-is_same
returns-then-not-is_same g c =
    looked_past c.args.buffer.now.messages c.args.key.bytes.now c.args.at c.front_up_to-front.result.count (suffixes_of c.args.self.now) (suffixes_of c.loop-i.self) c.loop-i.i (message_of c.from_last-message.result)
    c.len-known.ensures.rising c.front_up_to-front.ensures.count c.loop-i-test.true c.from_last-message.ensures c.loop-i.invariant (sym c.is_same.ensures ∙ c.if-not-is_same.true)

pub returns-in-Put : goal.returns-in-Put
returns-in-Put g c older above =
    let ms = c.args.buffer.now.messages in
    let key = c.args.key.bytes.now in
    let m = message_of c.from_last-message.result in
    applied_next ms key c.args.at c.front_up_to-front.result.count (suffixes_of c.args.self.now) (suffixes_of c.loop-i.self) c.loop-i.i m
    c.len-known.ensures.rising c.front_up_to-front.ensures.count c.loop-i-test.true c.from_last-message.ensures c.loop-i.invariant (is_own key m.key (sym c.is_same.ensures ∙ c.if-not-is_same.false)) older above
    ∙ ap (λ o. continued (suffixes_of c.loop-i.self) (applied m.number (Some (op_of o)) (latest (over (ops_in (reverse (take (c.front_up_to-front.result.count - 1 - c.loop-i.i) ms)) key) older) c.args.at))) c.in-Put.is

pub returns-in-Gone : goal.returns-in-Gone
returns-in-Gone g c older above =
    let ms = c.args.buffer.now.messages in
    let key = c.args.key.bytes.now in
    let m = message_of c.from_last-message.result in
    applied_next ms key c.args.at c.front_up_to-front.result.count (suffixes_of c.args.self.now) (suffixes_of c.loop-i.self) c.loop-i.i m
    c.len-known.ensures.rising c.front_up_to-front.ensures.count c.loop-i-test.true c.from_last-message.ensures c.loop-i.invariant (is_own key m.key (sym c.is_same.ensures ∙ c.if-not-is_same.false)) older above
    ∙ ap (λ o. continued (suffixes_of c.loop-i.self) (applied m.number (Some (op_of o)) (latest (over (ops_in (reverse (take (c.front_up_to-front.result.count - 1 - c.loop-i.i) ms)) key) older) c.args.at))) c.in-Gone.is

pub loop-i-preserved : goal.loop-i-preserved
loop-i-preserved g c =
    let ms = c.args.buffer.now.messages in
    let key = c.args.key.bytes.now in
    let m = message_of c.from_last-message.result in
    subst (λ now. IsLooking ms key c.args.at (c.front_up_to-front.result.count - (c.loop-i.i + 1)) (suffixes_of c.args.self.now) now)
    (sym c.in_ok-add-in-Append.ensures)
    (looking_on ms key c.args.at c.front_up_to-front.result.count (suffixes_of c.args.self.now) (suffixes_of c.loop-i.self) c.loop-i.i m
    c.len-known.ensures.rising c.front_up_to-front.ensures.count c.loop-i-test.true c.from_last-message.ensures c.loop-i.invariant c.in-Append.suffix.now (is_own key m.key (sym c.is_same.ensures ∙ c.if-not-is_same.false)) (ap op_of c.in-Append.is))

pub returns : goal.returns
returns g c older above =
    let all = c.loop-i-test.false in
    looked_all c.args.buffer.now.messages c.args.key.bytes.now c.args.at (c.front_up_to-front.result.count - c.loop-i.i) (suffixes_of c.args.self.now) (suffixes_of c.loop-i.self) c.loop-i.invariant
    (omega (arith, all)) older above
