use Rattle.std.proofs.Common.{◌≡◌, ◌∙◌, ◌-◌, true, false, refl, length, get_or, sym, ap, arith, map}
use Rattle.std.proofs.lemmas.List.{length-map}
use Rattle.std.proofs.Math.ListN.{get_or-map}
use Rattle.std.proofs.lemmas.Grind.{common_steps}
use Rattle.std.specs.declared.cmp.Ordering.TheVariants.{Less}
use Rattle.stow_tree_model.specs.Order.{place_cmp, place_of}
use Rattle.stow_tree_model.specs.TreeMessage.{message_of}
use Rattle.stow_tree_model.proofs.Rising.{rises_by_steps, less_from, steps_more, step_of_rises, not_less, place_there}
use Rattle.stow_tree_model.proofs.plain.rising.messages_rise.Goals as goal

pub loop-i-preserved : goal.loop-i-preserved
loop-i-preserved c =
    let xs = map message_of c.args.messages.now in
    let i = c.loop-i.i in
    let first = message_of c.index-messages-i.result in
    let second = message_of c.index-messages-i-in-loop-i.result in
    let from_one = c.loop-i.auto.i in
    let below = c.loop-i-test.true in
    let same_length : length (map place_of xs) ≡ length c.args.messages.now = length-map xs place_of ∙ length-map c.args.messages.now message_of in
    let at_first : place_of first ≡ get_or (map place_of xs) (i - 1) (place_of first) = place_there place_of xs (i - 1) first (ap message_of c.index-messages-i.is ∙ sym (get_or-map message_of c.args.messages.now (i - 1) c.index-messages-i.result)) in
    let at_second : place_of second ≡ get_or (map place_of xs) i (place_of second) = place_there place_of xs i second (ap message_of c.index-messages-i-in-loop-i.is ∙ sym (get_or-map message_of c.args.messages.now i c.index-messages-i-in-loop-i.result)) in
    let is_less : c.is_lt.result ≡ true = grind (arith, common_steps) in
    let less : place_cmp (place_of first) (place_of second) ≡ Less = sym c.compare.ensures ∙ less_from c.compare.result (sym c.is_lt.ensures ∙ is_less) in
    steps_more (map place_of xs) (i - 1) i (place_of first) (place_of second) (omega arith) (omega arith) at_first at_second less c.loop-i.invariant

pub returns : goal.returns
returns c =
    let xs = map message_of c.args.messages.now in
    let past = c.loop-i-test.false in
    let same_length : length (map place_of xs) ≡ length c.args.messages.now = length-map xs place_of ∙ length-map c.args.messages.now message_of in
    ((λ _. rises_by_steps (map place_of xs) c.loop-i.i (omega arith) c.loop-i.invariant), (λ _. refl))

pub returns-then-not-is_lt : goal.returns-then-not-is_lt
returns-then-not-is_lt c =
    let xs = map message_of c.args.messages.now in
    let i = c.loop-i.i in
    let first = message_of c.index-messages-i.result in
    let second = message_of c.index-messages-i-in-loop-i.result in
    let from_one = c.loop-i.auto.i in
    let below = c.loop-i-test.true in
    let same_length : length (map place_of xs) ≡ length c.args.messages.now = length-map xs place_of ∙ length-map c.args.messages.now message_of in
    let at_first : place_of first ≡ get_or (map place_of xs) (i - 1) (place_of first) = place_there place_of xs (i - 1) first (ap message_of c.index-messages-i.is ∙ sym (get_or-map message_of c.args.messages.now (i - 1) c.index-messages-i.result)) in
    let at_second : place_of second ≡ get_or (map place_of xs) i (place_of second) = place_there place_of xs i second (ap message_of c.index-messages-i-in-loop-i.is ∙ sym (get_or-map message_of c.args.messages.now i c.index-messages-i-in-loop-i.result)) in
    let is_not : c.is_lt.result ≡ false = grind (arith, common_steps) in
    let same : place_cmp (place_of first) (place_of second) ≡ c.compare.result = sym c.compare.ensures in (
      (λ e. let z : false ≡ true = e in absurd (cc)),
      (λ rises. absurd (not_less c.compare.result (sym c.is_lt.ensures ∙ is_not) (sym same ∙ step_of_rises (map place_of xs) (i - 1) i (place_of first) (place_of second) (omega arith) (omega arith) at_first at_second rises))),
    )
