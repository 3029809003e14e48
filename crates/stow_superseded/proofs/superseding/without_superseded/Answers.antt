use Rattle.std.proofs.Common.{◌≡◌, ◌-◌, ◌/◌, Option, Some, sym, subst, ◌∙◌, arith}
use Rattle.std.proofs.lemmas.Bool.{cond-true, cond-false}
use Rattle.std.specs.Option.{option_map}
use Rattle.stow_leaf.specs.StowMerge.Pins.{pins_in}
use Rattle.stow_tree_model.specs.TreeMessage.{TreeMessage, message_of}
use Rattle.stow_superseded.proofs.Passing.{IsPassed, passed_rises, passed_over, passed_put, next_after}
use Rattle.stow_superseded.proofs.superseding.without_superseded.Given as given
use Rattle.stow_superseded.proofs.superseding.without_superseded.Goals as goal
use Rattle.stow_superseded.proofs.superseding.without_superseded.Goals.{After-is_whole, else-not-is_hidden-via-then-not-is_hidden+else-not-put_first, else-not-is_hidden-via-else-not-is_hidden}

pub put_first-requires-clause-rises : goal.put_first-requires-clause-rises
put_first-requires-clause-rises g c =
    let t = c.loop-left-test.true in let w = c.loop-left.invariant.within in
    passed_rises (pins_in c.args.pins.now) c.args.buffer.now.messages c.capacity-capacity.result (c.capacity-capacity.result - c.capacity-capacity.result / 4) (c.loop-left.left - 1) c.loop-left.left c.loop-left.fewer (option_map message_of c.loop-left.whole) (message_of c.message-message.result)
    c.len-left.ensures.rising (omega (arith, t)) (omega (arith, t, w)) c.message-message.ensures c.loop-left.invariant

-- the message stays or goes
passed : (g : given.Over) (c : After-is_whole g) (last : Option TreeMessage) → last ≡ next_after (message_of c.message-message.result) (option_map message_of c.loop-left.whole)
    → IsPassed (pins_in c.args.pins.now) c.args.buffer.now.messages c.capacity-capacity.result (c.capacity-capacity.result - c.capacity-capacity.result / 4) (c.loop-left.left - 1) c.else-not-is_hidden.fewer last
passed g c last e =
    let pins = pins_in c.args.pins.now in let ms = c.args.buffer.now.messages in let most = c.capacity-capacity.result - c.capacity-capacity.result / 4 in
    let m = message_of c.message-message.result in let whole = option_map message_of c.loop-left.whole in let newer = option_map message_of c.of_key-newer.result in
    let t = c.loop-left-test.true in let w = c.loop-left.invariant.within in let before = c.loop-left.invariant in
    elim c.else-not-is_hidden.branch [
      | else-not-is_hidden-via-then-not-is_hidden+else-not-put_first w ↦ subst (λ b. IsPassed pins ms c.capacity-capacity.result most (c.loop-left.left - 1) b last) (sym w.fewer-is)
          (passed_put pins ms c.capacity-capacity.result most (c.loop-left.left - 1) c.loop-left.left c.loop-left.fewer whole m c.len-left.ensures.rising (omega (arith, t)) (omega (arith, t, before.within)) c.message-message.ensures before
          newer last w.put_first.new.buffer c.of_key-newer.ensures (sym c.is_hidden.ensures ∙ w.if-not-is_hidden.true) e (w.put_first.ensures.put w.if-not-put_first.false) (w.put_first.ensures.most w.if-not-put_first.false))
      | else-not-is_hidden-via-else-not-is_hidden w ↦ subst (λ b. IsPassed pins ms c.capacity-capacity.result most (c.loop-left.left - 1) b last) (sym w.fewer-is)
          (passed_over pins ms c.capacity-capacity.result most (c.loop-left.left - 1) c.loop-left.left c.loop-left.fewer whole m c.len-left.ensures.rising (omega (arith, t)) (omega (arith, t, before.within)) c.message-message.ensures before
          newer last c.of_key-newer.ensures (sym c.is_hidden.ensures ∙ w.if-not-is_hidden.false) e)
    ]

pub loop-left-preserved-then-is_whole : goal.loop-left-preserved-then-is_whole
loop-left-preserved-then-is_whole g c = passed g (goal.at.loop-left-preserved-then-is_whole g c).After-is_whole (Some (message_of c.message-message.result))
    (sym (cond-true _ _ _ (sym c.is_whole.ensures ∙ c.if-is_whole.true)))

pub loop-left-preserved : goal.loop-left-preserved
loop-left-preserved g c = passed g (goal.at.loop-left-preserved g c).After-is_whole (option_map message_of c.of_key-newer.result)
    (c.of_key-newer.ensures ∙ sym (cond-false _ _ _ (sym c.is_whole.ensures ∙ c.if-is_whole.false)))
