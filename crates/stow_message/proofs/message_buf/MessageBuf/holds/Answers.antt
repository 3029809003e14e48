use Rattle.std.proofs.Common.{◌≡◌, ◌<◌, true, length, drop, get_or, refl, sym, subst, ◌∙◌, arith, below_more}
use Rattle.std.specs.List.{Contains}
use Rattle.std.proofs.lemmas.List.{get_or_default}
use Rattle.stow_tree_model.specs.TreeMessage.{TreeMessage, message_of}
use Rattle.stow_message.specs.Rising.{is_first}
use Rattle.stow_message.proofs.Oldest.{first_is_held, held_is_first}
use Rattle.stow_message.proofs.RisingLists.{no_path}
use Rattle.stow_message.proofs.message_buf.MessageBuf.holds.Goals as goal

pub returns-then-not-has_at : goal.returns-then-not-has_at
returns-then-not-has_at g c =
    let bs = c.args.batch.now.messages in let ms = c.args.self.now.messages in let i = c.loop-i.i in let b : TreeMessage = message_of c.message-message.result in
    let lt : i < length bs = omega (arith, c.loop-i-test.true, c.len-i-end.ensures.len) in let is : b ≡ get_or bs i b = c.message-message.ensures in (
      λ t. absurd (no_path t),
      λ held. absurd (no_path (sym c.if-not-has_at.true ∙ c.has_at.ensures.same
          ∙ held_is_first b ms c.count_below-at.ensures.rising c.count_below-at.result c.count_below-at.ensures.count (subst (Contains ms) (sym is) (held i b lt)))),
    )

pub loop-i-preserved : goal.loop-i-preserved
loop-i-preserved g c =
    let bs = c.args.batch.now.messages in let ms = c.args.self.now.messages in let i = c.loop-i.i in let b : TreeMessage = message_of c.message-message.result in
    let lt : i < length bs = omega (arith, c.loop-i-test.true, c.len-i-end.ensures.len) in let is : b ≡ get_or bs i b = c.message-message.ensures in
    let first : is_first b (drop c.count_below-at.result ms) ≡ true = sym c.has_at.ensures.same ∙ c.if-not-has_at.false in
    below_more (λ j. (d : TreeMessage) → Contains ms (get_or bs j d)) i c.loop-i.invariant
    (λ d. subst (Contains ms) (is ∙ get_or_default bs i b d lt) (first_is_held b ms c.count_below-at.result first (c.has_at.ensures.within c.if-not-has_at.false)))

pub returns : goal.returns
returns g c = (λ _ k d lt. c.loop-i.invariant k (omega (arith, lt, c.loop-i-test.false, c.len-i-end.ensures.len)) d, λ _. refl)
