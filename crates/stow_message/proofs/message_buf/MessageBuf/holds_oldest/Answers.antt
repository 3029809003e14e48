use Rattle.std.proofs.Common.{◌≡◌, ◌+◌, ◌-◌, ◌<◌, ◌≤◌, true, length, drop, get_or, refl, sym, ap, ◌∙◌, arith, below_more, subst}
use Rattle.std.proofs.lemmas.List.{get_or_default}
use Rattle.stow_tree_model.specs.TreeMessage.{TreeMessage, message_of}
use Rattle.stow_message.specs.Rising.{below, is_first}
use Rattle.stow_message.proofs.Oldest.{IsOldest, one_more, stands_first}
use Rattle.stow_message.proofs.RisingLists.{no_path}
use Rattle.stow_message.proofs.message_buf.MessageBuf.holds_oldest.Goals as goal

pub returns-then-not-has_at : goal.returns-then-not-has_at
returns-then-not-has_at g c =
    let bs = c.args.batch.now.messages in let ms = c.args.self.now.messages in let i = c.loop-i.i in let b : TreeMessage = message_of c.message-message.result in
    let lt : i < length bs = omega (arith, c.loop-i-test.true, c.len-i-end.ensures.len) in
    let is : b ≡ get_or bs i b = c.message-message.ensures in let first = c.first_number.ensures in let low = c.first_number.result in (
      λ t. absurd (no_path t),
      λ oldest. absurd (no_path (sym c.if-not-has_at.true ∙ c.has_at.ensures.same
          ∙ stands_first bs ms c.len-i-end.ensures.rising c.count_below-at.ensures.rising i lt b is low c.count_below-at.result
          (ap (λ (m : TreeMessage). below (m.key, low) bs) is ∙ first.first b) (subst (λ (m : TreeMessage). low ≤ m.number) (sym is) (first.within b)) c.count_below-at.ensures.count
          (oldest b (i, lt, sym is)))),
    )

pub loop-i-preserved : goal.loop-i-preserved
loop-i-preserved g c =
    let bs = c.args.batch.now.messages in let ms = c.args.self.now.messages in let i = c.loop-i.i in let b : TreeMessage = message_of c.message-message.result in
    let lt : i < length bs = omega (arith, c.loop-i-test.true, c.len-i-end.ensures.len) in
    let is : b ≡ get_or bs i b = c.message-message.ensures in let first = c.first_number.ensures in let low = c.first_number.result in
    let held : is_first b (drop c.count_below-at.result ms) ≡ true = sym c.has_at.ensures.same ∙ c.if-not-has_at.false in
    let before : (d : TreeMessage) → 0 < low → ((get_or bs (i - 1) d).key ≡ b.key) × (low ≡ (get_or bs (i - 1) d).number + 1) × IsOldest bs ms (get_or bs (i - 1) d) =
    λ d more. let past = first.past d more in let same : get_or bs i d ≡ b = get_or_default bs i d b lt ∙ sym is in
    (past.1 ∙ ap (λ (m : TreeMessage). m.key) same, past.2, c.loop-i.invariant (i - 1) (omega (arith, past.0)) d) in
    let now = one_more bs ms c.len-i-end.ensures.rising c.count_below-at.ensures.rising i lt b is low c.count_below-at.result
    (ap (λ (m : TreeMessage). below (m.key, low) bs) is ∙ first.first b) (subst (λ (m : TreeMessage). low ≤ m.number) (sym is) (first.within b)) c.count_below-at.ensures.count before held in
    below_more (λ j. (d : TreeMessage) → IsOldest bs ms (get_or bs j d)) i c.loop-i.invariant
    (λ d. subst (IsOldest bs ms) (is ∙ get_or_default bs i b d lt) now)

pub returns : goal.returns
returns g c =
    let bs = c.args.batch.now.messages in let ms = c.args.self.now.messages in
    (λ _ m there. subst (IsOldest bs ms) there.2 (c.loop-i.invariant there.0 (omega (arith, there.1, c.loop-i-test.false, c.len-i-end.ensures.len)) m), λ _. refl)
