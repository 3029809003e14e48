-- A pass over a list from its end.
use Rattle.std.proofs.Common.{◌≡◌, ◌≢◌, ℕ, ◌+◌, ◌<◌, ◌≤◌, ⊎_elim, Bool, true, false, List, [], ◌∷◌, length, drop, get_or, zero, suc, Option, Some, None, refl, sym, ap, subst, ◌∙◌, arith}
use Rattle.std.specs.Prelude.{if◌then◌else◌}
use Rattle.std.specs.List.{sum_by}
use Rattle.std.specs.List.Sorted.{IsStrictlySortedBy}
use Rattle.std.proofs.lemmas.Bool.{cond-true, cond-false}
use Rattle.std.proofs.lemmas.List.{drop_more}
use Rattle.std.proofs.lemmas.List.Sums.{sum_by-cons}
use Rattle.stow_leaf.specs.StowMessage.MessageBuf.{MessageList, message_list}
use Rattle.stow_leaf.specs.StowMessage.Packed.{message_size}
use Rattle.stow_superseded.specs.Passes.{of_key}
use Rattle.stow_superseded.specs.Superseded.{is_whole, next_whole, is_hidden, is_superseded, without_superseded}
use Rattle.stow_tree_model.specs.Agreement.{TenantPins}
use Rattle.stow_tree_model.specs.Merged.{same_key}
use Rattle.stow_tree_model.specs.Order.{MessagesRise}
use Rattle.stow_tree_model.specs.TreeMessage.{TreeMessage}
use Rattle.stow_tree_model.proofs.Orders.{key_cases}
use Rattle.stow_superseded.proofs.Fewer.{first_rises}

kept_of : (key : List ℕ) (w : TreeMessage) → key ≡ w.key → of_key key (Some w) ≡ Some w
kept_of key w e = ⊎_elim
    (λ (h : (key ≡ w.key) × (same_key key w.key ≡ true)). cond-true _ _ _ h.1)
    (λ (h : (key ≢ w.key) × (same_key key w.key ≡ false)). absurd (h.0 e))
    (key_cases key w.key)

left_out : (key : List ℕ) (w : TreeMessage) → key ≢ w.key → of_key key (Some w) ≡ None
left_out key w ne = ⊎_elim
    (λ (h : (key ≡ w.key) × (same_key key w.key ≡ true)). absurd (ne h.0))
    (λ (h : (key ≢ w.key) × (same_key key w.key ≡ false)). cond-false _ _ _ h.1)
    (key_cases key w.key)

of_same : (key : List ℕ) (whole : Option TreeMessage) → of_key key (of_key key whole) ≡ of_key key whole
of_same key None = refl
of_same key (Some w) = ⊎_elim
    (λ (h : (key ≡ w.key) × (same_key key w.key ≡ true)). ap (of_key key) (kept_of key w h.0))
    (λ (h : (key ≢ w.key) × (same_key key w.key ≡ false)). ap (of_key key) (left_out key w h.0) ∙ sym (left_out key w h.0))
    (key_cases key w.key)

of_other : (key k : List ℕ) (whole : Option TreeMessage) → key ≢ k → of_key key (of_key k whole) ≡ None
of_other key k None ne = refl
of_other key k (Some w) ne = ⊎_elim
    (λ (h : (k ≡ w.key) × (same_key k w.key ≡ true)). ap (of_key key) (kept_of k w h.0) ∙ left_out key w (λ e. ne (e ∙ sym h.0)))
    (λ (h : (k ≢ w.key) × (same_key k w.key ≡ false)). ap (of_key key) (left_out k w h.0))
    (key_cases k w.key)

-- the first put or removal of the key whose messages come first
abbrev pub IsNext : Option TreeMessage → List TreeMessage → Type 0
IsNext whole ms = (key : List ℕ) → next_whole key ms ≡ of_key key whole

abbrev pub next_after : TreeMessage → Option TreeMessage → Option TreeMessage
next_after m whole = if is_whole m.op then Some m else of_key m.key whole

pub next_first : (m : TreeMessage) (ms : List TreeMessage) (whole : Option TreeMessage) → IsNext whole ms → IsNext (next_after m whole) (m ∷ ms)
next_first m ms whole h key = ⊎_elim
    (λ (e : (key ≡ m.key) × (same_key key m.key ≡ true)). cond-true _ _ _ e.1 ∙ same e.0 (is_whole m.op))
    (λ (e : (key ≢ m.key) × (same_key key m.key ≡ false)). cond-false _ _ _ e.1 ∙ sym (other e.0 (is_whole m.op)))
    (key_cases key m.key)
  where
    same : key ≡ m.key → (b : Bool) → (if b then Some m else next_whole key ms) ≡ of_key key (if b then Some m else of_key m.key whole)
    same e true = sym (kept_of key m e)
    same e false = h key ∙ sym (of_same key whole) ∙ ap (λ k. of_key key (of_key k whole)) e

    other : key ≢ m.key → (b : Bool) → of_key key (if b then Some m else of_key m.key whole) ≡ None
    other ne true = left_out key m ne
    other ne false = of_other key m.key whole ne

-- what is known where a pass has come to a place: what stays from there on
pub record IsPassed (pins : TenantPins) (ms : List TreeMessage) (capacity most left : ℕ) (fewer : MessageList) (whole : Option TreeMessage) : Type 0 where
  pub within : left ≤ length ms
  pub stay : fewer ≡ message_list (without_superseded pins (drop left ms)) (sum_by message_size (without_superseded pins (drop left ms))) capacity
  pub ample : fewer.used ≤ most
  pub next : IsNext whole (drop left ms)

drop_rises : (ms : List TreeMessage) (i : ℕ) → MessagesRise ms → MessagesRise (drop i ms)
unfolding IsStrictlySortedBy
drop_rises ms zero up = up
drop_rises [] (suc i) up = up
drop_rises (m ∷ ms) (suc i) up = drop_rises ms i up.1

-- one message further
module _ (pins : TenantPins) (ms : List TreeMessage) (capacity most i left : ℕ) (fewer : MessageList) (whole : Option TreeMessage) (m : TreeMessage)
    (up : MessagesRise ms) (one : left ≡ i + 1) (lt : i < length ms) (is : m ≡ get_or ms i m) (h : IsPassed pins ms capacity most left fewer whole) where
  split : drop i ms ≡ m ∷ drop left ms
  split = drop_more ms i m lt ∙ (λ j. sym is j ∷ drop (sym one j) ms)

  pub passed_rises : MessagesRise (m ∷ fewer.messages)
  passed_rises = subst (λ (b : MessageList). MessagesRise (m ∷ b.messages)) (sym h.stay) (first_rises pins m (drop left ms) (subst MessagesRise split (drop_rises ms i up)))

  next_on : (last : Option TreeMessage) → last ≡ next_after m whole → IsNext last (drop i ms)
  next_on last e = subst (λ w. IsNext w (drop i ms)) (sym e) (subst (IsNext (next_after m whole)) (sym split) (next_first m (drop left ms) whole h.next))

  tested : (newer : Option TreeMessage) (b : Bool) → newer ≡ of_key m.key whole → is_hidden pins m newer ≡ b → is_superseded pins m (drop left ms) ≡ b
  tested newer b e t = ap (is_hidden pins m) (h.next m.key ∙ sym e) ∙ t

  pub passed_over : (newer last : Option TreeMessage) → newer ≡ of_key m.key whole → is_hidden pins m newer ≡ true → last ≡ next_after m whole → IsPassed pins ms capacity most i fewer last
  passed_over newer last e t l = record {
    within = omega (arith, lt);
    stay = h.stay ∙ ap (λ ns. message_list ns (sum_by message_size ns) capacity) (sym (ap (without_superseded pins) split ∙ cond-true _ _ _ (tested newer true e t)));
    ample = h.ample;
    next = next_on last l;
  }

  pub passed_put : (newer last : Option TreeMessage) (new : MessageList) → newer ≡ of_key m.key whole → is_hidden pins m newer ≡ false → last ≡ next_after m whole
      → new ≡ message_list (m ∷ fewer.messages) (fewer.used + message_size m) fewer.capacity → new.used ≤ most → IsPassed pins ms capacity most i new last
  passed_put newer last new e t l put ample = record {
    within = omega (arith, lt);
    stay =
        put
        ∙ ap (λ (b : MessageList). message_list (m ∷ b.messages) (b.used + message_size m) b.capacity) h.stay
        ∙ ap (λ n. message_list (m ∷ without_superseded pins (drop left ms)) n capacity) (omega (arith, sum_by-cons message_size m (without_superseded pins (drop left ms))))
        ∙ ap (λ ns. message_list ns (sum_by message_size ns) capacity) (sym (ap (without_superseded pins) split ∙ cond-false _ _ _ (tested newer false e t)));
    ample = ample;
    next = next_on last l;
  }
