-- The operations that lists of messages have, put together and taken apart.
use Rattle.std.proofs.Common.{◌≡◌, ◌≢◌, ℕ, Bool, true, false, cond, List, [], ◌∷◌, ◌++◌, Option, Some, None, refl, ap, ◌∙◌, sym, subst, ⊎_elim}
use Rattle.std.specs.Ordering.{eq_by_cmp, is_eq}
use Rattle.std.specs.Prelude.{if◌then◌else◌, not}
use Rattle.std.specs.Cmp.{tied_itself}
use Rattle.std.specs.List.{AllByRecursion, filter}
use Rattle.std.proofs.lemmas.Bool.{cond-true, cond-false}
use Rattle.stow_merge.specs.StowTreeModel.Op.{Op}
use Rattle.stow_merge.specs.StowTreeModel.TreeMessage.{TreeMessage}
use Rattle.std.specs.List.Sorted.{IsStrictlySortedBy}
use Rattle.std.specs.declared.cmp.Ordering.TheVariants.{Less}
use Rattle.stow_merge.specs.StowTreeModel.Order.{VersionPlace, place_cmp, place_of, MessagesRise}
use Rattle.stow_merge.specs.StowTreeModel.Operations.{or_else}
use Rattle.stow_merge.specs.StowTreeModel.Messages.{ops_in}
use Rattle.stow_merge.proofs.StowTreeModel.Orders.{place_cases, place_total}
use Rattle.stow_merge.proofs.StowTreeModel.Histories.{ops_in-skip}
use Rattle.stow_merge.proofs.StowMessage.RisingLists.{AllAbove}
use Rattle.stow_merge.proofs.StowMessage.Placed.{AllOther, all_other_placed}
use Rattle.stow_merge.specs.StowMessage.Rising.{is_below, placed, all_placed, in_range, out_of_range}
use Rattle.stow_leaf.specs.Intervals.{spans}

true_false : true ≡ false → ⊥
true_false e = subst go e tt where
  go : Bool → Type 0
  go true = Unit {0}
  go false = ⊥

or_step : (b : Bool) (o : Option Op) (p : Op) (x : Option Op) → cond b (Some p) (or_else o x) ≡ or_else (cond b (Some p) o) x
or_step true o p x = refl
or_step false o p x = refl

-- the first list's operations stand over the second's
pub ops-append : (xs ys : List TreeMessage) (key : List ℕ) (n : ℕ) → ops_in (xs ++ ys) key n ≡ or_else (ops_in xs key n) (ops_in ys key n)
ops-append [] ys key n = refl
ops-append (x ∷ xs) ys key n =
    ap (cond (eq_by_cmp place_cmp (key, n) (place_of x)) (Some x.op)) (ops-append xs ys key n)
    ∙ or_step (eq_by_cmp place_cmp (key, n) (place_of x)) (ops_in xs key n) x.op (ops_in ys key n)

-- a list's messages of some keys have the operations of these keys
pub ops-filter : (f : List ℕ → Bool) (ms : List TreeMessage) (key : List ℕ) (n : ℕ) → ops_in (filter (λ m. f m.key) ms) key n ≡ cond (f key) (ops_in ms key n) None
ops-filter f [] key n = none (f key) None where
  none : (b : Bool) (o : Option Op) → o ≡ cond b o o
  none true o = refl
  none false o = refl
ops-filter f (m ∷ ms) key n = step (ops-filter f ms key n) where
  rest : List TreeMessage
  rest = filter (λ m. f m.key) ms

  at_key : (b : Bool) → b ≡ f m.key → f key ≡ f m.key → eq_by_cmp place_cmp (key, n) (place_of m) ≡ true → ops_in rest key n ≡ cond (f key) (ops_in ms key n) None → ops_in (if b then m ∷ rest else rest) key n ≡ cond (f key) (ops_in (m ∷ ms) key n) None
  at_key true h k e on = cond-true _ _ _ e ∙ sym (cond-true (f key) _ _ (k ∙ sym h) ∙ cond-true _ _ _ e)
  at_key false h k e on = on ∙ cond-false (f key) _ _ (k ∙ sym h) ∙ sym (cond-false (f key) _ _ (k ∙ sym h))

  other : (b : Bool) → (◌≢◌ {A = VersionPlace} (key, n) (place_of m)) → ops_in rest key n ≡ cond (f key) (ops_in ms key n) None → ops_in (if b then m ∷ rest else rest) key n ≡ cond (f key) (ops_in (m ∷ ms) key n) None
  other true ne on = ops_in-skip m rest key n ne ∙ on ∙ ap (λ o. cond (f key) o None) (sym (ops_in-skip m ms key n ne))
  other false ne on = on ∙ ap (λ o. cond (f key) o None) (sym (ops_in-skip m ms key n ne))

  step : ops_in rest key n ≡ cond (f key) (ops_in ms key n) None → ops_in (filter (λ m. f m.key) (m ∷ ms)) key n ≡ cond (f key) (ops_in (m ∷ ms) key n) None
  step on = ⊎_elim
      (λ (e : (◌≡◌ {A = VersionPlace} (key, n) (place_of m)) × (eq_by_cmp place_cmp (key, n) (place_of m) ≡ true)).
      at_key (f m.key) refl (ap (λ (p : VersionPlace). f p.0) e.0) e.1 on)
      (λ (e : (◌≢◌ {A = VersionPlace} (key, n) (place_of m)) × (eq_by_cmp place_cmp (key, n) (place_of m) ≡ false)). other (f m.key) e.0 on)
      (place_cases (key, n) (place_of m))

pub ops-in_range : (low high : List ℕ) (ms : List TreeMessage) (key : List ℕ) (n : ℕ) → ops_in (in_range low high ms) key n ≡ cond (spans low high key) (ops_in ms key n) None
ops-in_range low high ms key n = ops-filter (spans low high) ms key n

pub ops-out_of_range : (low high : List ℕ) (ms : List TreeMessage) (key : List ℕ) (n : ℕ) → ops_in (out_of_range low high ms) key n ≡ cond (not (spans low high key)) (ops_in ms key n) None
ops-out_of_range low high ms key n = ops-filter (λ k. not (spans low high k)) ms key n

-- the messages of no key and number that the other has
abbrev pub Other : TreeMessage → TreeMessage → Type 0
Other m x = is_eq (place_cmp (place_of x) (place_of m)) ≡ false

-- two places that one place is are one
not_both_at : (p q : VersionPlace) → is_eq (place_cmp p q) ≡ false → p ≡ q → ⊥
not_both_at p q h e = absurd (true_false (sym (ap is_eq (tied_itself place_total p)) ∙ ap (λ (r : VersionPlace). is_eq (place_cmp p r)) e ∙ h))

not_both : (key : List ℕ) (n : ℕ) (p q : VersionPlace) → eq_by_cmp place_cmp (key, n) p ≡ true → eq_by_cmp place_cmp (key, n) q ≡ true → is_eq (place_cmp p q) ≡ false → ⊥
not_both key n p q a b h = not_both_at p q h (sym (eq_at p a) ∙ eq_at q b) where
  eq_at : (r : VersionPlace) → eq_by_cmp place_cmp (key, n) r ≡ true → ◌≡◌ {A = VersionPlace} (key, n) r
  eq_at r e = ⊎_elim
      (λ (x : (◌≡◌ {A = VersionPlace} (key, n) r) × (eq_by_cmp place_cmp (key, n) r ≡ true)). x.0)
      (λ (x : (◌≢◌ {A = VersionPlace} (key, n) r) × (eq_by_cmp place_cmp (key, n) r ≡ false)). absurd (true_false (sym e ∙ x.1)))
      (place_cases (key, n) r)

-- a message that is put to its place is found as if it stood first
pub ops-placed : (m : TreeMessage) (ms : List TreeMessage) (key : List ℕ) (n : ℕ) → AllByRecursion (Other m) ms → ops_in (placed m ms) key n ≡ ops_in (m ∷ ms) key n
ops-placed m [] key n h = refl
ops-placed m (x ∷ xs) key n h = step (is_below (place_of m) x) (ops-placed m xs key n h.1) where
  swap : (a b : Bool) (o : Option Op) → (a ≡ true → b ≡ true → ⊥) → cond a (Some x.op) (cond b (Some m.op) o) ≡ cond b (Some m.op) (cond a (Some x.op) o)
  swap true true o apart = absurd (apart refl refl)
  swap true false o apart = refl
  swap false true o apart = refl
  swap false false o apart = refl

  both : eq_by_cmp place_cmp (key, n) (place_of x) ≡ true → eq_by_cmp place_cmp (key, n) (place_of m) ≡ true → ⊥
  both a b = not_both key n (place_of x) (place_of m) a b h.0

  step : (b : Bool) → ops_in (placed m xs) key n ≡ ops_in (m ∷ xs) key n → ops_in (if b then x ∷ placed m xs else m ∷ x ∷ xs) key n ≡ ops_in (m ∷ x ∷ xs) key n
  step true on = ap (cond (eq_by_cmp place_cmp (key, n) (place_of x)) (Some x.op)) on ∙ swap (eq_by_cmp place_cmp (key, n) (place_of x)) (eq_by_cmp place_cmp (key, n) (place_of m)) (ops_in xs key n) both
  step false on = refl

skip_all : (m : TreeMessage) (ms : List TreeMessage) → AllAbove (place_of m) ms → ops_in ms m.key m.number ≡ None
skip_all m [] h = refl
skip_all m (x ∷ xs) h = ops_in-skip x xs m.key m.number (λ e. absurd (less_self (place_of m) (place_of x) h.0 e)) ∙ skip_all m xs h.1 where
  less_self : (p q : VersionPlace) → place_cmp p q ≡ Less → p ≡ q → ⊥
  less_self p q l e = cc (tied_itself place_total p)

-- messages that are put to their places are found as if they stood first
pub ops-all_placed : (ms ns : List TreeMessage) (key : List ℕ) (n : ℕ) → MessagesRise ms → AllOther ms ns → ops_in (all_placed ms ns) key n ≡ or_else (ops_in ms key n) (ops_in ns key n)
unfolding IsStrictlySortedBy
ops-all_placed [] ns key n rise h = refl
ops-all_placed (m ∷ ms) ns key n rise h =
    ops-all_placed ms (placed m ns) key n rise.1 (all_other_placed m ms ns rise.0 h.1)
    ∙ ap (or_else (ops_in ms key n)) (ops-placed m ns key n h.0)
    ∙ ⊎_elim
    (λ (e : (◌≡◌ {A = VersionPlace} (key, n) (place_of m)) × (eq_by_cmp place_cmp (key, n) (place_of m) ≡ true)). first e.0 e.1)
    (λ (e : (◌≢◌ {A = VersionPlace} (key, n) (place_of m)) × (eq_by_cmp place_cmp (key, n) (place_of m) ≡ false)).
    ap (or_else (ops_in ms key n)) (cond-false _ _ _ e.1) ∙ ap (λ o. or_else o (ops_in ns key n)) (sym (cond-false _ _ _ e.1)))
    (place_cases (key, n) (place_of m))
  where
    first : ◌≡◌ {A = VersionPlace} (key, n) (place_of m) → eq_by_cmp place_cmp (key, n) (place_of m) ≡ true → or_else (ops_in ms key n) (ops_in (m ∷ ns) key n) ≡ or_else (ops_in (m ∷ ms) key n) (ops_in ns key n)
    first at e =
        ap (λ (p : VersionPlace). or_else (ops_in ms p.0 p.1) (ops_in (m ∷ ns) key n)) at
        ∙ ap (λ o. or_else o (ops_in (m ∷ ns) key n)) (skip_all m ms rise.0)
        ∙ cond-true _ _ _ e ∙ ap (λ o. or_else o (ops_in ns key n)) (sym (cond-true _ _ _ e))
