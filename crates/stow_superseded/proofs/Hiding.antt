-- An operation that a newer put or removal hides, with no pin between.
use Rattle.std.proofs.Common.{zero, suc, ◌≡◌, ℕ, ◌<◌, ◌≤◌, true, List, Option, Some, None, refl, sym, ap, subst, ◌∙◌, arith, ⊎_elim}
use Rattle.std.specs.Prelude.{Contains}
use Rattle.std.proofs.lemmas.Bool.{cases_lt}
use Rattle.stow_leaf.specs.Replacements.{HasShortValues, MeanTheSame}
use Rattle.stow_leaf.proofs.Found.{none_or, some_or, some_left, some_right}
use Rattle.stow_superseded.specs.Superseded.{is_whole}
use Rattle.stow_tree_model.specs.Op.{Op, Put, Gone, Append}
use Rattle.stow_tree_model.specs.Operations.{Operations, applied, latest, numbered, or_else, outcome, over, value_in, NoneAbove}
use Rattle.stow_tree_model.specs.Value.{IsValue}
use Rattle.stow_tree_model.proofs.Histories.{latest_none}
use Rattle.stow_tree_model.proofs.Latest.{latest_same, latest_stays, agree_from}

-- what the key has after a put or a removal is the same whatever it had
whole_outcome : (op : Op) (a b : Option (List ℕ)) → is_whole op ≡ true → outcome op a ≡ outcome op b
whole_outcome (Put value) a b e = refl
whole_outcome Gone a b e = refl
whole_outcome (Append suffix) a b e = absurd cc

-- from a put or a removal on, what stood before it tells nothing
whole_hides : (f g : Operations) (at : ℕ) (op : Op) → is_whole op ≡ true → f at ≡ Some op → g at ≡ Some op → ((n : ℕ) → at < n → f n ≡ g n) → (n : ℕ) → at ≤ n → latest f n ≡ latest g n
unfolding latest
whole_hides f g at op w here there same zero l =
    let e : at ≡ 0 = omega arith in
    ap (λ o. applied 0 o None) (ap f (sym e) ∙ here ∙ sym there ∙ ap g e)
whole_hides f g at op w here there same (suc n) l = ⊎_elim
    (λ (lt : at < suc n). λ i. applied (suc n) (same (suc n) lt i) (whole_hides f g at op w here there same n (omega arith) i))
    (λ (ge : suc n ≤ at).
    let e : at ≡ suc n = omega arith in
    ap (λ o. applied (suc n) o (latest f n)) (ap f (sym e) ∙ here)
    ∙ ap (numbered (suc n)) (whole_outcome op (value_in (latest f n)) (value_in (latest g n)) w)
    ∙ ap (λ o. applied (suc n) o (latest g n)) (sym (ap g (sym e) ∙ there)))
    (cases_lt at (suc n))

-- operations that begin with a put or a removal, and no pin stands below it from a number on
pub record BeginWhole (pins : List ℕ) (from : ℕ) (newer : Operations) : Type 0 where
  pub at : ℕ
  pub op : Op
  pub above : from < at
  pub is : newer at ≡ Some op
  pub whole : is_whole op ≡ true
  pub before : (n : ℕ) → n < at → newer n ≡ None
  pub unpinned : (p : ℕ) → Contains pins p → from ≤ p → p < at → ⊥

-- the one operation at that number means nothing below them
module _ (pins : List ℕ) (newer one older : Operations) (from : ℕ) (b : BeginWhole pins from newer)
    (one_before : (n : ℕ) → n < from → one n ≡ None) (one_after : (n : ℕ) → from < n → one n ≡ None) (older_before : (n : ℕ) → from ≤ n → older n ≡ None) where
  abbrev with_it : Operations
  with_it = over newer (over one older)

  abbrev without_it : Operations
  without_it = over newer older

  same_but : (n : ℕ) → one n ≡ None → with_it n ≡ without_it n
  same_but n e = ap (or_else (newer n)) (none_or (one n) (older n) e)

  low : (n : ℕ) → n < from → latest with_it n ≡ latest without_it n
  low n l = latest_same with_it without_it n (λ k m. same_but k (one_before k (omega arith)))

  high : (n : ℕ) → b.at ≤ n → latest with_it n ≡ latest without_it n
  high n l = whole_hides with_it without_it b.at b.op b.whole (ap (λ o. or_else o (over one older b.at)) b.is) (ap (λ o. or_else o (older b.at)) b.is)
      (λ k m. same_but k (one_after k (let a = b.above in omega arith))) n l

  -- between the two there is nothing left
  gap : (n : ℕ) → from ≤ n → n < b.at → without_it n ≡ None
  gap n l m = none_or (newer n) (older n) (b.before n m) ∙ older_before n l

  bound_past : (bound : ℕ) → NoneAbove bound with_it → b.at ≤ bound
  bound_past bound none = ⊎_elim
      (λ (lt : bound < b.at). let e : Some b.op ≡ None = sym (ap (λ o. or_else o (over one older b.at)) b.is) ∙ none b.at lt in absurd cc)
      (λ (ge : b.at ≤ bound). ge)
      (cases_lt bound b.at)

  at_pin : (p : ℕ) → Contains pins p → latest with_it p ≡ latest without_it p
  at_pin p c = ⊎_elim
      (λ (lt : p < from). low p lt)
      (λ (ge : from ≤ p). ⊎_elim (λ (m : p < b.at). absurd (b.unpinned p c ge m)) (λ (m : b.at ≤ p). high p m) (cases_lt p b.at))
      (cases_lt p from)

  short_between : HasShortValues with_it → (n : ℕ) → from ≤ n → n < b.at → (t : ℕ) → t ≡ from → IsValue (value_in (latest without_it n))
  short_between s n l m zero e = nothing n (λ k j. gap k (omega arith) (omega arith)) where
    nothing : (n : ℕ) → ((k : ℕ) → k ≤ n → without_it k ≡ None) → IsValue (value_in (latest without_it n))
    nothing n none = subst (λ v. IsValue (value_in v)) (sym (latest_none without_it n none)) (record { is_short = λ bytes e. absurd cc })
  short_between s n l m (suc t) e = subst (λ v. IsValue (value_in v))
      (low t (omega arith) ∙ sym (latest_stays without_it t n (omega arith) (λ k p q. gap k (omega arith) (omega arith))))
      (s t)

  pub hidden_same : MeanTheSame pins with_it without_it
  hidden_same = record {
    way = λ bound none. let past = bound_past bound none in
        agree_from with_it without_it bound at_pin (high bound past) none
        (λ n l. sym (same_but n (one_after n (let a = b.above in omega arith))) ∙ none n l);
    short = λ s n. ⊎_elim
        (λ (lt : n < from). subst (λ v. IsValue (value_in v)) (low n lt) (s n))
        (λ (ge : from ≤ n). ⊎_elim
        (λ (m : n < b.at). short_between s n ge m from refl)
        (λ (m : b.at ≤ n). subst (λ v. IsValue (value_in v)) (high n m) (s n))
        (cases_lt n b.at))
        (cases_lt n from);
    there = λ t. some_or (newer t.0) (older t.0)
        (λ s. (t.0, some_left (newer t.0) (over one older t.0) s))
        (λ s. (t.0, some_right (newer t.0) (over one older t.0) (some_right (one t.0) (older t.0) s)))
        t.1;
  }
