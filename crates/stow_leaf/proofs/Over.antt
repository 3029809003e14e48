-- Newer operations on a key, over older ones that give way to others.
use Rattle.std.proofs.Common.{zero, suc, ◌≡◌, ℕ, ◌<◌, ◌≤◌, ◌⊎◌, true, false, cond, List, [], ◌∷◌, Option, Some, None, refl, sym, ap, ◌∙◌, subst, arith, ⊎_elim, inl, inr}
use Rattle.std.specs.Prelude.{IsSome, Contains, nat_le}
use Rattle.std.proofs.lemmas.Bool.{cases_lt}
use Rattle.std.proofs.lemmas.Bool.Decides.{nat_tests}
use Rattle.stow_merge.specs.StowTreeModel.Agreement.{AgreeAt}
use Rattle.stow_merge.specs.StowTreeModel.Op.{Op}
use Rattle.stow_merge.specs.StowTreeModel.Operations.{Operations, applied, latest, or_else, over, value_in, NoneAbove, NoneUpTo}
use Rattle.stow_merge.specs.StowTreeModel.Value.{IsValue}
use Rattle.stow_merge.proofs.StowTreeModel.Latest.{latest_same, above_bound, merges_lem}
use Rattle.stow_leaf.specs.Replacements.{HasShortValues, MeanTheSame}
use Rattle.stow_leaf.proofs.Found.{none_some, none_unless, some_or, some_left, some_right, stays_itself}

-- each of the newer operations has a higher number than each of the older ones
abbrev pub Above : Operations → Operations → Type 0
Above newer f = (n k : ℕ) → IsSome (newer n) → IsSome (f k) → k < n

-- ---- the first operation, if there is one up to a bound

record FirstAt (f : Operations) (bound : ℕ) : Type 0 where
  at : ℕ
  within : at ≤ bound
  some : IsSome (f at)
  before : (k : ℕ) → k < at → f k ≡ None

by_option : {X : Type 0} (o : Option Op) → (o ≡ None → X) → (IsSome o → X) → X
by_option None f g = f refl
by_option (Some op) f g = g refl

first_some : (f : Operations) (bound : ℕ) → NoneUpTo bound f ⊎ FirstAt f bound
first_some f zero = by_option (f 0)
    (λ none. inl (λ n l. let e : n ≡ 0 = omega arith in ap f e ∙ none))
    (λ some. inr (record { at = 0; within = omega arith; some = some; before = λ k l. absurd (omega arith) }))
first_some f (suc b) = ⊎_elim
    (λ (up : NoneUpTo b f). by_option (f (suc b))
    (λ none. inl (λ n l. ⊎_elim (λ (lt : b < n). let e : n ≡ suc b = omega arith in ap f e ∙ none) (λ (ge : n ≤ b). up n ge) (cases_lt b n)))
    (λ some. inr (record { at = suc b; within = omega arith; some = some; before = λ k l. up k (omega arith) })))
    (λ (r : FirstAt f b). inr (record { at = r.at; within = let w = r.within in omega arith; some = r.some; before = r.before }))
    (first_some f b)

-- ---- nothing

pub or_none_left : (a b : Option Op) → or_else a b ≡ None → a ≡ None
or_none_left None b e = refl
or_none_left (Some op) b e = absurd cc

pub or_none_right : (a b : Option Op) → or_else a b ≡ None → b ≡ None
or_none_right None b e = e
or_none_right (Some op) b e = absurd cc

nothing_latest : (f : Operations) (n : ℕ) → ((k : ℕ) → f k ≡ None) → latest f n ≡ None
unfolding latest
nothing_latest f n none = above_bound f 0 n (omega arith) (λ k l. none k) ∙ at_zero (f 0) (none 0) where
  at_zero : (o : Option Op) → o ≡ None → applied 0 o None ≡ None
  at_zero None e = refl
  at_zero (Some op) e = absurd cc

no_value : IsValue None
no_value = record { is_short = λ bytes e. absurd cc }

pub nothing_short : (f : Operations) → ((k : ℕ) → f k ≡ None) → HasShortValues f
nothing_short f none n = subst (λ v. IsValue (value_in v)) (sym (nothing_latest f n none)) no_value

-- ---- what means the same

pub same_itself : (pins : List ℕ) (f : Operations) → MeanTheSame pins f f
same_itself pins f = record { way = stays_itself pins f; short = λ s. s; there = λ t. t }

pub same_pointwise : (pins : List ℕ) (f g : Operations) → ((n : ℕ) → g n ≡ f n) → MeanTheSame pins f g
same_pointwise pins f g e = subst (MeanTheSame pins f) (λ i n. sym (e n) i) (same_itself pins f)

pub same_then : (pins : List ℕ) (f g h : Operations) → MeanTheSame pins f g → MeanTheSame pins g h → MeanTheSame pins f h
same_then pins f g h a b = record {
  way = λ bound none.
      let one : AgreeAt f g pins bound = a.way bound none in
      let two : AgreeAt g h pins bound = b.way bound one.right_below in
      record {
        at_pins = λ p c. one.at_pins p c ∙ two.at_pins p c;
        from_bound = λ n l. one.from_bound n l ∙ two.from_bound n l;
        left_below = one.left_below;
        right_below = two.right_below;
      };
  short = λ s. b.short (a.short s);
  there = λ t. a.there (b.there t);
}

-- where nothing was, nothing is
pub same_nothing : (pins : List ℕ) (f g : Operations) → MeanTheSame pins f g → ((k : ℕ) → f k ≡ None) → (k : ℕ) → g k ≡ None
same_nothing pins f g m none k = none_unless (g k) (λ s. let t = m.there (k, s) in none_some (f t.0) (none t.0) t.1)

-- newer operations are newer than what the older ones give way to
pub above_same : (pins : List ℕ) (newer f g : Operations) → Above newer f → MeanTheSame pins f g → Above newer g
above_same pins newer f g new m zero k s t = absurd (none_some (g k) (same_nothing pins f g m (λ j. none_unless (f j) (λ u. absurd (let l : j < 0 = new 0 j s u in omega arith))) k) t)
above_same pins newer f g new m (suc n) k s t = ⊎_elim
    (λ (lt : n < k). absurd (none_some (g k) ((m.way n (λ j l. none_unless (f j) (λ u. let h : j < suc n = new (suc n) j s u in absurd (omega arith)))).right_below k lt) t))
    (λ (ge : k ≤ n). omega arith)
    (cases_lt n k)

-- the older ones end before the first of the newer
ends_before : (newer f : Operations) (t : ℕ) → Above newer f → IsSome (newer (suc t)) → NoneAbove t f
ends_before newer f t new s k l = none_unless (f k) (λ u. let h : k < suc t = new (suc t) k s u in absurd (omega arith))

-- newer ones from number 0 on have nothing below them
nothing_below : (newer f : Operations) → Above newer f → IsSome (newer 0) → (k : ℕ) → f k ≡ None
nothing_below newer f new s k = none_unless (f k) (λ u. let h : k < 0 = new 0 k s u in absurd (omega arith))

-- nothing on both sides
both_nothing : (newer f g : Operations) → ((k : ℕ) → f k ≡ None) → ((k : ℕ) → g k ≡ None) → (n : ℕ) → over newer g n ≡ over newer f n
both_nothing newer f g a b n = ap (or_else (newer n)) (b n ∙ sym (a n))

-- ---- newer operations up to a number

abbrev cut_at : ℕ → Operations → Operations
cut_at n f k = cond (nat_le k n) (f k) None

cut_below : (n : ℕ) (f : Operations) (k : ℕ) → k ≤ n → cut_at n f k ≡ f k
cut_below n f k l = let e : nat_le k n ≡ true = grind (arith, nat_tests, l) in ap (λ t. cond t (f k) None) e

cut_above : (n : ℕ) (f : Operations) → NoneAbove n (cut_at n f)
cut_above n f k l = let e : nat_le k n ≡ false = grind (arith, nat_tests, l) in ap (λ t. cond t (f k) None) e

over_cut : (n : ℕ) (newer f : Operations) → latest (over (cut_at n newer) f) n ≡ latest (over newer f) n
over_cut n newer f = latest_same (over (cut_at n newer) f) (over newer f) n (λ k l. ap (λ o. or_else o (f k)) (cut_below n newer k l))

-- from the last of the older ones on, newer ones show the same over either
over_after : (pins : List ℕ) (newer f g : Operations) (t n : ℕ) → t ≤ n → NoneUpTo t newer → AgreeAt f g pins t → latest (over newer f) n ≡ latest (over newer g) n
over_after pins newer f g t n l low a =
    sym (over_cut n newer f)
    ∙ (merges_lem {pins = n ∷ []} (cut_at n newer) f g t n l (λ k m. cut_below n newer k (omega arith) ∙ low k m) (cut_above n newer) at_n).from_bound n (omega arith)
    ∙ over_cut n newer g
  where
    only : (p : ℕ) → Contains (n ∷ []) p → n ≡ p
    only p (zero, l, e) = e
    only p (suc k, l, e) = absurd (omega arith)

    at_n : AgreeAt f g (n ∷ []) t
    at_n = record {
      at_pins = λ p c. a.from_bound p (let e = only p c in omega arith);
      from_bound = a.from_bound;
      left_below = a.left_below;
      right_below = a.right_below;
    }

over_before : (newer f : Operations) (n : ℕ) → NoneUpTo n newer → latest (over newer f) n ≡ latest f n
over_before newer f n low = latest_same (over newer f) f n (λ k l. ap (λ o. or_else o (f k)) (low k l))

-- ---- over what means the same

-- what stands under newer operations has short values where both together have
pub short_under : (newer f : Operations) → Above newer f → HasShortValues (over newer f) → HasShortValues f
short_under newer f new short n = ⊎_elim
    (λ (up : NoneUpTo n newer). subst (λ v. IsValue (value_in v)) (over_before newer f n up) (short n))
    (λ (r : FirstAt newer n). by_first r r.at refl)
    (first_some newer n)
  where
    by_first : (r : FirstAt newer n) (t : ℕ) → t ≡ r.at → IsValue (value_in (latest f n))
    by_first r zero e = nothing_short f (nothing_below newer f new (subst (λ k. IsSome (newer k)) (sym e) r.some)) n
    by_first r (suc t) e = subst (λ v. IsValue (value_in v))
        (over_before newer f t (λ k l. r.before k (omega (arith, e, l)))
        ∙ sym (above_bound f t n (let w = r.within in omega (arith, e, w)) (ends_before newer f t new (subst (λ k. IsSome (newer k)) (sym e) r.some))))
        (short t)

pub over_same : (pins : List ℕ) (newer f g : Operations) → Above newer f → MeanTheSame pins f g → MeanTheSame pins (over newer f) (over newer g)
over_same pins newer f g new m = record {
  way = λ bound none. ⊎_elim
      (λ (up : NoneUpTo bound newer). merges_lem newer f g bound bound (omega arith) up (above_newer bound none) (m.way bound (above_f bound none)))
      (λ (r : FirstAt newer bound). by_first bound none r r.at refl)
      (first_some newer bound);
  short = λ s n. ⊎_elim
      (λ (up : NoneUpTo n newer). subst (λ v. IsValue (value_in v)) (sym (over_before newer g n up)) (m.short (short_under newer f new s) n))
      (λ (r : FirstAt newer n). by_first_short s n r r.at refl)
      (first_some newer n);
  there = λ t. some_or (newer t.0) (g t.0)
      (λ s. (t.0, some_left (newer t.0) (f t.0) s))
      (λ s. let u = m.there (t.0, s) in (u.0, some_right (newer u.0) (f u.0) u.1))
      t.1;
}
  where
    above_newer : (bound : ℕ) → NoneAbove bound (over newer f) → NoneAbove bound newer
    above_newer bound none k l = or_none_left (newer k) (f k) (none k l)

    above_f : (bound : ℕ) → NoneAbove bound (over newer f) → NoneAbove bound f
    above_f bound none k l = or_none_right (newer k) (f k) (none k l)

    empty : IsSome (newer 0) → (n : ℕ) → over newer g n ≡ over newer f n
    empty s = both_nothing newer f g (nothing_below newer f new s) (same_nothing pins f g m (nothing_below newer f new s))

    by_first : (bound : ℕ) → NoneAbove bound (over newer f) → (r : FirstAt newer bound) (t : ℕ) → t ≡ r.at → AgreeAt (over newer f) (over newer g) pins bound
    by_first bound none r zero e = (same_pointwise pins (over newer f) (over newer g) (empty (subst (λ k. IsSome (newer k)) (sym e) r.some))).way bound none
    by_first bound none r (suc t) e = merges_lem newer f g t bound (let w = r.within in omega (arith, e, w)) (λ k l. r.before k (omega (arith, e, l))) (above_newer bound none)
        (m.way t (ends_before newer f t new (subst (λ k. IsSome (newer k)) (sym e) r.some)))

    by_first_short : HasShortValues (over newer f) → (n : ℕ) → (r : FirstAt newer n) (t : ℕ) → t ≡ r.at → IsValue (value_in (latest (over newer g) n))
    by_first_short s n r zero e = subst (λ (h : Operations). IsValue (value_in (latest h n))) (λ i k. sym (empty (subst (λ k. IsSome (newer k)) (sym e) r.some) k) i) (s n)
    by_first_short s n r (suc t) e = subst (λ v. IsValue (value_in v))
        (over_after pins newer f g t n (let w = r.within in omega (arith, e, w)) (λ k l. r.before k (omega (arith, e, l))) (m.way t (ends_before newer f t new (subst (λ k. IsSome (newer k)) (sym e) r.some))))
        (s n)
