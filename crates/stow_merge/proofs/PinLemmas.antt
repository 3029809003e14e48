-- Lists of numbers by tenant, after a change of one.
use Rattle.std.proofs.Common.{◌≡◌, ◌≢◌, ℕ, zero, suc, ◌<◌, ◌≤◌, Bool, true, false, List, [], ◌∷◌, ◌++◌, length, map, get_or, set, Some, refl, ap, ◌∙◌, sym, subst, arith, ⊎_elim, cond, eqb}
use Rattle.std.specs.Prelude.{filter, slice_get}
use Rattle.std.specs.declared.vec.Vec.{Vec}
use Rattle.std.proofs.lemmas.Bool.{cases_eq, eq-eqb, ne_eqb, cond-true, cond-false}
use Rattle.std.proofs.lemmas.List.Kept.{AllPairs-filter}
use Rattle.stow_page.specs.StowTreeModel.Agreement.{TenantPins, with_pins}
use Rattle.stow_merge.specs.PinLists.{items_of, numbers_at, AreRising}

slice_get-here : {X : Type 0} (xs : List X) (i : ℕ) (x : X) → i < length xs → slice_get (set xs i x) i ≡ Some x
slice_get-here [] i x l = absurd (omega arith)
slice_get-here (y ∷ xs) zero x l = refl
slice_get-here (y ∷ xs) (suc i) x l = slice_get-here xs i x (omega arith)

slice_get-other : {X : Type 0} (xs : List X) (i t : ℕ) (x : X) → t ≢ i → slice_get (set xs i x) t ≡ slice_get xs t
slice_get-other [] i t x ne = refl
slice_get-other (y ∷ xs) zero zero x ne = absurd (ne refl)
slice_get-other (y ∷ xs) zero (suc t) x ne = refl
slice_get-other (y ∷ xs) (suc i) zero x ne = refl
slice_get-other (y ∷ xs) (suc i) (suc t) x ne = slice_get-other xs i t x (λ e. ne (ap suc e))

pub numbers_at-here : {A : Type 0} (lists : List (Vec ℕ A)) (i : ℕ) (v : Vec ℕ A) → i < length lists → numbers_at (set lists i v) i ≡ v.items
numbers_at-here lists i v l = ap items_of (slice_get-here lists i v l)

pub numbers_at-other : {A : Type 0} (lists : List (Vec ℕ A)) (i t : ℕ) (v : Vec ℕ A) → t ≢ i → numbers_at (set lists i v) t ≡ numbers_at lists t
numbers_at-other lists i t v ne = ap items_of (slice_get-other lists i t v ne)

-- one tenant's numbers are changed
pub numbers_at-set : {A : Type 0} (lists : List (Vec ℕ A)) (i : ℕ) (v : Vec ℕ A) (numbers : List ℕ) → i < length lists → v.items ≡ numbers → (t : ℕ) → numbers_at (set lists i v) t ≡ with_pins (numbers_at lists) i numbers t
numbers_at-set lists i v numbers l e t = ⊎_elim
    (λ (s : t ≡ i). subst (λ x. numbers_at (set lists i v) x ≡ numbers) (sym s) (numbers_at-here lists i v l ∙ e) ∙ sym (cond-true (eqb t i) _ _ (eq-eqb t i s)))
    (λ (ne : t ≢ i). numbers_at-other lists i t v ne ∙ sym (cond-false (eqb t i) _ _ (ne_eqb t i ne)))
    (cases_eq t i)

-- no tenant's numbers are changed
pub same_pins : (pins : TenantPins) (i : ℕ) (numbers : List ℕ) → numbers ≡ pins i → (t : ℕ) → pins t ≡ with_pins pins i numbers t
same_pins pins i numbers e t = ⊎_elim
    (λ (s : t ≡ i). ap pins s ∙ sym e ∙ sym (cond-true (eqb t i) _ _ (eq-eqb t i s)))
    (λ (ne : t ≢ i). sym (cond-false (eqb t i) _ _ (ne_eqb t i ne)))
    (cases_eq t i)

-- a fact of each tenant's numbers stays where the changed ones have it
pub each_stays : {A : Type 0} (P : List ℕ → Type 0) (lists : List (Vec ℕ A)) (i : ℕ) (v : Vec ℕ A) → i < length lists → P v.items → ((t : ℕ) → P (numbers_at lists t)) → (t : ℕ) → P (numbers_at (set lists i v) t)
each_stays P lists i v l h all t = ⊎_elim
    (λ (s : t ≡ i). subst (λ x. P (numbers_at (set lists i v) x)) (sym s) (subst P (sym (numbers_at-here lists i v l)) h))
    (λ (ne : t ≢ i). subst P (sym (numbers_at-other lists i t v ne)) (all t))
    (cases_eq t i)

-- an empty list more changes nothing
pub numbers_at-push : {A : Type 0} (lists : List (Vec ℕ A)) (v : Vec ℕ A) (t : ℕ) → v.items ≡ [] → numbers_at (lists ++ v ∷ []) t ≡ numbers_at lists t
numbers_at-push [] v zero e = e
numbers_at-push [] v (suc t) e = refl
numbers_at-push (x ∷ lists) v zero e = refl
numbers_at-push (x ∷ lists) v (suc t) e = numbers_at-push lists v t e

pub numbers_at-within : {A : Type 0} (lists : List (Vec ℕ A)) (i : ℕ) (v : Vec ℕ A) → i < length lists → v ≡ get_or lists i v → numbers_at lists i ≡ v.items
numbers_at-within [] i v l e = absurd (omega arith)
numbers_at-within (x ∷ lists) zero v l e = ap (λ (y : Vec ℕ _). y.items) (sym e)
numbers_at-within (x ∷ lists) (suc i) v l e = numbers_at-within lists i v (omega arith) e

pub numbers_at-past : {A : Type 0} (lists : List (Vec ℕ A)) (i : ℕ) → length lists ≤ i → numbers_at lists i ≡ []
numbers_at-past [] i l = refl
numbers_at-past (x ∷ lists) zero l = absurd (omega arith)
numbers_at-past (x ∷ lists) (suc i) l = numbers_at-past lists i (omega arith)

-- ---- fewer numbers

pub fewer : (test : ℕ → Bool) (xs : List ℕ) → length (filter test xs) ≤ length xs
fewer test [] = omega arith
fewer test (x ∷ xs) = elim (test x) as (λ b. length (cond b (x ∷ filter test xs) (filter test xs)) ≤ suc (length xs)) [
  | true ↦ let l = fewer test xs in omega arith
  | false ↦ let l = fewer test xs in omega arith
]

any_default : (xs : List ℕ) (i d e : ℕ) → i < length xs → get_or xs i d ≡ get_or xs i e
any_default [] i d e l = absurd (omega arith)
any_default (x ∷ xs) zero d e l = refl
any_default (x ∷ xs) (suc i) d e l = any_default xs i d e (omega arith)

pub rising_filter : (test : ℕ → Bool) (xs : List ℕ) → AreRising xs → AreRising (filter test xs)
rising_filter test xs h i j l m = AllPairs-filter (λ x y. x < y) test xs (λ a b d p q.
    let here = h a b p q in
    let first = any_default xs a d 0 (omega arith) in
    let second = any_default xs b d 0 q in
    omega arith) i j 0 l m

-- ---- a copy

abbrev pub number_lists : {A : Type 0} → List (Vec ℕ A) → List (List ℕ)
number_lists lists = map (λ v. v.items) lists

-- lists with the same numbers give each tenant the same pins
pub same_lists : {A B : Type 0} (lists : List (Vec ℕ A)) (others : List (Vec ℕ B)) (t : ℕ) → number_lists lists ≡ number_lists others → numbers_at lists t ≡ numbers_at others t
same_lists [] [] t e = refl
same_lists [] (y ∷ others) t e = absurd cc
same_lists (x ∷ lists) [] t e = absurd cc
same_lists (x ∷ lists) (y ∷ others) zero e = cc
same_lists (x ∷ lists) (y ∷ others) (suc t) e = same_lists lists others t (tail_of e) where
  tail_of : x.items ∷ number_lists lists ≡ y.items ∷ number_lists others → number_lists lists ≡ number_lists others
  tail_of e = cc
