-- Lists in which each stands above the one before.
use Rattle.std.proofs.Common.{◌≡◌, ℕ, zero, suc, ◌+◌, ◌<◌, ◌≤◌, List, [], ◌∷◌, length, get_or, refl, ap, ◌∙◌, sym, subst, arith, true, false, ⊎_elim}
use Rattle.std.specs.Prelude.{map}
use Rattle.std.specs.List.{AllByRecursion}
use Rattle.std.specs.List.Sorted.{IsStrictlySortedBy}
use Rattle.std.specs.declared.cmp.Ordering.{Ordering}
use Rattle.std.specs.declared.cmp.Ordering.TheVariants.{Less, Equal, Greater}
use Rattle.std.specs.Ordering.{is_lt}
use Rattle.std.proofs.Math.ListN.{get_or-map}
use Rattle.std.proofs.lemmas.Bool.{cases_lt}
use Rattle.stow_tree_model.specs.Order.{VersionPlace, place_cmp}
use Rattle.stow_tree_model.proofs.Orders.{place_total}

-- up to an index each stands above the one before
abbrev pub StepsUp : List VersionPlace → ℕ → Type 0
StepsUp ps i = (k : ℕ) (d : VersionPlace) → suc k < i → place_cmp (get_or ps k d) (get_or ps (suc k) d) ≡ Less

all_above : (p q : VersionPlace) (ps : List VersionPlace) → place_cmp p q ≡ Less → AllByRecursion (λ r. place_cmp q r ≡ Less) ps → AllByRecursion (λ r. place_cmp p r ≡ Less) ps
all_above p q [] l h = tt
all_above p q (r ∷ ps) l h = (place_total.trans p q r l h.0, all_above p q ps l h.1)

pub rises_by_steps : (ps : List VersionPlace) (i : ℕ) → length ps ≤ i → StepsUp ps i → IsStrictlySortedBy place_cmp ps
unfolding IsStrictlySortedBy
rises_by_steps [] i l h = tt
rises_by_steps (p ∷ []) i l h = (tt, tt)
rises_by_steps (p ∷ q ∷ ps) zero l h = absurd (omega arith)
rises_by_steps (p ∷ q ∷ ps) (suc i) l h =
    let first : place_cmp p q ≡ Less = h 0 p (omega arith) in
    let rest : IsStrictlySortedBy place_cmp (q ∷ ps) = rises_by_steps (q ∷ ps) i (omega arith) (λ k d b. h (suc k) d (omega arith)) in
    ((first, all_above p q ps first rest.0), rest)

any_default : (ps : List VersionPlace) (i : ℕ) (d e : VersionPlace) → i < length ps → get_or ps i d ≡ get_or ps i e
any_default [] i d e l = absurd (omega arith)
any_default (p ∷ ps) zero d e l = refl
any_default (p ∷ ps) (suc i) d e l = any_default ps i d e (omega arith)

pub less_from : (r : Ordering) → is_lt r ≡ true → r ≡ Less
less_from Less e = refl
less_from Equal e = cc
less_from Greater e = cc

-- one more that stands above the one before
pub steps_more : (ps : List VersionPlace) (j i : ℕ) (p q : VersionPlace) → suc j ≡ i → i < length ps → p ≡ get_or ps j p → q ≡ get_or ps i q → place_cmp p q ≡ Less → StepsUp ps i → StepsUp ps (i + 1)
steps_more ps j i p q n l ep eq less h k d b = ⊎_elim
    (λ (s : suc k < i). h k d s)
    (λ (s : i ≤ suc k).
    let at_k : k ≡ j = omega arith in
    let at_i : suc k ≡ i = omega arith in
    subst (λ x. place_cmp (get_or ps x d) (get_or ps (suc k) d) ≡ Less) (sym at_k)
    (subst (λ x. place_cmp (get_or ps j d) (get_or ps x d) ≡ Less) (sym at_i)
    (subst (λ x. place_cmp x (get_or ps i d) ≡ Less) (ep ∙ any_default ps j p d (omega arith))
    (subst (λ x. place_cmp p x ≡ Less) (eq ∙ any_default ps i q d l) less))))
    (cases_lt (suc k) i)

-- an item's place among the items' places
pub place_there : {X : Type 0} (f : X → VersionPlace) (xs : List X) (i : ℕ) (x : X) → x ≡ get_or xs i x → f x ≡ get_or (map f xs) i (f x)
place_there f xs i x e = ap f e ∙ sym (get_or-map f xs i x)

pub steps_by_rises : (ps : List VersionPlace) → IsStrictlySortedBy place_cmp ps → StepsUp ps (length ps)
unfolding IsStrictlySortedBy
steps_by_rises [] h k d l = absurd (omega arith)
steps_by_rises (p ∷ []) h k d l = absurd (omega arith)
steps_by_rises (p ∷ q ∷ ps) h zero d l = h.0.0
steps_by_rises (p ∷ q ∷ ps) h (suc k) d l = steps_by_rises (q ∷ ps) h.1 k d (omega arith)

-- of a list that rises each stands above the one before
pub step_of_rises : (ps : List VersionPlace) (j i : ℕ) (p q : VersionPlace) → suc j ≡ i → i < length ps → p ≡ get_or ps j p → q ≡ get_or ps i q → IsStrictlySortedBy place_cmp ps → place_cmp p q ≡ Less
step_of_rises ps j i p q n l ep eq rises =
    let step : place_cmp (get_or ps j p) (get_or ps (suc j) p) ≡ Less = steps_by_rises ps rises j p (omega arith) in
    let second : get_or ps (suc j) p ≡ q = ap (λ k. get_or ps k p) n ∙ any_default ps i p q l ∙ sym eq in
    (λ k. place_cmp (ep k) (sym second k)) ∙ step

pub not_less : (r : Ordering) → is_lt r ≡ false → r ≡ Less → ⊥
not_less Less e f = cc
not_less Equal e f = cc
not_less Greater e f = cc
