-- Keys of versions that rise, next ones of different keys: each is below those after it.
use Rattle.std.proofs.Common.{◌≡◌, ℕ, zero, suc, ◌+◌, ◌<◌, List, [], ◌∷◌, Some, refl, ap, ◌∙◌, sym, subst, arith, ⊎_elim}
use Rattle.std.specs.Prelude.{Contains, slice_get}
use Rattle.std.specs.List.{AllByRecursion}
use Rattle.std.specs.List.Sorted.{IsStrictlySortedBy}
use Rattle.std.specs.declared.cmp.Ordering.TheVariants.{Less}
use Rattle.std.specs.Cmp.Lexicographic.{nat_list_cmp_total}
use Rattle.std.specs.Option.{unwrap_or}
use Rattle.std.proofs.lemmas.Option.{slice_get_within}
use Rattle.stow_page.specs.StowBytes.Bytes.{bytes_cmp}
use Rattle.stow_page.specs.Rows.{AreApart}
use Rattle.stow_page.proofs.Looked.{all_at}
use Rattle.stow_page.specs.StowTreeModel.Order.{version_place, VersionsRise}
use Rattle.stow_page.specs.StowTreeModel.Version.{Version}
use Rattle.stow_page.proofs.StowTreeModel.Histories.{falls_key}
use Rattle.stow_page.proofs.StowTreeModel.Latest.{contains_cases}
use Rattle.stow_page.proofs.StowTreeModel.Pruning.{none_in_nothing}
use Rattle.stow_merge.proofs.KeyOps.{not_below}
use Rattle.stow_merge.proofs.Lists.{all_member}

-- each key is below those after it
abbrev pub KeysClimb : List Version → Type 0
KeysClimb [] = Unit {0}
KeysClimb (v ∷ vs) = AllByRecursion (λ (w : Version). bytes_cmp v.key w.key ≡ Less) vs × KeysClimb vs

all_over : (key next : List ℕ) (vs : List Version) → bytes_cmp key next ≡ Less → AllByRecursion (λ (w : Version). bytes_cmp next w.key ≡ Less) vs → AllByRecursion (λ (w : Version). bytes_cmp key w.key ≡ Less) vs
all_over key next [] l h = tt
all_over key next (w ∷ vs) l h = (nat_list_cmp_total.trans key next w.key l h.0, all_over key next vs l h.1)

later_apart : (v : Version) (vs : List Version) → AreApart (v ∷ vs) → AreApart vs
later_apart v vs h = record { apart = λ i a b e f. h.apart (i + 1) a b (let n : suc i ≡ i + 1 = omega arith in ap (slice_get (v ∷ vs)) (sym n) ∙ e) (let n : suc (i + 1) ≡ (i + 1) + 1 = omega arith in ap (slice_get (v ∷ vs)) (sym n) ∙ f) }

pub climb : (vs : List Version) → VersionsRise vs → AreApart vs → KeysClimb vs
unfolding IsStrictlySortedBy
climb [] rise apart = tt
climb (v ∷ []) rise apart = (tt, tt)
climb (v ∷ w ∷ vs) rise apart =
    let rest : KeysClimb (w ∷ vs) = climb (w ∷ vs) rise.1 (later_apart v (w ∷ vs) apart) in
    let first : bytes_cmp v.key w.key ≡ Less = falls_key (version_place v) (version_place w) rise.0.0 (λ e. apart.apart 0 v w refl refl (sym e)) in
    ((first, all_over v.key w.key vs first rest.0), rest)

-- a later version has a higher key
pub climb_at : (vs : List Version) (i j : ℕ) (v w : Version) → KeysClimb vs → i < j → slice_get vs i ≡ Some v → slice_get vs j ≡ Some w → bytes_cmp v.key w.key ≡ Less
climb_at [] i j v w h low e f = let none = slice_get_within [] i v e in absurd (omega arith)
climb_at (x ∷ vs) i zero v w h low e f = absurd (omega arith)
climb_at (x ∷ vs) zero (suc j) v w h low e f = all_at (λ (u : Version). bytes_cmp v.key u.key ≡ Less) vs j w
    (subst (λ (y : Version). AllByRecursion (λ (u : Version). bytes_cmp y.key u.key ≡ Less) vs) (ap (λ o. unwrap_or o v) e) h.0) f
climb_at (x ∷ vs) (suc i) (suc j) v w h low e f = climb_at vs i j v w h.1 (omega arith) e f

-- each key has one version
pub one_each : (vs : List Version) (v w : Version) → KeysClimb vs → Contains vs v → Contains vs w → v.key ≡ w.key → v ≡ w
one_each [] v w h c d k = absurd (none_in_nothing v c)
one_each (x ∷ vs) v w h c d k = ⊎_elim
    (λ (e : x ≡ v). ⊎_elim
    (λ (f : x ≡ w). sym e ∙ f)
    (λ (t : Contains vs w). absurd (not_below v.key ((λ i. bytes_cmp (sym (ap (λ (u : Version). u.key) e) i) (k i)) ∙ all_member (λ (u : Version). bytes_cmp x.key u.key ≡ Less) vs w h.0 t)))
    (contains_cases x w vs d))
    (λ (s : Contains vs v). ⊎_elim
    (λ (f : x ≡ w). absurd (not_below w.key ((λ i. bytes_cmp (sym (ap (λ (u : Version). u.key) f) i) (sym k i)) ∙ all_member (λ (u : Version). bytes_cmp x.key u.key ≡ Less) vs v h.0 s)))
    (λ (t : Contains vs w). one_each vs v w h.1 s t k)
    (contains_cases x w vs d))
    (contains_cases x v vs c)
