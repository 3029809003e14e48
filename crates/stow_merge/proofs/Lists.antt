-- Parts of lists, and what holds of their members.
use Rattle.std.proofs.Common.{◌≡◌, ◌≢◌, ℕ, zero, suc, ◌+◌, ◌<◌, ◌≤◌, List, [], ◌∷◌, ◌++◌, length, take, drop, get_or, map, refl, sym, ◌∙◌, subst, arith, ⊎_elim}
use Rattle.std.specs.Prelude.{Contains}
use Rattle.std.specs.List.{AllByRecursion}
use Rattle.std.proofs.lemmas.Bool.{cases_lt}
use Rattle.std.proofs.lemmas.List.{get_or_default, take-append-drop}
use Rattle.stow_page.proofs.StowTreeModel.Latest.{contains_cases}
use Rattle.stow_page.proofs.StowTreeModel.Pruning.{contains_here, contains_there, none_in_nothing}

pub all_member : {X : Type 0} (P : X → Type 0) (xs : List X) (x : X) → AllByRecursion P xs → Contains xs x → P x
all_member P [] x h c = absurd (none_in_nothing x c)
all_member P (y ∷ ys) x h c = ⊎_elim (λ (e : y ≡ x). subst P e h.0) (λ (t : Contains ys x). all_member P ys x h.1 t) (contains_cases y x ys c)

pub all_from_members : {X : Type 0} (P : X → Type 0) (xs : List X) → ((x : X) → Contains xs x → P x) → AllByRecursion P xs
all_from_members P [] h = tt
all_from_members P (x ∷ xs) h = (h x (contains_here x xs), all_from_members P xs (λ y c. h y (contains_there x y xs c)))

pub all_front : {X Y : Type 0} (P : Y → Type 0) (f : X → Y) (xs ys : List X) → AllByRecursion P (map f (xs ++ ys)) → AllByRecursion P (map f xs)
all_front P f [] ys h = tt
all_front P f (x ∷ xs) ys h = (h.0, all_front P f xs ys h.1)

pub all_split : {X : Type 0} (P : X → Type 0) (xs ys : List X) → AllByRecursion P (xs ++ ys) → AllByRecursion P xs × AllByRecursion P ys
all_split P [] ys h = (tt, h)
all_split P (x ∷ xs) ys h = let more = all_split P xs ys h.1 in ((h.0, more.0), more.1)

pub all_join : {X : Type 0} (P : X → Type 0) (xs ys : List X) → AllByRecursion P xs → AllByRecursion P ys → AllByRecursion P (xs ++ ys)
all_join P [] ys h k = k
all_join P (x ∷ xs) ys h k = (h.0, all_join P xs ys h.1 k)

pub all_mapped_member : {X Y : Type 0} (P : Y → Type 0) (f : X → Y) (xs : List X) (x : X) → AllByRecursion P (map f xs) → Contains xs x → P (f x)
all_mapped_member P f [] x h c = absurd (none_in_nothing x c)
all_mapped_member P f (y ∷ ys) x h c = ⊎_elim (λ (e : y ≡ x). subst (λ z. P (f z)) e h.0) (λ (t : Contains ys x). all_mapped_member P f ys x h.1 t) (contains_cases y x ys c)

pub all_mapped_at : {X Y : Type 0} (P : Y → Type 0) (f : X → Y) (xs : List X) (i : ℕ) (x : X) → AllByRecursion P (map f xs) → i < length xs → x ≡ get_or xs i x → P (f x)
all_mapped_at P f [] i x h l e = absurd (omega arith)
all_mapped_at P f (y ∷ ys) zero x h l e = subst (λ z. P (f z)) (sym e) h.0
all_mapped_at P f (y ∷ ys) (suc i) x h l e = all_mapped_at P f ys i x h.1 (omega arith) e

pub map_filled : {X Y : Type 0} (f : X → Y) (xs : List X) → xs ≢ [] → map f xs ≢ []
map_filled f [] h = absurd (h refl)
map_filled f (x ∷ xs) h = λ e. cc

pub front_filled : {X : Type 0} (xs ys : List X) → xs ≢ [] → xs ++ ys ≢ []
front_filled [] ys h = absurd (h refl)
front_filled (x ∷ xs) ys h = λ e. cc

pub split_at : {X : Type 0} (from next : ℕ) (xs : List X) → from ≤ next → drop from xs ≡ drop from (take next xs) ++ drop next xs
split_at zero next xs l = sym (take-append-drop next xs)
split_at (suc from) zero xs l = absurd (omega arith)
split_at (suc from) (suc next) [] l = refl
split_at (suc from) (suc next) (x ∷ xs) l = split_at from next xs (omega arith)

-- what holds of the first members holds of one more, if the next one has it
pub one_more_has : {X : Type 0} (P : X → Type 0) (xs : List X) (i : ℕ) (x : X) → ((k : ℕ) (d : X) → k < i → P (get_or xs k d)) → i < length xs → x ≡ get_or xs i x → P x → (k : ℕ) (d : X) → k < i + 1 → P (get_or xs k d)
one_more_has P xs i x before l is h k d m = ⊎_elim
    (λ (lower : k < i). before k d lower)
    (λ (same : i ≤ k). let e : k ≡ i = omega arith in subst (λ j. P (get_or xs j d)) (sym e) (subst P (is ∙ get_or_default xs i x d l) h))
    (cases_lt k i)
