-- Many keys whose marks are set, one after another.
use Rattle.std.proofs.Common.{◌≡◌, ℕ, zero, suc, ◌+◌, ◌≤◌, true, List, [], ◌∷◌, length, take, sym, subst, ap, arith, Some}
use Rattle.std.proofs.lemmas.Option.{slice_get_within}
use Rattle.std.specs.List.{slice_get}
use Rattle.std.specs.Option.{unwrap_or}
use Rattle.std.proofs.lemmas.List.{take_all}
use Rattle.stow_filter.specs.Filter.{may_have, CoversBy, KeepsMarks}
use Rattle.stow_filter.proofs.Marked.{all_may_be}

pub covers_more : {X : Type 0} (key : X → List ℕ) (old new : List ℕ) (xs : List X) → KeepsMarks old new → CoversBy key old xs → CoversBy key new xs
covers_more key old new [] stay c = tt
covers_more key old new (x ∷ xs) stay c = (stay (key x) c.0, covers_more key old new xs stay c.1)

covers_one_more : {X : Type 0} (key : X → List ℕ) (marks : List ℕ) (xs : List X) (i : ℕ) (x : X) → slice_get xs i ≡ Some x → may_have marks (key x) ≡ true → CoversBy key marks (take i xs) → CoversBy key marks (take (suc i) xs)
covers_one_more key marks [] i x e h c = let none = slice_get_within [] i x e in absurd (omega arith)
covers_one_more key marks (y ∷ xs) zero x e h c = (subst (λ z. may_have marks (key z) ≡ true) (sym (ap (λ o. unwrap_or o x) e)) h, tt)
covers_one_more key marks (y ∷ xs) (suc i) x e h c = (c.0, covers_one_more key marks xs i x e h c.1)

pub covers_next : {X : Type 0} (key : X → List ℕ) (marks : List ℕ) (xs : List X) (i : ℕ) (x : X) → slice_get xs i ≡ Some x → may_have marks (key x) ≡ true → CoversBy key marks (take i xs) → CoversBy key marks (take (i + 1) xs)
covers_next key marks xs i x e h c =
    let same : suc i ≡ i + 1 = omega arith in
    subst (λ k. CoversBy key marks (take k xs)) same (covers_one_more key marks xs i x e h c)

pub covers_all : {X : Type 0} (key : X → List ℕ) (marks : List ℕ) (xs : List X) (i : ℕ) → length xs ≤ i → CoversBy key marks (take i xs) → CoversBy key marks xs
covers_all key marks xs i l c = subst (CoversBy key marks) (take_all i xs l) c

-- where there are no words each key may be there
pub none_covers : {X : Type 0} (key : X → List ℕ) (marks : List ℕ) (xs : List X) → length marks ≡ 0 → CoversBy key marks xs
none_covers key marks [] e = tt
none_covers key marks (x ∷ xs) e = (sym (all_may_be marks (key x) e), none_covers key marks xs e)

pub covers_at : {X : Type 0} (key : X → List ℕ) (marks : List ℕ) (xs : List X) (i : ℕ) (x : X) → CoversBy key marks xs → slice_get xs i ≡ Some x → may_have marks (key x) ≡ true
covers_at key marks [] i x c e = let none = slice_get_within [] i x e in absurd (omega arith)
covers_at key marks (y ∷ xs) zero x c e = subst (λ z. may_have marks (key z) ≡ true) (ap (λ o. unwrap_or o x) e) c.0
covers_at key marks (y ∷ xs) (suc i) x c e = covers_at key marks xs i x c.1 e
