-- What the code makes, step by step.
use Rattle.std.proofs.Common.{◌≡◌, ◌≢◌, ℕ, zero, suc, ◌+◌, ◌<◌, List, [], ◌∷◌, ◌++◌, take, length, map, get_or, Some, refl, ap, ◌∙◌, sym, arith}
use Rattle.std.specs.Prelude.{slice_get, Result, Ok, Err, IfOk}
use Rattle.std.proofs.lemmas.List.{map-append, take_more, length-take-le}
use Rattle.stow_merge.specs.StowTreeModel.TreeMessage.{TreeMessage, message_of}
use Rattle.stow_merge.specs.StowTreeModel.declared.message.Message as lent
use Rattle.stow_merge.specs.StowTreeModel.Version.{Version}
use Rattle.stow_merge.specs.StowMessage.Rising.{in_range}
use Rattle.stow_leaf.specs.LeafRows.{leaf_rows}
use Rattle.stow_leaf.specs.Making.{first_key, fenced, leaves_from, AreFilled}
use Rattle.stow_leaf.specs.declared.leaf.Leaf.{Leaf}

pub inside_of : {X : Type 0} (xs : List X) (i : ℕ) (x : X) → slice_get xs i ≡ Some x → i < length xs
inside_of [] i x e = absurd cc
inside_of (y ∷ ys) zero x e = omega arith
inside_of (y ∷ ys) (suc i) x e = omega (arith, inside_of ys i x e)

-- ---- leaves of pages

fenced_then : (xs : List (List Version)) (p : List Version) → fenced (xs ++ p ∷ []) ≡ fenced xs ++ (first_key p, p) ∷ []
fenced_then [] p = refl
fenced_then (x ∷ xs) p = ap (λ l. (first_key x, x) ∷ l) (fenced_then xs p)

leaves_then : (low : List ℕ) (xs : List (List Version)) (p : List Version) → 0 < length xs → leaves_from low (xs ++ p ∷ []) ≡ leaves_from low xs ++ (first_key p, p) ∷ []
leaves_then low [] p l = absurd (omega arith)
leaves_then low (x ∷ xs) p l = ap (λ l. (low, x) ∷ l) (fenced_then xs p)

more_pages : (pages : List (List Version)) (i : ℕ) (p : List Version) → i < length pages → p ≡ get_or pages i p → take (i + 1) pages ≡ take i pages ++ p ∷ []
more_pages pages i p l e = take_more pages i p l ∙ ap (λ w. take i pages ++ w ∷ []) (sym e)

pub first_leaf : {A : Type 0} (leaves : List (Leaf A)) (low fence : List ℕ) (pages : List (List Version)) (i : ℕ) (p : List Version) → map leaf_rows leaves ≡ leaves_from low (take i pages) → i < length pages → p ≡ get_or pages i p → i ≡ 0 → fence ≡ low
    → map leaf_rows (leaves ++ record { low = fence; rows = p } ∷ []) ≡ leaves_from low (take (i + 1) pages)
first_leaf leaves low fence pages i p so l e z f =
    map-append leaf_rows leaves (record { low = fence; rows = p } ∷ [])
    ∙ ap (λ ls. ls ++ (fence, p) ∷ []) (so ∙ ap (λ k. leaves_from low (take k pages)) z)
    ∙ ap (λ k. (k, p) ∷ []) f
    ∙ ap (λ k. leaves_from low (take k pages ++ p ∷ [])) (sym z)
    ∙ ap (leaves_from low) (sym (more_pages pages i p l e))

pub next_leaf : {A : Type 0} (leaves : List (Leaf A)) (low fence : List ℕ) (pages : List (List Version)) (i : ℕ) (p : List Version) → map leaf_rows leaves ≡ leaves_from low (take i pages) → i < length pages → p ≡ get_or pages i p → 0 < i → fence ≡ first_key p
    → map leaf_rows (leaves ++ record { low = fence; rows = p } ∷ []) ≡ leaves_from low (take (i + 1) pages)
next_leaf leaves low fence pages i p so l e z f =
    map-append leaf_rows leaves (record { low = fence; rows = p } ∷ [])
    ∙ ap (λ ls. ls ++ (fence, p) ∷ []) so
    ∙ ap (λ k. leaves_from low (take i pages) ++ (k, p) ∷ []) f
    ∙ sym (leaves_then low (take i pages) p (let k = length-take-le i pages (omega arith) in omega arith))
    ∙ ap (leaves_from low) (sym (more_pages pages i p l e))

-- no page but the first is empty
pub is_filled_at : (pages : List (List Version)) (i : ℕ) (p : List Version) → AreFilled pages → 0 < i → i < length pages → p ≡ get_or pages i p → p ≢ []
is_filled_at pages zero p filled z l e = absurd (omega arith)
is_filled_at pages (suc i) p filled z l e = λ none. filled i p l (sym e ∙ none)

-- what follows for a value, if there is one
pub if_ok : {T E : Type 0} (r : Result T E) (P Q : T → Type 0) → ((x : T) → P x → Q x) → IfOk r P → IfOk r Q
if_ok (Ok x) P Q f h = f x h
if_ok (Err e) P Q f h = tt

pub lent_are : (batch items : List lent.Message) (run ms : List TreeMessage) (given low high : List ℕ) → batch ≡ items → map message_of items ≡ run → run ≡ in_range given high ms → given ≡ low → map message_of batch ≡ in_range low high ms
lent_are batch items run ms given low high a b c d = ap (map message_of) a ∙ b ∙ c ∙ ap (λ from. in_range from high ms) d
