-- The rows of an interval, one row on.
use Rattle.std.proofs.Common.{◌≡◌, ◌≢◌, ℕ, zero, suc, ◌-◌, true, List, [], ◌∷◌, ◌++◌, refl, ap, ◌∙◌, sym, arith, append_assoc}
use Rattle.std.specs.Prelude.{filter, take}
use Rattle.std.specs.List.{flat_map}
use Rattle.std.proofs.lemmas.Bool.{cond-true}
use Rattle.stow_model.specs.Item.{Item, Bulk}
use Rattle.stow_model.specs.Store.{Version, Shown, is_within, row_items}

first_taken : (left : ℕ) (x : Shown) (xs : List Shown) → left ≢ 0 → take left (x ∷ xs) ≡ x ∷ take (left - 1) xs
first_taken zero x xs some = absurd (some refl)
first_taken (suc m) x xs some = ap (λ n. x ∷ take n xs) (omega arith)

pub one_row-within : (from to k : List ℕ) (v : Version) (rest : List Shown) (items items' total : List Item) (left : ℕ) → is_within from to k ≡ true → left ≢ 0
    → items' ≡ (items ++ Bulk k ∷ []) ++ Bulk v.value ∷ []
    → items ++ flat_map row_items (take left (filter (λ row. is_within from to row.0) ((k, v) ∷ rest))) ≡ total
    → items' ++ flat_map row_items (take (left - 1) (filter (λ row. is_within from to row.0) rest)) ≡ total
one_row-within from to k v rest items items' total left inside some more e =
    let later : List Shown = filter (λ row. is_within from to row.0) rest in
    let found : filter (λ row. is_within from to row.0) ((k, v) ∷ rest) ≡ (k, v) ∷ filter (λ row. is_within from to row.0) rest = cond-true (is_within from to k) _ _ inside in
    ap (λ t. t ++ flat_map row_items (take (left - 1) later)) more
    ∙ append_assoc (items ++ Bulk k ∷ []) (Bulk v.value ∷ []) (flat_map row_items (take (left - 1) later))
    ∙ append_assoc items (Bulk k ∷ []) (Bulk v.value ∷ flat_map row_items (take (left - 1) later))
    ∙ sym (ap (λ t. items ++ flat_map row_items t) (ap (take left) found ∙ first_taken left (k, v) later some))
    ∙ e
