-- Lists that are the same up to a place.
use Rattle.std.proofs.Common.{◌≡◌, ◌≢◌, ℕ, ◌+◌, ◌<◌, List, [], ◌∷◌, ◌++◌, length, take, map, get_or, ap, sym, ◌∙◌}
use Rattle.std.proofs.lemmas.List.{take_more, get_or_default, get_or-map, length-map}

-- what both have at the place, at one default
here : {X : Type 0} (xs ys : List X) (i : ℕ) (x y : X) → x ≡ get_or xs i x → y ≡ get_or ys i y → i < length ys → x ≡ y → get_or xs i x ≡ get_or ys i x
here xs ys i x y at_x at_y within same = sym at_x ∙ same ∙ at_y ∙ get_or_default ys i y x within

pub take_same : {X : Type 0} (xs ys : List X) (i : ℕ) (x y : X) → x ≡ get_or xs i x → y ≡ get_or ys i y → i < length xs → i < length ys → x ≡ y → take i xs ≡ take i ys → take (i + 1) xs ≡ take (i + 1) ys
take_same xs ys i x y at_x at_y in_x in_y same before =
    take_more xs i x in_x ∙ (λ k. before k ++ here xs ys i x y at_x at_y in_y same k ∷ []) ∙ sym (take_more ys i x in_y)

pub differ_at : {X : Type 0} (xs ys : List X) (i : ℕ) (x y : X) → x ≡ get_or xs i x → y ≡ get_or ys i y → i < length ys → x ≢ y → xs ≢ ys
differ_at xs ys i x y at_x at_y within differ e = differ (at_x ∙ ap (λ l. get_or l i x) e ∙ get_or_default ys i x y within ∙ sym at_y)

-- the same of lists that are mapped
pub mapped_at : {X Y : Type 0} (f : X → Y) (xs : List X) (i : ℕ) (x : X) → i < length xs → x ≡ get_or xs i x → f x ≡ get_or (map f xs) i (f x)
mapped_at f xs i x within at = ap f at ∙ sym (get_or-map f xs i x (f x) within)

pub length_of_map : {X Y : Type 0} (f : X → Y) (xs : List X) (i : ℕ) → i < length xs → i < length (map f xs)
length_of_map f xs i within = rw (length-map xs f) within
