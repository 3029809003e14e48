-- Bytes that are written, as the list of what they hold.
use Rattle.std.proofs.Common.{◌≡◌, ℕ, List, [], ◌∷◌, ◌++◌, map, length, take, drop, Option, Some, refl, sym, ap, ◌∙◌}
use Rattle.std.proofs.lemmas.List.{length-map, map-append, take-map, drop-map}
use Rattle.stow_raw.specs.Cells.{written, IsWritten}

pub written-map : (xs : List ℕ) → written (map Some xs) ≡ xs
written-map [] = refl
written-map (x ∷ xs) = ap (λ l. x ∷ l) (written-map xs)

-- bytes that are a list's are written
pub written_as : (cs : List (Option ℕ)) (xs : List ℕ) → cs ≡ map Some xs → IsWritten cs × (written cs ≡ xs)
written_as cs xs e = let here : written cs ≡ xs = ap written e ∙ written-map xs in (e ∙ ap (map Some) (sym here), here)

pub length-written : (cs : List (Option ℕ)) → IsWritten cs → length (written cs) ≡ length cs
length-written cs e = sym (ap length e ∙ length-map (written cs) Some)

pub written_take : (n : ℕ) (cs : List (Option ℕ)) → IsWritten cs → IsWritten (take n cs) × (written (take n cs) ≡ take n (written cs))
written_take n cs e = written_as (take n cs) (take n (written cs)) (ap (take n) e ∙ take-map Some n (written cs))

pub written_drop : (n : ℕ) (cs : List (Option ℕ)) → IsWritten cs → IsWritten (drop n cs) × (written (drop n cs) ≡ drop n (written cs))
written_drop n cs e = written_as (drop n cs) (drop n (written cs)) (ap (drop n) e ∙ drop-map Some n (written cs))

pub written_append : (cs : List (Option ℕ)) (xs : List ℕ) → IsWritten cs → IsWritten (cs ++ map Some xs) × (written (cs ++ map Some xs) ≡ written cs ++ xs)
written_append cs xs e = written_as (cs ++ map Some xs) (written cs ++ xs) (ap (λ l. l ++ map Some xs) e ∙ sym (map-append Some (written cs) xs))
