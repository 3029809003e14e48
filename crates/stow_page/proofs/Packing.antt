-- Versions that stand in a block, each at its place.
use Rattle.std.proofs.Common.{◌≡◌, ℕ, zero, suc, ◌+◌, ◌<◌, ◌≤◌, List, [], ◌∷◌, ◌++◌, length, get_or, drop, refl, sym, ◌∙◌, ap, subst, arith, length-append, length-drop, append_assoc, lit<, Some}
use Rattle.std.proofs.Math.Seq.{drop-append_seam}
use Rattle.std.specs.List.Sorted.{IsStrictlySortedBy}
use Rattle.std.proofs.lemmas.List.{length-map}
use Rattle.std.specs.Option.{unwrap_or, option_map}
use Rattle.std.proofs.lemmas.Option.{slice_get_within, slice_get-get_or, slice_get-map, get_or_from_slice_get}
use Rattle.std.specs.List.{slice_get}
use Rattle.stow_tree_model.specs.Version.{Version}
use Rattle.stow_page.specs.Format.{entry, entries, header, packed_in, packed_page, format_of, places_from, places_of, IsTold, AreTold, IsVersion, AreVersions}
use Rattle.stow_page.specs.declared.format.Format.{Format}
use Rattle.stow_page.specs.declared.format.Format.TheVariants.{One}
use Rattle.stow_page.specs.Rows.{version_in, rows_in, IsAtFront, ArePacked}
use Rattle.stow_page.proofs.Entries.{version_in-at, parts_at}
use Rattle.stow_page.proofs.Formats.{told_in_own}

module _ (format : Format) where
  -- the bytes from the place of the first entry on
  at_front : (front : List ℕ) (v : Version) (later : List ℕ) → IsVersion v → IsTold format v.value → IsAtFront format v (drop (length front) (front ++ (entry format v ++ later)))
  at_front front v later h told = record { rest = later; is_entry = drop-append_seam front (entry format v ++ later); is_version = h; is_told = told }

  -- the places of later entries, where the first one belongs to the front
  longer : (front : List ℕ) (v : Version) → length (front ++ entry format v) ≡ length front + length (entry format v)
  longer front v = length-append front (entry format v)

  pub is_at : (front : List ℕ) (rows : List Version) (i : ℕ) (v : Version) → AreVersions rows → AreTold format rows → slice_get rows i ≡ Some v → IsAtFront format v (drop (get_or (places_from format (length front) rows) i 0) (front ++ entries format rows))
  unfolding places_from
  is_at front [] i v all told e = let none = slice_get_within [] i v e in absurd (omega arith)
  is_at front (w ∷ later) zero v all told e =
      let same : w ≡ v = ap (λ o. unwrap_or o v) e in
      subst (λ u. IsAtFront format u (drop (length front) (front ++ (entry format w ++ entries format later)))) same (at_front front w (entries format later) all.0 told.0)
  is_at front (w ∷ later) (suc i) v all told e =
      let there = is_at (front ++ entry format w) later i v all.1 told.1 e in
      subst (IsAtFront format v) (λ k. drop (get_or (places_from format (longer front w k) later) i 0) (append_assoc front (entry format w) (entries format later) k)) there

  pub rows_in-packed : (front : List ℕ) (rows : List Version) → AreVersions rows → AreTold format rows → rows_in format (front ++ entries format rows) (places_from format (length front) rows) ≡ rows
  unfolding places_from
  rows_in-packed front [] all told = refl
  rows_in-packed front (v ∷ later) all told =
      let first : version_in format (drop (length front) (front ++ (entry format v ++ entries format later))) ≡ v = version_in-at format v _ (at_front front v (entries format later) all.0 told.0) in
      let more : rows_in format ((front ++ entry format v) ++ entries format later) (places_from format (length (front ++ entry format v)) later) ≡ later = rows_in-packed (front ++ entry format v) later all.1 told.1 in
      let others : rows_in format (front ++ (entry format v ++ entries format later)) (places_from format (length front + length (entry format v)) later) ≡ later =
      subst (λ rows. rows ≡ later) (λ k. rows_in format (append_assoc front (entry format v) (entries format later) k) (places_from format (longer front v k) later)) more in
      λ k. first k ∷ others k

-- the versions that stand in a block are those that its bytes are the page of
pub rows_in-page : (rows : List Version) → AreVersions rows → rows_in (format_of rows) (packed_page rows) (places_of rows) ≡ rows
unfolding packed_page packed_in
rows_in-page rows all = rows_in-packed (format_of rows) (header (format_of rows) (length rows)) rows all (told_in_own rows all)

-- each version of a page stands at its place
is_at_place_of : (rows : List Version) (i : ℕ) (v : Version) → AreVersions rows → slice_get rows i ≡ Some v → IsAtFront (format_of rows) v (drop (get_or (places_of rows) i 0) (packed_page rows))
unfolding packed_page packed_in
is_at_place_of rows i v all e = is_at (format_of rows) (header (format_of rows) (length rows)) rows i v all (told_in_own rows all) e

-- each version of a block stands at its place
pub is_at_place : (format : Format) (bytes places : List ℕ) (rows : List Version) (i : ℕ) (v : Version) → ArePacked format bytes places rows → slice_get rows i ≡ Some v → IsAtFront format v (drop (get_or places i 0) bytes)
is_at_place format bytes places rows i v h e =
    subst (λ f. IsAtFront f v (drop (get_or places i 0) bytes)) (sym h.is_format)
    (subst (IsAtFront (format_of rows) v) (λ k. drop (get_or (sym h.are_places k) i 0) (sym h.is_page k)) (is_at_place_of rows i v h.are_versions e))

-- what a look at a block's place finds: the version that stands there in the order
pub record IsFound (format : Format) (bytes places : List ℕ) (i place : ℕ) : Type 0 where
  pub is_at : IsAtFront format (version_in format (drop place bytes)) (drop place bytes)
  pub is_version : slice_get (rows_in format bytes places) i ≡ Some (version_in format (drop place bytes))
  pub within : place ≤ length bytes

pub found : (format : Format) (bytes places : List ℕ) (i place : ℕ) → ArePacked format bytes places (rows_in format bytes places) → i < length places → place ≡ get_or places i place → IsFound format bytes places i place
found format bytes places i place h low e =
    let there : slice_get places i ≡ Some place = slice_get-get_or places i place low ∙ ap Some (sym e) in
    let version : slice_get (rows_in format bytes places) i ≡ Some (version_in format (drop place bytes)) = slice_get-map (λ p. version_in format (drop p bytes)) places i ∙ ap (option_map (λ p. version_in format (drop p bytes))) there in
    let at : IsAtFront format (version_in format (drop place bytes)) (drop place bytes) =
    subst (λ p. IsAtFront format (version_in format (drop place bytes)) (drop p bytes)) (get_or_from_slice_get places i place 0 there)
    (is_at_place format bytes places (rows_in format bytes places) i (version_in format (drop place bytes)) h version) in
    let long = (parts_at format (version_in format (drop place bytes)) (drop place bytes) at).long in
    let left = length-drop place bytes in
    record { is_at = at; is_version = version; within = omega arith }

-- an index of a block's versions is one of its places
pub within_places : (format : Format) (bytes places : List ℕ) (rows : List Version) (i : ℕ) → rows_in format bytes places ≡ rows → i < length rows → i < length places
within_places format bytes places rows i e low =
    let same : length rows ≡ length places = ap length (sym e) ∙ length-map places (λ p. version_in format (drop p bytes)) in
    omega arith

-- no versions in a block of a header
pub none_packed : ArePacked One (1 ∷ 0 ∷ 0 ∷ 0 ∷ 0 ∷ []) [] []
unfolding packed_page packed_in format_of places_from IsStrictlySortedBy
none_packed = record { is_page = refl; is_format = refl; are_places = refl; are_versions = tt; rise = tt; is_addressed = lit< tt }
