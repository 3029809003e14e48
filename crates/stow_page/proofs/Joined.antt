-- A block of versions, and others above them.
use Rattle.std.proofs.Common.{◌≡◌, ℕ, zero, suc, ◌+◌, ◌-◌, ◌<◌, ◌≤◌, ◌^◌, List, [], ◌∷◌, ◌++◌, length, map, drop, get_or, refl, sym, ◌∙◌, ap, subst, arith, length-append, append_assoc, add_assoc, Some}
use Rattle.std.specs.List.{All, slice_get}
use Rattle.std.specs.Option.{unwrap_or}
use Rattle.stow_tree_model.specs.Version.{Version}
use Rattle.stow_tree_model.specs.Order.{VersionsRise}
use Rattle.stow_page.specs.Format.{entry, entries, header, packed_page, format_of, places_from}
use Rattle.stow_page.specs.Rows.{rows_in, wider, ArePacked, with_count}
use Rattle.stow_page.specs.declared.format.Format.{Format}
use Rattle.stow_page.proofs.Formats.{format_of-append, wider-self}
use Rattle.stow_page.proofs.Pushed.{IsWritten, CanBeWritten, are_all, block_in, block_has_header, count_is_low, entries-append, length-block, length-entries, length-packed_page, length-places_from, places_from-append, places_in, written_in}

-- the block that stands for versions, as those
pub block_of : (format : Format) (bytes places : List ℕ) (rows : List Version) → ArePacked format bytes places (rows_in format bytes places) → rows_in format bytes places ≡ rows → ArePacked format bytes places rows
block_of format bytes places rows h e = subst (ArePacked format bytes places) e h

-- an upper block has the lower one's format
pub alike_block : (f g : Format) (lower_bytes lower_places bytes places : List ℕ) (rows more : List Version) → ArePacked f lower_bytes lower_places (rows_in f lower_bytes lower_places) → rows_in f lower_bytes lower_places ≡ rows
    → ArePacked g bytes places (rows_in g bytes places) → rows_in g bytes places ≡ more → format_of rows ≡ format_of more → ArePacked f bytes places more
alike_block f g lower_bytes lower_places bytes places rows more low e up u alike =
    subst (λ h. ArePacked h bytes places more) (up.is_format ∙ ap format_of u ∙ sym alike ∙ ap format_of (sym e) ∙ sym low.is_format) (block_of g bytes places more up u)

-- what can be joined can be written
pub joined_can : (f g : Format) (lower_bytes lower_places upper_bytes upper_places : List ℕ) (rows more : List Version) → ArePacked f lower_bytes lower_places rows → ArePacked g upper_bytes upper_places more → VersionsRise (rows ++ more) → length (packed_page (rows ++ more)) < 2 ^ 32 → CanBeWritten (rows ++ more)
joined_can f g lower_bytes lower_places upper_bytes upper_places rows more low up rise room = record { are_versions = are_all rows more low.are_versions up.are_versions; rise = rise; room = room }

-- versions of one format have it together
pub alike_format : (rows more : List Version) → format_of rows ≡ format_of more → format_of (rows ++ more) ≡ format_of rows
alike_format rows more e = format_of-append rows more ∙ ap (wider (format_of rows)) (sym e) ∙ wider-self (format_of rows)

module _ (format : Format) where
  pub places_from-moved : (by n : ℕ) (rows : List Version) → places_from format (by + n) rows ≡ map (λ place. by + place) (places_from format n rows)
  unfolding places_from
  places_from-moved by n [] = refl
  places_from-moved by n (v ∷ later) = ap (λ ps. (by + n) ∷ ps) (ap (λ m. places_from format m later) (add_assoc by n (length (entry format v))) ∙ places_from-moved by (n + length (entry format v)) later)

  -- where the places of the upper versions stand, once they stand behind the lower ones
  joined_places : (rows more : List Version) (by : ℕ) → by ≡ length (entries format rows) → places_from format 5 (rows ++ more) ≡ places_from format 5 rows ++ map (λ place. by + place) (places_from format 5 more)
  joined_places rows more by e =
      let there : 5 + length (entries format rows) ≡ by + 5 = omega (arith, e) in
      places_from-append format 5 rows more ∙ ap (λ ps. places_from format 5 rows ++ ps) (ap (λ m. places_from format m more) there ∙ places_from-moved by 5 more)

  -- a block's bytes but for the header
  pub header_cut : (bytes places : List ℕ) (rows : List Version) (len : ℕ) → ArePacked format bytes places rows → len ≡ length bytes → (5 ≤ len) × (len - 5 + 5 ≡ length bytes)
  header_cut bytes places rows len h e = let l = block_has_header format bytes places rows h in (omega (arith, l, e), omega (arith, l, e))

  -- the places of both
  pub both_places : (places lower_bytes lower_places upper_bytes upper_places : List ℕ) (rows more : List Version) (by : ℕ) → ArePacked format lower_bytes lower_places rows → ArePacked format upper_bytes upper_places more → by + 5 ≡ length lower_bytes
      → places ≡ lower_places ++ map (λ place. by + place) upper_places → places ≡ places_from format 5 (rows ++ more)
  both_places places lower_bytes lower_places upper_bytes upper_places rows more by low up b p =
      let l = length-block format lower_bytes lower_places rows low in
      p ∙ (λ i. places_in format lower_bytes lower_places rows low i ++ map (λ place. by + place) (places_in format upper_bytes upper_places more up i)) ∙ sym (joined_places rows more by (omega (arith, l, b)))

  -- are counted in four bytes
  pub count_fits : (places : List ℕ) (rows : List Version) → places ≡ places_from format 5 rows → length (packed_page rows) < 2 ^ 32 → length places < 2 ^ 32
  count_fits places rows e room = let l = ap length e ∙ length-places_from format 5 rows in let low = count_is_low rows room in omega arith

  -- the bytes of both
  both_bytes : (lower_bytes lower_places upper_bytes upper_places : List ℕ) (rows more : List Version) → ArePacked format lower_bytes lower_places rows → ArePacked format upper_bytes upper_places more → lower_bytes ++ drop 5 upper_bytes ≡ header format (length rows) ++ entries format (rows ++ more)
  both_bytes lower_bytes lower_places upper_bytes upper_places rows more low up =
      (λ i. block_in format lower_bytes lower_places rows low i ++ drop 5 (block_in format upper_bytes upper_places more up i))
      ∙ append_assoc (header format (length rows)) (entries format rows) (entries format more) ∙ ap (λ b. header format (length rows) ++ b) (sym (entries-append format rows more))

  pub joined : (bytes places lower_bytes lower_places upper_bytes upper_places : List ℕ) (rows more : List Version) (by : ℕ) → ArePacked format lower_bytes lower_places rows → ArePacked format upper_bytes upper_places more → VersionsRise (rows ++ more) → length (packed_page (rows ++ more)) < 2 ^ 32
      → by + 5 ≡ length lower_bytes → places ≡ lower_places ++ map (λ place. by + place) upper_places → bytes ≡ with_count (lower_bytes ++ drop 5 upper_bytes) (length places) → IsWritten format bytes places (rows ++ more)
  joined bytes places lower_bytes lower_places upper_bytes upper_places rows more by low up rise room b p e =
      written_in format bytes places (length rows) (rows ++ more) (joined_can format format lower_bytes lower_places upper_bytes upper_places rows more low up rise room)
      (low.is_format ∙ sym (alike_format rows more (sym low.is_format ∙ up.is_format)))
      (e ∙ ap (λ c. with_count c (length places)) (both_bytes lower_bytes lower_places upper_bytes upper_places rows more low up))
      (both_places places lower_bytes lower_places upper_bytes upper_places rows more by low up b p)

  -- places stand before the end of the bytes
  low_places : (by n : ℕ) (rows : List Version) (d : ℕ) (i : ℕ) → i < length (places_from format n rows) → by + n + length (entries format rows) < 2 ^ 32 → by + get_or (places_from format n rows) i d < 2 ^ 32
  unfolding places_from
  low_places by n [] d i l h = absurd (omega arith)
  low_places by n (v ∷ later) d zero l h = omega arith
  low_places by n (v ∷ later) d (suc i) l h = low_places by (n + length (entry format v)) later d i (omega arith) (let e = length-append (entry format v) (entries format later) in omega arith)

  pub places_fit : (lower_bytes lower_places upper_bytes upper_places : List ℕ) (rows more : List Version) (by : ℕ) → ArePacked format lower_bytes lower_places rows → ArePacked format upper_bytes upper_places more → length (packed_page (rows ++ more)) < 2 ^ 32 → by + 5 ≡ length lower_bytes
      → All (λ place. by + place < 2 ^ 32) upper_places
  places_fit lower_bytes lower_places upper_bytes upper_places rows more by low up room b i d l =
      let stand = places_in format upper_bytes upper_places more up in
      subst (λ ps. by + get_or ps i d < 2 ^ 32) (sym stand)
      (low_places by 5 more d i (subst (λ ps. i < length ps) stand l)
      (let moved = length-block format lower_bytes lower_places rows low in
      let own : format ≡ format_of (rows ++ more) = low.is_format ∙ sym (alike_format rows more (sym low.is_format ∙ up.is_format)) in
      let whole : length (packed_page (rows ++ more)) ≡ 5 + length (entries format (rows ++ more)) = length-packed_page (rows ++ more) ∙ ap (λ f. 5 + length (entries f (rows ++ more))) (sym own) in
      let both = length-entries format rows more in
      omega (arith, moved, whole, both, room, b)))

-- one version at the first place of a list of one
pub lone : (rows : List Version) (v : Version) → length rows ≡ 1 → slice_get rows 0 ≡ Some v → rows ≡ v ∷ []
lone [] v l e = absurd (omega arith)
lone (w ∷ []) v l e = ap (λ o. unwrap_or o v ∷ []) e
lone (w ∷ x ∷ rows) v l e = absurd (omega arith)
