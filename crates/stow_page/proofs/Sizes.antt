-- How many bytes versions have in each format.
use Rattle.std.proofs.Common.{◌≡◌, ℕ, ◌+◌, ◌*◌, ◌<◌, ◌≤◌, ◌^◌, List, [], ◌∷◌, ◌++◌, length, take, sym, ◌∙◌, ap, arith, length-append, Option, Some, None}
use Rattle.std.proofs.lemmas.List.{take_more, take_all}
use Rattle.std.proofs.lemmas.Option.{get_or_from_slice_get}
use Rattle.std.specs.List.{slice_get}
use Rattle.stow_tree_model.specs.Version.{Version}
use Rattle.stow_page.specs.Format.{entry, entries, tail, packed_in, packed_page, format_of, AreTold}
use Rattle.stow_page.specs.Rows.{rows_in, wider, ArePacked}
use Rattle.stow_page.specs.declared.format.Format.{Format}
use Rattle.stow_page.specs.declared.format.Format.TheVariants.{One, Two}
use Rattle.stow_page.proofs.Formats.{format_of-append, format_of-short, none_long_in_one}
use Rattle.stow_page.proofs.Pushed.{fewer_than_bytes, length-block, length-entries, length-entries-push, length-entry, length-packed_in, length-packed_page}

-- format 1 takes no more bytes than the other
tail_in_one : (format : Format) (value : Option (List ℕ)) → length (tail One value) ≤ length (tail format value)
tail_in_one One value = omega arith
tail_in_one Two None = omega arith
tail_in_one Two (Some value) = omega arith

entry_in_one : (format : Format) (v : Version) → length (entry One v) ≤ length (entry format v)
entry_in_one format v =
    let one = length-entry One v in
    let other = length-entry format v in
    let fewer = tail_in_one format v.value in
    omega arith

entries_in_one : (format : Format) (rows : List Version) → length (entries One rows) ≤ length (entries format rows)
entries_in_one format [] = omega arith
entries_in_one format (v ∷ later) =
    let one = length-append (entry One v) (entries One later) in
    let other = length-append (entry format v) (entries format later) in
    let first = entry_in_one format v in
    let more = entries_in_one format later in
    omega arith

-- versions take no more bytes in the format of their page than in one that can tell them
pub entries_in_own : (format : Format) (rows : List Version) → AreTold format rows → length (entries (format_of rows) rows) ≤ length (entries format rows)
entries_in_own One rows told = let same = ap (λ f. length (entries f rows)) (format_of-short rows (none_long_in_one rows told)) in omega arith
entries_in_own Two rows told = by (format_of rows)
  where
    by : (f : Format) → length (entries f rows) ≤ length (entries Two rows)
    by One = entries_in_one Two rows
    by Two = omega arith

-- ---- the versions of a block

pub few_rows : (format : Format) (bytes places : List ℕ) (rows : List Version) → ArePacked format bytes places rows → length rows < 2 ^ 32
few_rows format bytes places rows h =
    let e = length-block format bytes places rows h in
    let fewer = fewer_than_bytes format rows in
    let low = h.is_addressed in
    omega arith

-- a block has as many bytes as its versions in its format
pub own_length : (format other : Format) (bytes places : List ℕ) (rows : List Version) → ArePacked format bytes places (rows_in format bytes places) → rows_in format bytes places ≡ rows → format ≡ other → length bytes ≡ length (packed_in other rows)
own_length format other bytes places rows h e f =
    length-block format bytes places (rows_in format bytes places) h ∙ (λ i. 5 + length (entries (f i) (e i))) ∙ sym (length-packed_in other rows)

-- the next of some versions
pub next_version : (rows : List Version) (i : ℕ) (v : Version) → i < length rows → slice_get rows i ≡ Some v → take (i + 1) rows ≡ take i rows ++ v ∷ []
next_version rows i v low e = take_more rows i v low ∙ ap (λ w. take i rows ++ w ∷ []) (get_or_from_slice_get rows i v v e)

-- so many versions were counted, which have so many bytes with a header
pub record IsSummed (format : Format) (rows : List Version) (i len : ℕ) : Type 0 where
  pub are : len ≡ length (packed_in format (take i rows))
  pub few : len ≤ 5 + i * 1049619

module _ (format : Format) (rows : List Version) where
  pub summed_none : IsSummed format rows 0 5
  summed_none = record { are = sym (length-packed_in format []); few = omega arith }

  pub summed_more : (i len size : ℕ) (v : Version) → IsSummed format rows i len → i < length rows → slice_get rows i ≡ Some v → size ≡ length (entry format v) → size ≤ 1049619 → IsSummed format rows (i + 1) (len + size)
  summed_more i len size v h low e s few =
      let next = ap (λ vs. length (packed_in format vs)) (next_version rows i v low e) in
      let more = length-packed_in format (take i rows ++ v ∷ []) in
      let fewer = length-packed_in format (take i rows) in
      let both = length-entries-push format (take i rows) v in
      let sum = h.are in
      let most = h.few in
      record { are = omega arith; few = omega arith }

  pub summed_all : (i len : ℕ) → IsSummed format rows i len → length rows ≤ i → len ≡ length (packed_in format rows)
  summed_all i len h done = h.are ∙ ap (λ vs. length (packed_in format vs)) (take_all i rows done)

-- ---- the page of versions and others

-- the page of both has but one header
pub length-both : (f : Format) (rows more : List Version) → f ≡ wider (format_of rows) (format_of more) → length (packed_in f rows) + length (packed_in f more) ≡ length (packed_page (rows ++ more)) + 5
length-both f rows more e =
    let own : length (packed_page (rows ++ more)) ≡ 5 + length (entries f (rows ++ more)) = length-packed_page (rows ++ more) ∙ ap (λ h. 5 + length (entries h (rows ++ more))) (format_of-append rows more ∙ sym e) in
    let lower = length-packed_in f rows in
    let upper = length-packed_in f more in
    let both = length-entries f rows more in
    omega arith

pub length-with : (f : Format) (rows : List Version) (v : Version) → f ≡ format_of (rows ++ v ∷ []) → length (packed_in f rows) + length (entry f v) ≡ length (packed_page (rows ++ v ∷ []))
length-with f rows v e =
    let own : length (packed_page (rows ++ v ∷ [])) ≡ 5 + length (entries f (rows ++ v ∷ [])) = length-packed_page (rows ++ v ∷ []) ∙ ap (λ h. 5 + length (entries h (rows ++ v ∷ []))) (sym e) in
    let lower = length-packed_in f rows in
    let both = length-entries-push f rows v in
    omega arith
