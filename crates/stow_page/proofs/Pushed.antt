-- A version put behind those of a block.
use Rattle.std.proofs.Common.{◌≡◌, ℕ, suc, ◌+◌, ◌<◌, ◌≤◌, ◌^◌, List, [], ◌∷◌, ◌++◌, length, refl, sym, ◌∙◌, ap, subst, arith, length-append, append_assoc, add_assoc, lit≤}
use Rattle.std.proofs.lemmas.List.{append-nil}
use Rattle.std.proofs.lemmas.Grind.{flat_map-append}
use Rattle.std.specs.Int.{to_be_bytes, w16, w64}
use Rattle.stow_tree_model.specs.Version.{Version}
use Rattle.stow_tree_model.specs.Order.{VersionsRise}
use Rattle.stow_page.specs.Format.{entry, place_bytes, entries, header, packed_in, packed_page, format_of, places_from, tail, IsVersion, AreVersions}
use Rattle.stow_page.specs.Rows.{rows_in, ArePacked, HasRoomFor, with_count}
use Rattle.stow_page.specs.declared.format.Format.{Format}
use Rattle.stow_page.proofs.Packing.{rows_in-page}

-- ---- entries and places, in one format

module _ (format : Format) where
  pub entries-append : (rows more : List Version) → entries format (rows ++ more) ≡ entries format rows ++ entries format more
  entries-append rows more = flat_map-append (entry format) rows more

  pub entries-push : (rows : List Version) (v : Version) → entries format (rows ++ v ∷ []) ≡ entries format rows ++ entry format v
  entries-push rows v = entries-append rows (v ∷ []) ∙ ap (λ b. entries format rows ++ b) (append-nil (entry format v))

  pub places_from-append : (n : ℕ) (rows more : List Version) → places_from format n (rows ++ more) ≡ places_from format n rows ++ places_from format (n + length (entries format rows)) more
  unfolding places_from
  places_from-append n [] more = ap (λ m. places_from format m more) (omega arith)
  places_from-append n (v ∷ later) more =
      let e : n + length (entry format v) + length (entries format later) ≡ n + length (entries format (v ∷ later)) = add_assoc n (length (entry format v)) (length (entries format later)) ∙ ap (λ m. n + m) (sym (length-append (entry format v) (entries format later))) in
      ap (λ ps. n ∷ ps) (places_from-append (n + length (entry format v)) later more ∙ ap (λ m. places_from format (n + length (entry format v)) later ++ places_from format m more) e)

  lone_place : (n : ℕ) (v : Version) → places_from format n (v ∷ []) ≡ n ∷ []
  unfolding places_from
  lone_place n v = refl

  pub places_from-push : (n : ℕ) (rows : List Version) (v : Version) → places_from format n (rows ++ v ∷ []) ≡ places_from format n rows ++ (n + length (entries format rows)) ∷ []
  places_from-push n rows v = places_from-append n rows (v ∷ []) ∙ ap (λ ps. places_from format n rows ++ ps) (lone_place (n + length (entries format rows)) v)

  pub length-places_from : (n : ℕ) (rows : List Version) → length (places_from format n rows) ≡ length rows
  unfolding places_from
  length-places_from n [] = refl
  length-places_from n (v ∷ later) = ap suc (length-places_from (n + length (entry format v)) later)

  -- an entry has a byte at least
  pub entry_is_long : (v : Version) → 1 ≤ length (entry format v)
  unfolding entry
  entry_is_long v = omega arith

  pub fewer_than_bytes : (rows : List Version) → length rows ≤ length (entries format rows)
  fewer_than_bytes [] = lit≤ tt
  fewer_than_bytes (v ∷ later) =
      let more = fewer_than_bytes later in
      let one = entry_is_long v in
      let e = length-append (entry format v) (entries format later) in
      omega arith

  pub length-packed_in : (rows : List Version) → length (packed_in format rows) ≡ 5 + length (entries format rows)
  unfolding packed_in
  length-packed_in rows = length-append (header format (length rows)) (entries format rows)

  pub length-entry : (v : Version) → length (entry format v) ≡ 10 + length v.key + length (tail format v.value)
  unfolding entry
  length-entry v =
      let whole = length-append (place_bytes v.key v.number) (tail format v.value) in
      let place = length-append (to_be_bytes w16 (length v.key)) (v.key ++ to_be_bytes w64 v.number) in
      let key = length-append v.key (to_be_bytes w64 v.number) in
      omega arith

  pub length-entries : (rows more : List Version) → length (entries format (rows ++ more)) ≡ length (entries format rows) + length (entries format more)
  length-entries rows more = ap length (entries-append rows more) ∙ length-append (entries format rows) (entries format more)

  pub length-entries-push : (rows : List Version) (v : Version) → length (entries format (rows ++ v ∷ [])) ≡ length (entries format rows) + length (entry format v)
  length-entries-push rows v = ap length (entries-push rows v) ∙ length-append (entries format rows) (entry format v)

pub packed_page_is : (rows : List Version) → packed_page rows ≡ packed_in (format_of rows) rows
unfolding packed_page
packed_page_is rows = refl

pub length-packed_page : (rows : List Version) → length (packed_page rows) ≡ 5 + length (entries (format_of rows) rows)
length-packed_page rows = ap length (packed_page_is rows) ∙ length-packed_in (format_of rows) rows

-- the count of a page's versions has four bytes
pub count_is_low : (rows : List Version) → length (packed_page rows) < 2 ^ 32 → length rows < 2 ^ 32
count_is_low rows h =
    let fewer = fewer_than_bytes (format_of rows) rows in
    let e = length-packed_page rows in
    omega arith

-- ---- a block that was written

-- the block stands for these versions
pub record IsWritten (format : Format) (bytes places : List ℕ) (rows : List Version) : Type 0 where
  pub are_packed : ArePacked format bytes places (rows_in format bytes places)
  pub are_rows : rows_in format bytes places ≡ rows

pub written : (format : Format) (bytes places : List ℕ) (rows : List Version) → ArePacked format bytes places rows → IsWritten format bytes places rows
written format bytes places rows h =
    let same : rows_in format bytes places ≡ rows = (λ i. rows_in (h.is_format i) (h.is_page i) (h.are_places i)) ∙ rows_in-page rows h.are_versions in
    record { are_packed = subst (ArePacked format bytes places) (sym same) h; are_rows = same }

-- a block's versions can be written
pub record CanBeWritten (rows : List Version) : Type 0 where
  pub are_versions : AreVersions rows
  pub rise : VersionsRise rows
  pub room : length (packed_page rows) < 2 ^ 32

-- a header, with a count or not yet, and the entries of versions
pub header_counted : (format : Format) (n count : ℕ) (bytes : List ℕ) → with_count (header format n ++ bytes) count ≡ header format count ++ bytes
header_counted format n count bytes = refl

-- a block is written once its count is
pub written_in : (format : Format) (bytes places : List ℕ) (n : ℕ) (rows : List Version) → CanBeWritten rows → format ≡ format_of rows → bytes ≡ with_count (header format n ++ entries format rows) (length places) → places ≡ places_from format 5 rows → IsWritten format bytes places rows
unfolding packed_in
written_in format bytes places n rows can f b p =
    let count : length places ≡ length rows = ap length p ∙ length-places_from format 5 rows in
    let page : bytes ≡ packed_page rows = b ∙ (λ i. with_count (header format n ++ entries format rows) (count i)) ∙ (λ i. packed_in (f i) rows) ∙ sym (packed_page_is rows) in
    written format bytes places rows (record {
      is_page = page;
      is_format = f;
      are_places = p ∙ ap (λ g. places_from g 5 rows) f;
      are_versions = can.are_versions;
      rise = can.rise;
      is_addressed = subst (λ l. length l < 2 ^ 32) (sym page) can.room;
    })

pub are_all : (rows more : List Version) → AreVersions rows → AreVersions more → AreVersions (rows ++ more)
are_all [] more a b = b
are_all (v ∷ later) more a b = (a.0, are_all later more a.1 b)

-- ---- a version put behind those of a block

pub block_in : (format : Format) (bytes places : List ℕ) (rows : List Version) → ArePacked format bytes places rows → bytes ≡ header format (length rows) ++ entries format rows
unfolding packed_page packed_in
block_in format bytes places rows h = h.is_page ∙ ap (λ f. packed_in f rows) (sym h.is_format)

pub length-block : (format : Format) (bytes places : List ℕ) (rows : List Version) → ArePacked format bytes places rows → length bytes ≡ 5 + length (entries format rows)
length-block format bytes places rows h = ap length (block_in format bytes places rows h) ∙ length-append (header format (length rows)) (entries format rows)

pub block_has_header : (format : Format) (bytes places : List ℕ) (rows : List Version) → ArePacked format bytes places rows → 5 ≤ length bytes
block_has_header format bytes places rows h = let e = length-block format bytes places rows h in omega arith

pub places_in : (format : Format) (bytes places : List ℕ) (rows : List Version) → ArePacked format bytes places rows → places ≡ places_from format 5 rows
places_in format bytes places rows h = h.are_places ∙ ap (λ f. places_from f 5 rows) (sym h.is_format)

-- the block after a push that leaves the page its format
pub pushed : (format : Format) (bytes places more new : List ℕ) (rows : List Version) (v : Version) → ArePacked format bytes places rows → IsVersion v → VersionsRise (rows ++ v ∷ []) → HasRoomFor rows v → format_of rows ≡ format_of (rows ++ v ∷ [])
    → more ≡ places ++ length bytes ∷ [] → new ≡ with_count (bytes ++ entry format v) (length more) → IsWritten format new more (rows ++ v ∷ [])
pushed format bytes places more new rows v h is rise room alike p n =
    let len : 5 + length (entries format rows) ≡ length bytes = sym (length-block format bytes places rows h) in
    let stand : more ≡ places_from format 5 (rows ++ v ∷ []) = p ∙ (λ i. places_in format bytes places rows h i ++ sym len i ∷ []) ∙ sym (places_from-push format 5 rows v) in
    let page : bytes ++ entry format v ≡ header format (length rows) ++ entries format (rows ++ v ∷ []) =
    ap (λ b. b ++ entry format v) (block_in format bytes places rows h) ∙ append_assoc (header format (length rows)) (entries format rows) (entry format v) ∙ ap (λ b. header format (length rows) ++ b) (sym (entries-push format rows v)) in
    written_in format new more (length rows) (rows ++ v ∷ []) (record { are_versions = are_all rows (v ∷ []) h.are_versions (is, tt); rise = rise; room = room }) (h.is_format ∙ alike)
    (n ∙ ap (λ b. with_count b (length more)) page) stand

-- one place more can be counted in four bytes
pub places_are_few : (format : Format) (bytes places : List ℕ) (rows : List Version) (v : Version) → ArePacked format bytes places rows → HasRoomFor rows v → length places + 1 < 2 ^ 32
places_are_few format bytes places rows v h room =
    let low = count_is_low (rows ++ v ∷ []) room in
    let few = ap length (places_in format bytes places rows h) ∙ length-places_from format 5 rows in
    let e = length-append rows (v ∷ []) in
    omega arith
