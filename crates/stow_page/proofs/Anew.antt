-- Versions of blocks, written anew in format 2.
use Rattle.std.proofs.Common.{◌≡◌, ℕ, ◌+◌, ◌<◌, ◌≤◌, ◌^◌, List, [], ◌∷◌, ◌++◌, length, take, drop, sym, ◌∙◌, ap, arith, append_assoc, length-append, Some}
use Rattle.std.proofs.lemmas.List.{append-nil, take_all, take-append-drop}
use Rattle.std.specs.List.{slice_get}
use Rattle.stow_tree_model.specs.Version.{Version}
use Rattle.stow_tree_model.specs.Order.{VersionsRise}
use Rattle.stow_page.specs.Format.{entry, entries, packed_page, format_of, places_from, AreVersions}
use Rattle.stow_page.specs.Rows.{with_count}
use Rattle.stow_page.specs.declared.format.Format.TheVariants.{Two}
use Rattle.stow_page.proofs.Pushed.{IsWritten, are_all, count_is_low, entries-append, entries-push, length-entries, length-packed_page, length-places_from, places_from-append, places_from-push, written_in}
use Rattle.stow_page.proofs.Sizes.{next_version}

-- so many versions' entries were written behind bytes, and their places behind places
pub record AreAppended (bytes places old_bytes old_places : List ℕ) (rows : List Version) (i : ℕ) : Type 0 where
  pub bytes_are : bytes ≡ old_bytes ++ entries Two (take i rows)
  pub places_are : places ≡ old_places ++ places_from Two (length old_bytes) (take i rows)

pub none_appended : (bytes places : List ℕ) (rows : List Version) → AreAppended bytes places bytes places rows 0
unfolding places_from
none_appended bytes places rows = record { bytes_are = sym (append-nil bytes); places_are = sym (append-nil places) }

module _ (old_bytes old_places : List ℕ) (rows : List Version) where
  pub more_appended : (bytes places more_bytes more_places : List ℕ) (i : ℕ) (v : Version) → AreAppended bytes places old_bytes old_places rows i → i < length rows → slice_get rows i ≡ Some v
      → more_bytes ≡ bytes ++ entry Two v → more_places ≡ places ++ length bytes ∷ [] → AreAppended more_bytes more_places old_bytes old_places rows (i + 1)
  more_appended bytes places more_bytes more_places i v h low e b p =
      let next = next_version rows i v low e in
      let len : length bytes ≡ length old_bytes + length (entries Two (take i rows)) = ap length h.bytes_are ∙ length-append old_bytes (entries Two (take i rows)) in
      record {
        bytes_are = b ∙ ap (λ c. c ++ entry Two v) h.bytes_are ∙ append_assoc old_bytes (entries Two (take i rows)) (entry Two v)
            ∙ ap (λ c. old_bytes ++ c) (sym (entries-push Two (take i rows) v) ∙ ap (entries Two) (sym next));
        places_are = p ∙ (λ k. h.places_are k ++ len k ∷ []) ∙ append_assoc old_places (places_from Two (length old_bytes) (take i rows)) _
            ∙ ap (λ ps. old_places ++ ps) (sym (places_from-push Two (length old_bytes) (take i rows) v) ∙ ap (places_from Two (length old_bytes)) (sym next));
      }

  pub all_appended : (bytes places : List ℕ) (i : ℕ) → AreAppended bytes places old_bytes old_places rows i → length rows ≤ i → (bytes ≡ old_bytes ++ entries Two rows) × (places ≡ old_places ++ places_from Two (length old_bytes) rows)
  all_appended bytes places i h done =
      let all = take_all i rows done in
      (h.bytes_are ∙ ap (λ vs. old_bytes ++ entries Two vs) all, h.places_are ∙ ap (λ vs. old_places ++ places_from Two (length old_bytes) vs) all)

  pub appended_low : (bytes places : List ℕ) (i : ℕ) → AreAppended bytes places old_bytes old_places rows i → length old_bytes + length (entries Two rows) < 2 ^ 32 → length bytes < 2 ^ 32
  appended_low bytes places i h low =
      let len = ap length h.bytes_are ∙ length-append old_bytes (entries Two (take i rows)) in
      let whole = ap (λ vs. length (entries Two vs)) (take-append-drop i rows) in
      let parts = length-entries Two (take i rows) (drop i rows) in
      omega arith

-- a header whose count isn't written yet
abbrev pub blank : List ℕ
blank = 2 ∷ 0 ∷ 0 ∷ 0 ∷ 0 ∷ []

-- there is room for what a page in format 2 has in it
pub wide_room : (rows more : List Version) → format_of (rows ++ more) ≡ Two → length (packed_page (rows ++ more)) < 2 ^ 32 → 5 + length (entries Two rows) + length (entries Two more) < 2 ^ 32
wide_room rows more wide room =
    let own : length (packed_page (rows ++ more)) ≡ 5 + length (entries Two (rows ++ more)) = length-packed_page (rows ++ more) ∙ ap (λ f. 5 + length (entries f (rows ++ more))) wide in
    let both = length-entries Two rows more in
    omega arith

-- the first versions, written behind a header
pub record AreLower (bytes places : List ℕ) (rows : List Version) : Type 0 where
  pub bytes_are : bytes ≡ blank ++ entries Two rows
  pub places_are : places ≡ places_from Two 5 rows

pub lower_written : (bytes places none header_bytes no_places : List ℕ) (rows : List Version) → none ≡ [] → header_bytes ≡ none ++ blank → no_places ≡ [] → bytes ≡ header_bytes ++ entries Two rows → places ≡ no_places ++ places_from Two (length header_bytes) rows → AreLower bytes places rows
lower_written bytes places none header_bytes no_places rows n h e b p =
    let front : header_bytes ≡ blank = h ∙ ap (λ c. c ++ blank) n in
    record { bytes_are = b ∙ ap (λ c. c ++ entries Two rows) front; places_are = p ∙ (λ i. e i ++ places_from Two (length (front i)) rows) }

-- there is room for them
pub lower_room : (none header_bytes : List ℕ) (rows more : List Version) → none ≡ [] → header_bytes ≡ none ++ blank → format_of (rows ++ more) ≡ Two → length (packed_page (rows ++ more)) < 2 ^ 32 → length header_bytes + length (entries Two rows) < 2 ^ 32
lower_room none header_bytes rows more n h wide room =
    let all = wide_room rows more wide room in
    let five : length header_bytes ≡ 5 = ap length (h ∙ ap (λ c. c ++ blank) n) in
    omega arith

-- and for more behind them
pub upper_room : (bytes places : List ℕ) (rows more : List Version) → AreLower bytes places rows → format_of (rows ++ more) ≡ Two → length (packed_page (rows ++ more)) < 2 ^ 32 → length bytes + length (entries Two more) < 2 ^ 32
upper_room bytes places rows more h wide room =
    let all = wide_room rows more wide room in
    let len : length bytes ≡ 5 + length (entries Two rows) = ap length h.bytes_are ∙ length-append blank (entries Two rows) in
    omega arith

-- the bytes and places of versions and others, written one behind the other
pub record AreBoth (bytes places : List ℕ) (rows more : List Version) : Type 0 where
  pub bytes_are : bytes ≡ blank ++ entries Two (rows ++ more)
  pub places_are : places ≡ places_from Two 5 (rows ++ more)

pub both_written : (bytes places low_bytes low_places : List ℕ) (rows more : List Version) → AreLower low_bytes low_places rows → bytes ≡ low_bytes ++ entries Two more → places ≡ low_places ++ places_from Two (length low_bytes) more → AreBoth bytes places rows more
both_written bytes places low_bytes low_places rows more h b p =
    let len : length low_bytes ≡ 5 + length (entries Two rows) = ap length h.bytes_are ∙ length-append blank (entries Two rows) in
    record {
      bytes_are = b ∙ ap (λ c. c ++ entries Two more) h.bytes_are ∙ append_assoc blank (entries Two rows) (entries Two more) ∙ ap (λ c. blank ++ c) (sym (entries-append Two rows more));
      places_are = p ∙ (λ i. h.places_are i ++ places_from Two (len i) more) ∙ sym (places_from-append Two 5 rows more);
    }

pub one_more_written : (bytes places low_bytes low_places : List ℕ) (rows : List Version) (v : Version) → AreLower low_bytes low_places rows → bytes ≡ low_bytes ++ entry Two v → places ≡ low_places ++ length low_bytes ∷ [] → AreBoth bytes places rows (v ∷ [])
unfolding places_from
one_more_written bytes places low_bytes low_places rows v h b p = both_written bytes places low_bytes low_places rows (v ∷ []) h (b ∙ ap (λ c. low_bytes ++ c) (sym (append-nil (entry Two v)))) p

-- their places are counted in four bytes
pub few_places : (bytes places : List ℕ) (rows more : List Version) → AreBoth bytes places rows more → length (packed_page (rows ++ more)) < 2 ^ 32 → length places < 2 ^ 32
few_places bytes places rows more both room =
    let count = ap length both.places_are ∙ length-places_from Two 5 (rows ++ more) in
    let few = count_is_low (rows ++ more) room in
    omega arith

pub has_header : (bytes places : List ℕ) (rows more : List Version) → AreBoth bytes places rows more → 5 ≤ length bytes
has_header bytes places rows more both = let len = ap length both.bytes_are ∙ length-append blank (entries Two (rows ++ more)) in omega arith

-- the block, once the count is written
pub written_anew : (new bytes places : List ℕ) (count : ℕ) (rows more : List Version) → AreBoth bytes places rows more → AreVersions rows → AreVersions more → VersionsRise (rows ++ more) → length (packed_page (rows ++ more)) < 2 ^ 32 → format_of (rows ++ more) ≡ Two
    → new ≡ with_count bytes count → count ≡ length places → IsWritten Two new places (rows ++ more)
written_anew new bytes places count rows more both all others rise room wide n c =
    written_in Two new places 0 (rows ++ more) (record { are_versions = are_all rows more all others; rise = rise; room = room }) (sym wide) (n ∙ (λ i. with_count (both.bytes_are i) (c i))) both.places_are

-- as many versions as there are bytes in a page are few
pub few_versions : (rows more : List Version) → length (packed_page (rows ++ more)) < 2 ^ 32 → length rows + length more < 2 ^ 32
few_versions rows more room =
    let few = count_is_low (rows ++ more) room in
    let both = length-append rows more in
    omega arith
