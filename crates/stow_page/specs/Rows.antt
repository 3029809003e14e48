-- A leaf's versions in one block, with the place of each.
use Rattle.std.specs.Prelude.{◌≡◌, ◌≢◌, ℕ, zero, suc, ◌+◌, ◌<◌, ◌≤◌, ◌^◌, Bool, true, false, List, slice_get, [], ◌∷◌, ◌++◌, length, map, filter, Option, Some, None, IsSome, take, drop, nat_le, ◌&&◌}
use Rattle.std.specs.Int.{from_be_bytes, to_be_bytes, w16, w32, w64}
use Rattle.std.specs.Ordering.{is_lt}
use Rattle.std.specs.Str.{bytes_eq}
use Rattle.stow_filter.specs.Filter.{CoversBy}
use Rattle.stow_tree_model.specs.Order.{VersionPlace, place_cmp, version_place, VersionsRise}
use Rattle.stow_tree_model.specs.Version.{Version, version_of}
use Rattle.stow_tree_model.specs.declared.version.Version as lent
use Rattle.stow_page.specs.Format.{entry, tail, length_width, packed_page, format_of, places_of, IsTold, IsVersion, AreVersions}
use Rattle.stow_page.specs.declared.format.Format.{Format}
use Rattle.stow_page.specs.declared.format.Format.TheVariants.{One, Two}

-- ---- what stands in a block

-- the length of a value that stands at the front of these bytes
abbrev pub length_in : Format → List ℕ → ℕ
length_in One bytes = from_be_bytes w16 bytes
length_in Two bytes = from_be_bytes w32 bytes

-- the value whose tail stands at the front of these bytes
abbrev pub value_in : Format → List ℕ → Option (List ℕ)
value_in format [] = None
value_in format (zero ∷ after) =
    Some (take (length_in format after) (drop (length_width format) after))
value_in format (suc _ ∷ after) = None

-- what follows the key of the entry at the front of these bytes
abbrev pub after_key : List ℕ → List ℕ
after_key bytes = drop (from_be_bytes w16 bytes) (drop 2 bytes)

-- the version whose entry stands at the front of these bytes
unfoldable pub version_in : Format → List ℕ → Version
version_in format bytes =
    record {
      key = take (from_be_bytes w16 bytes) (drop 2 bytes);
      number = from_be_bytes w64 (after_key bytes);
      value = value_in format (drop 8 (after_key bytes));
    }

-- the bytes begin with the version's entry
pub record IsAtFront (format : Format) (v : Version) (bytes : List ℕ) : Type 0 where
  pub rest : List ℕ
  pub is_entry : bytes ≡ entry format v ++ rest
  pub is_version : IsVersion v
  pub is_told : IsTold format v.value

-- the bytes begin with the value's tail
pub record IsTail (format : Format) (value : Option (List ℕ)) (bytes : List ℕ) : Type 0 where
  pub rest : List ℕ
  pub is_tail : bytes ≡ tail format value ++ rest
  pub is_value : IsTold format value

-- the versions whose entries stand at these places
abbrev pub rows_in : Format → List ℕ → List ℕ → List Version
rows_in format bytes places = map (λ place. version_in format (drop place bytes)) places

-- the bytes are the page of these versions, which has this format, and each stands at its place
pub record ArePacked (format : Format) (bytes places : List ℕ) (rows : List Version) : Type 0 where
  pub is_page : bytes ≡ packed_page rows
  pub is_format : format ≡ format_of rows
  pub are_places : places ≡ places_of rows
  pub are_versions : AreVersions rows
  pub rise : VersionsRise rows
  pub is_addressed : length bytes < 2 ^ 32

-- the block stands for the versions that are in it
abbrev pub IsBlock : Format → List ℕ → List ℕ → Type 0
IsBlock format bytes places = ArePacked format bytes places (rows_in format bytes places)

-- each version's key has its marks
abbrev pub CoversRows : List ℕ → List Version → Type 0
CoversRows marks rows = CoversBy (λ v. v.key) marks rows

-- versions beside each other are of different keys
pub record AreApart (rows : List Version) : Type 0 where
  pub apart : (i : ℕ) (v w : Version) → slice_get rows i ≡ Some v → slice_get rows (i + 1) ≡ Some w
      → v.key ≢ w.key

-- each version is a value, and the only one of its key
pub record AreAlone (rows : List Version) : Type 0 where
  pub are_apart : AreApart rows
  pub values : (i : ℕ) (v : Version) → slice_get rows i ≡ Some v → IsSome v.value

-- the block stands for the versions that are in it, and marks tell their keys; each is known to be
-- a value, and the only one of its key, or nothing is known of it
pub record IsNoted (format : Format) (bytes places marks : List ℕ) (known : Bool) : Type 0 where
  pub block : IsBlock format bytes places
  pub covers : CoversRows marks (rows_in format bytes places)
  pub alone : known ≡ true → AreAlone (rows_in format bytes places)

-- the format of versions, some of which have the one alone, and the others the other
abbrev pub wider : Format → Format → Format
wider One other = other
wider Two other = Two

-- with this version behind them the page still has fewer than 2^32 bytes
abbrev pub HasRoomFor : List Version → Version → Type 0
HasRoomFor rows v = length (packed_page (rows ++ v ∷ [])) < 2 ^ 32

-- rows of another block, from one place to before another, can be added as they stand
pub record CanTake (packed rows : List Version) (from to : ℕ) : Type 0 where
  pub alike : format_of packed ≡ format_of rows
  pub room : length (packed_page (packed ++ drop from (take to rows))) < 2 ^ 32

-- a lent version's entry
abbrev pub entry_of : Format → lent.Version → List ℕ
entry_of format v = entry format (version_of v)

-- bytes with this count of entries in the header
abbrev pub with_count : List ℕ → ℕ → List ℕ
with_count bytes count = take 1 bytes ++ (to_be_bytes w32 count ++ drop 5 bytes)

-- ---- what is looked up

-- the version stands above the place
abbrev pub is_above : VersionPlace → Version → Bool
is_above place v = is_lt (place_cmp place (version_place v))

-- this many versions stand at the place or below it, and all others above it
pub record IsCountUpTo (rows : List Version) (place : VersionPlace) (count : ℕ) : Type 0 where
  pub within : count ≤ length rows
  pub up_to : (i : ℕ) (v : Version) → i < count → slice_get rows i ≡ Some v
      → is_above place v ≡ false
  pub above : (i : ℕ) (v : Version) → count ≤ i → slice_get rows i ≡ Some v
      → is_above place v ≡ true

-- before the place `high`, so many versions stand at this place or below it and all others above
-- it, those before `low` counted without a look at them
pub record IsCountBetween (rows : List Version) (place : VersionPlace) (low high count : ℕ)
    : Type 0 where
  pub order : low ≤ count
  pub within : count ≤ high
  pub up_to : (i : ℕ) (v : Version) → low ≤ i → i < count → slice_get rows i ≡ Some v
      → is_above place v ≡ false
  pub above : (i : ℕ) (v : Version) → count ≤ i → i < high → slice_get rows i ≡ Some v
      → is_above place v ≡ true

-- so many versions stand at this place or below it and all others above it, those before `from`
-- counted without a look at them
abbrev pub IsCountFrom : List Version → VersionPlace → ℕ → ℕ → Type 0
IsCountFrom rows place from count = IsCountBetween rows place from (length rows) count

-- the version is the key's, and numbered at most this
abbrev pub is_up_to : List ℕ → ℕ → Version → Bool
is_up_to key number v = bytes_eq key v.key && nat_le v.number number

abbrev pub last_of : List Version → Option Version
last_of [] = None
last_of (v ∷ []) = Some v
last_of (_ ∷ w ∷ later) = last_of (w ∷ later)

abbrev pub value_in_version : Option Version → Option (List ℕ)
value_in_version None = None
value_in_version (Some v) = v.value

-- the newest version of the key numbered at most this, of versions that rise
unfoldable pub version_at : List Version → List ℕ → ℕ → Option Version
version_at rows key number = last_of (filter (is_up_to key number) rows)

-- the value of that version: none where there is no such version, and where it is a tombstone
abbrev pub value_at : List Version → List ℕ → ℕ → Option (List ℕ)
value_at rows key number = value_in_version (version_at rows key number)
