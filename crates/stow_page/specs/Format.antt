-- The packed form of a leaf: the format's byte, the number of entries, then each version's entry.
-- All numbers are written with their highest byte first. Format 1 tells the length of a value in
-- two bytes, format 2 in four. A page has format 2 just where one of its values is longer than
-- 65,535 bytes.
use Rattle.std.specs.Prelude.{◌≡◌, ℕ, ◌+◌, ◌≤◌, Bool, false, cond, nat_lt, List, [], ◌∷◌, ◌++◌, length, Option, Some, None}
use Rattle.std.specs.List.{AllByRecursion, flat_map, list_any}
use Rattle.std.specs.Int.{to_be_bytes, w16, w32, w64}
use Rattle.stow_tree_model.specs.StowBytes.Limits.{number_limit, value_limit}
use Rattle.stow_tree_model.specs.Keys.{IsTenantKey, IsOfTenant}
use Rattle.stow_tree_model.specs.Value.{IsValue}
use Rattle.stow_tree_model.specs.Version.{Version}
use Rattle.stow_page.specs.declared.format.Format.{Format}
use Rattle.stow_page.specs.declared.format.Format.TheVariants.{One, Two}

-- ---- what is written

abbrev pub format_byte : Format → ℕ
format_byte One = 1
format_byte Two = 2

-- in how many bytes the length of a value is told
abbrev pub length_width : Format → ℕ
length_width One = 2
length_width Two = 4

-- the length of a value
abbrev pub length_bytes : Format → ℕ → List ℕ
length_bytes One n = to_be_bytes w16 n
length_bytes Two n = to_be_bytes w32 n

-- a put with its value's length, or a tombstone
abbrev pub tail : Format → Option (List ℕ) → List ℕ
tail format (Some value) = 0 ∷ (length_bytes format (length value) ++ value)
tail format None = 1 ∷ []

-- a key with its length, and a number
abbrev pub place_bytes : List ℕ → ℕ → List ℕ
place_bytes key number = to_be_bytes w16 (length key) ++ (key ++ to_be_bytes w64 number)

-- a version's key and number, and its value
unfoldable pub entry : Format → Version → List ℕ
entry format v = place_bytes v.key v.number ++ tail format v.value

abbrev pub header : Format → ℕ → List ℕ
header format count = format_byte format ∷ to_be_bytes w32 count

abbrev pub entries : Format → List Version → List ℕ
entries format = flat_map (entry format)

-- these versions in this format
unfoldable pub packed_in : Format → List Version → List ℕ
packed_in format rows = header format (length rows) ++ entries format rows

-- ---- which format a page has

-- bytes of a value whose length format 1 can tell, at most
abbrev pub short_limit : ℕ
short_limit = 65535

-- the value's length is more than format 1 can tell
abbrev pub is_long : Option (List ℕ) → Bool
is_long (Some value) = nat_lt short_limit (length value)
is_long None = false

-- one of the versions has a long value
abbrev pub has_long : List Version → Bool
has_long = list_any (λ v. is_long v.value)

-- format 2 just where a value is long
unfoldable pub format_of : List Version → Format
format_of rows = cond (has_long rows) Two One

-- the page of these versions
unfoldable pub packed_page : List Version → List ℕ
packed_page rows = packed_in (format_of rows) rows

-- ---- what can be written

-- a version whose parts are within the limits
pub record IsVersion (v : Version) : Type 0 where
  pub is_key : IsTenantKey v.key
  pub is_of_tenant : IsOfTenant v.key
  pub is_numbered : (1 ≤ v.number) × (v.number ≤ number_limit)
  pub is_short : IsValue v.value

abbrev pub AreVersions : List Version → Type 0
AreVersions = AllByRecursion IsVersion

-- bytes of the longest value whose length the format can tell
abbrev pub longest : Format → ℕ
longest One = short_limit
longest Two = value_limit

-- a missing value, or one whose length the format can tell
pub record IsTold (format : Format) (value : Option (List ℕ)) : Type 0 where
  pub is_short : (bytes : List ℕ) → value ≡ Some bytes → length bytes ≤ longest format

-- the format can tell the length of each value
abbrev pub AreTold : Format → List Version → Type 0
AreTold format = AllByRecursion (λ v. IsTold format v.value)

-- ---- where an entry stands

-- the place of each entry, the first one at this place
unfoldable pub places_from : Format → ℕ → List Version → List ℕ
places_from format place [] = []
places_from format place (v ∷ later) =
    place ∷ places_from format (place + length (entry format v)) later

-- after the header
abbrev pub places_of : List Version → List ℕ
places_of rows = places_from (format_of rows) 5 rows
