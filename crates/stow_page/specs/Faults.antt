-- What is wrong with bytes that are no page: the first fault in reading order.
use Rattle.std.specs.Prelude.{◌≡◌, ◌≢◌, ◌⊎◌, ℕ, ◌+◌, ◌-◌, ◌<◌, ◌≤◌, false, List, [], ◌∷◌, ◌++◌, length, Option}
use Rattle.std.specs.Int.{to_be_bytes, from_be_bytes, w16, w32, w64}
use Rattle.stow_tree_model.specs.StowBytes.Limits.{key_limit, value_limit, tenant_limit, number_limit}
use Rattle.stow_tree_model.specs.Keys.{IsTenantKey, IsOfTenant}
use Rattle.stow_tree_model.specs.Order.{VersionsRise}
use Rattle.stow_tree_model.specs.Version.{Version}
use Rattle.stow_page.specs.Format.{entry, entries, format_byte, header, length_bytes, length_width, longest, has_long, place_bytes, tail, IsTold, AreTold, IsVersion, AreVersions}
use Rattle.stow_page.specs.declared.format.Format.{Format}
use Rattle.stow_page.specs.declared.format.Format.TheVariants.{One, Two}
use Rattle.stow_page.specs.declared.page_fault.PageFault.{PageFault}
use Rattle.stow_page.specs.declared.page_fault.PageFault.TheVariants as fault

-- ---- in one entry

-- how far an entry was read: its whole fields
pub data Front : Type 0 where
  Nothing : Front
  -- the key's length
  Length : ℕ → Front
  -- and the index that the key begins with
  Index : ℕ → ℕ → Front
  -- the whole key
  Key : List ℕ → Front
  -- and the number
  Number : List ℕ → ℕ → Front
  -- and that it is a put
  Put : List ℕ → ℕ → Front
  -- and the value's length
  PutLength : List ℕ → ℕ → ℕ → Front

abbrev pub front_bytes : Format → Front → List ℕ
front_bytes format Nothing = []
front_bytes format (Length n) = to_be_bytes w16 n
front_bytes format (Index n tenant) = to_be_bytes w16 n ++ to_be_bytes w32 tenant
front_bytes format (Key key) = to_be_bytes w16 (length key) ++ key
front_bytes format (Number key number) = place_bytes key number
front_bytes format (Put key number) = place_bytes key number ++ 0 ∷ []
front_bytes format (PutLength key number n) = place_bytes key number ++ 0 ∷ length_bytes format n

abbrev pub IsKeyLength : ℕ → Type 0
IsKeyLength n = (4 ≤ n) × (n ≤ 4 + key_limit)

abbrev pub IsTenantIndex : ℕ → Type 0
IsTenantIndex tenant = (1 ≤ tenant) × (tenant ≤ tenant_limit)

abbrev pub IsVersionNumber : ℕ → Type 0
IsVersionNumber number = (1 ≤ number) × (number ≤ number_limit)

-- the fields that were read are in their ranges
abbrev pub IsGood : Format → Front → Type 0
IsGood format Nothing = Unit {0}
IsGood format (Length n) = IsKeyLength n
IsGood format (Index n tenant) = IsKeyLength n × IsTenantIndex tenant
IsGood format (Key key) = IsTenantKey key × IsOfTenant key
IsGood format (Number key number) = IsTenantKey key × IsOfTenant key × IsVersionNumber number
IsGood format (Put key number) = IsTenantKey key × IsOfTenant key × IsVersionNumber number
IsGood format (PutLength key number n) = IsTenantKey key × IsOfTenant key
    × IsVersionNumber number × (n ≤ longest format)

-- how many bytes the next field has
abbrev pub width : Format → Front → ℕ
width format Nothing = 2
width format (Length n) = 4
width format (Index n tenant) = n - 4
width format (Key key) = 8
width format (Number key number) = 1
width format (Put key number) = length_width format
width format (PutLength key number n) = n

-- a value's length is beyond the limit, which two bytes can't tell
abbrev pub IsTooLong : Format → List ℕ → Type 0
IsTooLong One field = ⊥
IsTooLong Two field = value_limit < from_be_bytes w32 field

-- the next field is out of its range
abbrev pub IsOutOfRange : Format → Front → List ℕ → Type 0
IsOutOfRange format Nothing field = IsKeyLength (from_be_bytes w16 field) → ⊥
IsOutOfRange format (Length n) field = IsTenantIndex (from_be_bytes w32 field) → ⊥
IsOutOfRange format (Key key) field = IsVersionNumber (from_be_bytes w64 field) → ⊥
IsOutOfRange format (Number key number) field = (field ≢ 0 ∷ []) × (field ≢ 1 ∷ [])
IsOutOfRange format (Index n tenant) field = ⊥
IsOutOfRange format (Put key number) field = IsTooLong format field
IsOutOfRange format (PutLength key number n) field = ⊥

-- after good fields the bytes end in the next one
pub record EndsInField (format : Format) (bytes : List ℕ) : Type 0 where
  pub front : Front
  pub is_good : IsGood format front
  pub rest : List ℕ
  pub are : bytes ≡ front_bytes format front ++ rest
  pub ends : length rest < width format front

-- after good fields there comes a whole one that is out of its range
pub record HasBadField (format : Format) (bytes : List ℕ) : Type 0 where
  pub front : Front
  pub is_good : IsGood format front
  pub field : List ℕ
  pub rest : List ℕ
  pub are : bytes ≡ front_bytes format front ++ (field ++ rest)
  pub is_whole : length field ≡ width format front
  pub is_bad : IsOutOfRange format front field

-- the bytes begin no entry, for this reason
abbrev pub IsEntryFault : Format → PageFault → List ℕ → Type 0
IsEntryFault format fault.FormatByte bytes = ⊥
IsEntryFault format fault.Truncated bytes = EndsInField format bytes
IsEntryFault format fault.Order bytes = ⊥
IsEntryFault format fault.LengthOrField bytes = HasBadField format bytes
IsEntryFault format fault.Memory bytes = ⊥

-- bytes begin with a good key, and this follows
abbrev pub IsKeyRead : List ℕ → List ℕ → List ℕ → Type 0
IsKeyRead bytes key rest = (bytes ≡ to_be_bytes w16 (length key) ++ (key ++ rest))
    × IsOfTenant key

-- bytes begin with the tail of a good value, and this follows
abbrev pub IsTailRead : Format → List ℕ → Option (List ℕ) → List ℕ → Type 0
IsTailRead format bytes value rest = (bytes ≡ tail format value ++ rest) × IsTold format value

-- in each format the bytes have this fault
abbrev pub IsFaultInKey : PageFault → List ℕ → Type 0
IsFaultInKey reason bytes = (format : Format) → IsEntryFault format reason bytes

-- behind a good key the bytes have this fault in each format
abbrev pub IsFaultBehindKey : PageFault → List ℕ → Type 0
IsFaultBehindKey reason bytes = (format : Format) (key : List ℕ) → IsGood format (Key key)
    → IsEntryFault format reason (front_bytes format (Key key) ++ bytes)

-- behind a good key and number the bytes have this fault
abbrev pub IsFaultBehindNumber : Format → PageFault → List ℕ → Type 0
IsFaultBehindNumber format reason bytes = (key : List ℕ) (number : ℕ)
    → IsGood format (Number key number)
    → IsEntryFault format reason (front_bytes format (Number key number) ++ bytes)

-- ---- in a page

-- after the header with this format and count of entries stand these good ones, which rise, and
-- then a rest; the format can tell the length of each value, so the entries are read in one way
pub record BeginsPage (bytes : List ℕ) (format : Format) (count : ℕ) (rows : List Version)
    (rest : List ℕ) : Type 0 where
  pub are : bytes ≡ header format count ++ (entries format rows ++ rest)
  pub is_counted : count < 4294967296
  pub are_versions : AreVersions rows
  pub are_told : AreTold format rows
  pub rise : VersionsRise rows

-- after some entries of those that the header tells comes a rest that begins no entry
pub record HasFaultyEntry (fault : PageFault) (bytes : List ℕ) : Type 0 where
  pub format : Format
  pub count : ℕ
  pub rows : List Version
  pub rest : List ℕ
  pub begins : BeginsPage bytes format count rows rest
  pub is_short : length rows < count
  pub is_faulty : IsEntryFault format fault rest

-- the header ends too early
abbrev pub EndsInHeader : List ℕ → Type 0
EndsInHeader bytes = (bytes ≡ []) ⊎ ((format : Format) × (rest : List ℕ)
    × (bytes ≡ format_byte format ∷ rest) × (length rest < 4))

-- the next whole entry doesn't stand above those before it
pub record HasEntryOutOfOrder (bytes : List ℕ) : Type 0 where
  pub format : Format
  pub count : ℕ
  pub rows : List Version
  pub version : Version
  pub rest : List ℕ
  pub begins : BeginsPage bytes format count rows (entry format version ++ rest)
  pub is_short : length rows < count
  pub is_version : IsVersion version
  pub is_told : IsTold format version.value
  pub is_not_above : VersionsRise (rows ++ version ∷ []) → ⊥

-- bytes follow the last entry
pub record HasBytesBehind (bytes : List ℕ) : Type 0 where
  pub format : Format
  pub rows : List Version
  pub rest : List ℕ
  pub begins : BeginsPage bytes format (length rows) rows rest
  pub is_more : rest ≢ []

-- the format is 2, and in all entries there is no value that format 1 can't tell
pub record HasNoLongValue (bytes : List ℕ) : Type 0 where
  pub rows : List Version
  pub rest : List ℕ
  pub begins : BeginsPage bytes Two (length rows) rows rest
  pub are_short : has_long rows ≡ false

-- the bytes are no page, and this is the first fault in reading order
abbrev pub IsPageFault : PageFault → List ℕ → Type 0
IsPageFault fault.FormatByte bytes = (byte : ℕ) × (rest : List ℕ) × (bytes ≡ byte ∷ rest)
    × (byte ≢ 1) × (byte ≢ 2)
IsPageFault fault.Truncated bytes = EndsInHeader bytes ⊎ HasFaultyEntry fault.Truncated bytes
IsPageFault fault.Order bytes = HasEntryOutOfOrder bytes
IsPageFault fault.LengthOrField bytes = HasFaultyEntry fault.LengthOrField bytes
    ⊎ (HasBytesBehind bytes ⊎ HasNoLongValue bytes)
IsPageFault fault.Memory bytes = ⊥

-- why bytes are not unpacked
abbrev pub IsRefusal : PageFault → List ℕ → Type 0
IsRefusal reason bytes = (reason ≡ fault.Memory) ⊎ IsPageFault reason bytes
