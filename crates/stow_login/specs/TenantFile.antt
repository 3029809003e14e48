-- What a tenant file says: the tenants' entries in the file's order, or the first fault.
use Rattle.std.specs.Prelude.{◌≡◌, ◌≤◌, ◌⊎◌, ℕ, suc, ℤ, pos, negsuc, Bool, true, false, List, [], ◌∷◌, ◌++◌, length, Option, Some, None, Result, Ok, Err, ok_or, option_and_then, is_some, if◌then◌else◌, ◌==◌, ◌&&◌, ◌||◌, nat_le, codes}
use Rattle.std.specs.Char.{is_ascii_alphanumeric}
use Rattle.std.specs.List.{list_all, list_any, AllByRecursion}
use Rattle.std.specs.Result.{result_ok}
use Rattle.std.specs.Str.{bytes_eq}
use Rattle.hex.specs.Hex.{decode_of, decode_sized}
use Rattle.toml.specs.Data.{Data, Items, no_items, item, Members, no_members, member, get_member, as_str, as_integer, as_array, as_table}
use Rattle.toml.specs.Parse.{parse_document}
use Rattle.stow_model.specs.StowBytes.Limits.{tenant_limit}
use Rattle.stow_model.specs.Login.{Entry}
use Rattle.stow_login.specs.declared.tenants_fault.TenantsFault.{TenantsFault}
use Rattle.stow_login.specs.declared.tenants_fault.TenantsFault.TheVariants as fault

-- the number by which an operator is told of a fault
abbrev pub fault_number : TenantsFault → ℕ
fault_number fault.NotToml = 1
fault_number fault.WrongShape = 2
fault_number fault.NameUsed = 3
fault_number fault.BadName = 4
fault_number fault.BadHexadecimal = 5
fault_number fault.QuotaOutOfRange = 6
fault_number fault.WrongCount = 7
fault_number fault.OutOfMemory = 8

-- the most bytes of a name, of a salt and of a digest
abbrev pub name_limit : ℕ
name_limit = 64

abbrev pub salt_limit : ℕ
salt_limit = 64

abbrev pub digest_length : ℕ
digest_length = 32

-- the next step, where the one before gave a value
infixl 10 ◌>>=◌
abbrev pub ◌>>=◌ : {A B : Type 0} → Result A TenantsFault → (A → Result B TenantsFault)
    → Result B TenantsFault
Ok x >>= f = f x
Err e >>= f = Err e

-- ---- the file's table

-- how many keys a table has
abbrev pub size : Members → ℕ
size no_members = 0
size (member key value members) = suc (size members)

-- how many items an array has
abbrev pub count : Items → ℕ
count no_items = 0
count (item value items) = suc (count items)

-- each item is a table
abbrev pub are_tables : Items → Bool
are_tables no_items = true
are_tables (item value items) = is_some (as_table value) && are_tables items

abbrev pub tables_only : Items → Option Items
tables_only items = if are_tables items then Some items else None

-- the items of an array of tables
abbrev pub tables_of : Data → Option Items
tables_of value = option_and_then tables_only (as_array value)

-- the items under the file's only key, `tenant`; a file without a key has no tenant
abbrev pub items_in : Members → Result Items TenantsFault
items_in members =
    if size members == 0 then Err fault.WrongCount
    else if size members == 1 then ok_or
    (option_and_then tables_of (get_member (codes "tenant") members)) fault.WrongShape
    else Err fault.WrongShape

-- as many as there may be
abbrev pub limited : Items → Result Items TenantsFault
limited items =
    if nat_le 1 (count items) && nat_le (count items) tenant_limit then Ok items
    else Err fault.WrongCount

-- ---- one tenant's table

-- a table of four fields
abbrev pub four_fields : Data → Option Members
four_fields value =
    option_and_then (λ members. if size members == 4 then Some members else None) (as_table value)

-- the text of a field
abbrev pub text_at : List ℕ → Members → Option (List ℕ)
text_at key members = option_and_then as_str (get_member key members)

-- the number of a field
abbrev pub number_at : List ℕ → Members → Option ℤ
number_at key members = option_and_then as_integer (get_member key members)

-- an ASCII letter or digit, `-`, `_` or `.`
abbrev pub is_name_byte : ℕ → Bool
is_name_byte byte = is_ascii_alphanumeric byte || ((byte == 45 || byte == 95) || byte == 46)

-- 1 to 64 bytes of these
abbrev pub is_name : List ℕ → Bool
is_name name =
    (nat_le 1 (length name) && nat_le (length name) name_limit) && list_all is_name_byte name

-- a name by the rule
abbrev pub valid_name : List ℕ → Result (List ℕ) TenantsFault
valid_name name = if is_name name then Ok name else Err fault.BadName

-- an earlier tenant has the name
abbrev pub is_used : List Entry → List ℕ → Bool
is_used earlier name = list_any (λ entry. bytes_eq entry.name name) earlier

-- a name that no earlier tenant has
abbrev pub unused_name : List Entry → List ℕ → Result (List ℕ) TenantsFault
unused_name earlier name = if is_used earlier name then Err fault.NameUsed else Ok name

-- at most as many bytes as a salt may have
abbrev pub short_salt : List ℕ → Option (List ℕ)
short_salt salt = if nat_le (length salt) salt_limit then Some salt else None

-- the bytes of a salt, in hexadecimal digits of either case
abbrev pub salt_in : List ℕ → Result (List ℕ) TenantsFault
salt_in text = ok_or (option_and_then short_salt (result_ok (decode_of text))) fault.BadHexadecimal

-- the bytes of a digest, in hexadecimal digits of either case
abbrev pub digest_in : List ℕ → Result (List ℕ) TenantsFault
digest_in text = ok_or (result_ok (decode_sized text digest_length)) fault.BadHexadecimal

-- a quota that isn't negative; TOML's integers end at the greatest quota
abbrev pub quota_in : ℤ → Result ℕ TenantsFault
quota_in (pos quota) = Ok quota
quota_in (negsuc below) = Err fault.QuotaOutOfRange

-- the entry of one tenant's table, by the entries before it, or the first fault
abbrev pub entry_in : List Entry → Data → Result Entry TenantsFault
entry_in earlier value = do
  fields ← ok_or (four_fields value) fault.WrongShape
  name_text ← ok_or (text_at (codes "name") fields) fault.WrongShape
  salt_text ← ok_or (text_at (codes "salt") fields) fault.WrongShape
  digest_text ← ok_or (text_at (codes "digest") fields) fault.WrongShape
  number ← ok_or (number_at (codes "quota") fields) fault.WrongShape
  valid ← valid_name name_text
  unused ← unused_name earlier valid
  salt ← salt_in salt_text
  digest ← digest_in digest_text
  quota ← quota_in number
  Ok (record { name = unused; salt = salt; digest = digest; quota = quota })

-- ---- the whole file

-- the earlier entries, and those of the items after them, or the first fault
abbrev pub entries_after : List Entry → Items → Result (List Entry) TenantsFault
entries_after earlier no_items = Ok earlier
entries_after earlier (item value items) =
    entry_in earlier value >>= (λ entry. entries_after (earlier ++ entry ∷ []) items)

-- the entries of the file's table, or the first fault
abbrev pub entries_of : Members → Result (List Entry) TenantsFault
entries_of members = do
  items ← items_in members
  tenants ← limited items
  entries_after [] tenants

-- the entries of a text, or the first fault
abbrev pub entries_of_text : List ℕ → Result (List Entry) TenantsFault
entries_of_text text = ok_or (parse_document text) fault.NotToml >>= entries_of

-- reading a text may be answered so: what the text says, or that memory was refused
abbrev pub IsReading : List ℕ → Result (List Entry) TenantsFault → Type 0
IsReading text (Ok entries) = entries_of_text text ≡ Ok entries
IsReading text (Err e) = (e ≡ fault.OutOfMemory) ⊎ (entries_of_text text ≡ Err e)

-- ---- laws

-- an entry by the file's rules
pub record IsByRule (entry : Entry) : Type 0 where
  pub name : is_name entry.name ≡ true
  pub salt : length entry.salt ≤ salt_limit
  pub digest : length entry.digest ≡ digest_length

-- no later entry has an earlier one's name
abbrev pub HaveOwnNames : List Entry → Type 0
HaveOwnNames [] = Unit {0}
HaveOwnNames (entry ∷ entries) = (is_used entries entry.name ≡ false) × HaveOwnNames entries

-- the entries of a text are 1 to 65,535, each by the rules, and each with a name of its own
abbrev pub EntriesAreByRule : Type 0
EntriesAreByRule =
    (text : List ℕ) (entries : List Entry) → entries_of_text text ≡ Ok entries
    → (1 ≤ length entries) × (length entries ≤ tenant_limit) × AllByRecursion IsByRule entries
    × HaveOwnNames entries
