-- A tenant's table and its file, spelled.
use Rattle.std.proofs.Common.{◌≡◌, ℕ, ◌≤◌, List, [], ◌∷◌, length, Ok, Some, String, Vec, BTreeMap, Global, Less, Equal, Greater, Ordering, string_bytes, codes, true, refl, ◌∙◌, arith}
use Rattle.std.specs.BTreeMap.{insert_entry}
use Rattle.std.specs.Ordering.{match_ordering}
use Rattle.std.specs.String.{string_cmp}
use Rattle.std.proofs.lemmas.Bool.Decides.{nat_tests}
use Rattle.hex.specs.Hex.{IsBytes}
use Rattle.hex.proofs.HexLemmas.{decode_of-encode_lower, decode_sized-encode_lower}
use Rattle.toml.specs.declared.value.Value.{Value, Array as ArrayValue, Table as TableValue}
use Rattle.toml.proofs.Views.{view-Array, view-Table}
use Rattle.toml.specs.Data.{Members, no_members, members_depth}
use Rattle.toml.specs.Parse.{parse_document}
use Rattle.toml.specs.View.{view, members_view, table_view}
use Rattle.stow_model.specs.Login.{Entry}
use Rattle.stow_login.specs.TenantFile.{entries_of, entries_of_text, digest_length, is_name, salt_limit}
use Rattle.stow_login.specs.NewTenants.{file_of, table_of, with_member}

placed : (o : Ordering) (a b c : List (String Global × Value)) → members_view (match_ordering o a b c) ≡ match_ordering o (members_view a) (members_view b) (members_view c)
placed Less a b c = refl
placed Equal a b c = refl
placed Greater a b c = refl

-- an entry of the map is a member of the table
pub member_added : (es : List (String Global × Value)) (k : String Global) (v : Value) → members_view (insert_entry string_cmp es k v) ≡ with_member (string_bytes k) (view v) (members_view es)
member_added [] k v = refl
member_added (e ∷ es) k v = placed (string_cmp k e.0) _ _ _ ∙ rw (member_added es k v)

-- the file of a tenant by the rules says this tenant
pub file_says : (entry : Entry) → is_name entry.name ≡ true → length entry.salt ≤ salt_limit → length entry.digest ≡ digest_length → IsBytes entry.salt → IsBytes entry.digest
    → entries_of (file_of entry) ≡ Ok (entry ∷ [])
file_says entry name few whole salt digest =
    rw (name, decode_of-encode_lower entry.salt salt, decode_sized-encode_lower entry.digest digest_length whole digest) (grind (arith, nat_tests, few))

-- what is read of the text of the file is this tenant
pub text_says : (entry : Entry) (file : Members) (text : List ℕ) → file ≡ file_of entry → (members_depth file ≤ 80 → parse_document text ≡ Some file) → entries_of (file_of entry) ≡ Ok (entry ∷ [])
    → entries_of_text text ≡ Ok (entry ∷ [])
text_says entry file text is read says =
    let parsed : parse_document text ≡ Some (file_of entry) = rw is at (read (rw is (omega arith))) in
    rw (parsed, says)

-- one table under the key
pub file_spelled : (entry : Entry) (file old : Members) (tables : Vec Value Global) (one : BTreeMap (String Global) Value) → file ≡ with_member (codes "tenant") (view (ArrayValue tables)) old → old ≡ no_members → tables.items ≡ TableValue one ∷ []
    → table_view one ≡ table_of entry → file ≡ file_of entry
file_spelled entry file old tables one is empty items spelled = is ∙ rw (empty, view-Array tables, items, view-Table one, spelled)
