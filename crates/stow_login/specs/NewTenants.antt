-- A tenant that is to be, and its entry.
use Rattle.std.specs.Prelude.{◌≡◌, ◌≤◌, ◌<◌, ◌^◌, ℕ, true, List, ◌++◌, codes, length, pos, IfSome}
use Rattle.std.specs.Ordering.{match_ordering, nat_cmp}
use Rattle.std.specs.Cmp.Lexicographic.{slice_cmp}
use Rattle.hex.specs.Hex.{encode_lower}
use Rattle.sha2.specs.Sha256.{sha256}
use Rattle.toml.specs.Data.{Data, string, integer, array, table, no_items, item, Members, no_members, member}
use Rattle.stow_model.specs.Login.{Entry}
use Rattle.stow_login.specs.TenantFile.{is_name, salt_limit}
use Rattle.stow_login.specs.declared.new_tenant.NewTenant.{NewTenant}

-- its name, its quota, and its salt where one is given, are by the rules of the tenant file
pub record IsAllowed (tenant : NewTenant) : Type 0 where
  pub name : is_name tenant.name.now ≡ true
  pub salt : IfSome tenant.salt (λ salt. length salt.items ≤ salt_limit)
  pub quota : tenant.quota < 2 ^ 63

-- the entry of a tenant of this name, salt, password and quota
abbrev pub entry_with : List ℕ → List ℕ → List ℕ → ℕ → Entry
entry_with name salt password quota =
    record { name = name; salt = salt; digest = sha256 (salt ++ password); quota = quota }

-- ---- the file that says so

-- the table of an entry, its keys in their order
abbrev pub table_of : Entry → Members
table_of entry = member (codes "digest") (string (encode_lower entry.digest))
    (member (codes "name") (string entry.name) (member (codes "quota") (integer (pos entry.quota))
    (member (codes "salt") (string (encode_lower entry.salt)) no_members)))

-- the file of one tenant
abbrev pub file_of : Entry → Members
file_of entry = member (codes "tenant") (array (item (table (table_of entry)) no_items)) no_members

-- the members, and a value of this key at its place
abbrev pub with_member : List ℕ → Data → Members → Members
with_member key value no_members = member key value no_members
with_member key value (member k v rest) = match_ordering (slice_cmp nat_cmp key k)
    (member key value (member k v rest)) (member k value rest)
    (member k v (with_member key value rest))
