-- The tenants' entries.
use Rattle.std.specs.Prelude.{ℕ, ◌+◌, Bool, List, [], ◌∷◌, ◌++◌, Option, Some, None, if◌then◌else◌, ◌==◌}
use Rattle.std.specs.Str.{bytes_eq}
use Rattle.sha2.specs.Sha256.{sha256}
use Rattle.stow_model.specs.Login.{Entry}
use Rattle.stow_login.specs.declared.tenant.Tenant as coded

-- what the code's type stands for, whatever allocator it has its memory from
abbrev pub entry_of : {A : Type 0} → coded.Tenant A → Entry
entry_of tenant =
    record { name = tenant.name; salt = tenant.salt; digest = tenant.digest; quota = tenant.quota }

-- SHA-256 of the salt followed by the password is the digest
abbrev pub is_own : Entry → List ℕ → Bool
is_own entry password = bytes_eq (sha256 (entry.salt ++ password)) entry.digest

-- the name at an index, where the first entry has the index given first
abbrev pub name_from : ℕ → List Entry → ℕ → List ℕ
name_from index [] tenant = []
name_from index (entry ∷ entries) tenant =
    if index == tenant then entry.name else name_from (index + 1) entries tenant

-- the name of the tenant of this index, which counts from 1
unfoldable pub name_of : List Entry → ℕ → List ℕ
name_of entries tenant = name_from 1 entries tenant

-- the index of a name, where the first entry has the index given first
abbrev pub index_from : ℕ → List Entry → List ℕ → Option ℕ
index_from index [] name = None
index_from index (entry ∷ entries) name =
    if bytes_eq entry.name name then Some index else index_from (index + 1) entries name

-- the index, counted from 1, of the first tenant of this name
unfoldable pub index_named : List Entry → List ℕ → Option ℕ
index_named entries name = index_from 1 entries name
