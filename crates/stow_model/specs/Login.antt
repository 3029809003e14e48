-- The tenants, and whom a name and a password log in.
use Rattle.std.specs.Prelude.{ℕ, ◌+◌, ◌≤◌, List, [], ◌∷◌, ◌++◌, length, Option, Some, None, if◌then◌else◌, ◌==◌}
use Rattle.std.specs.Str.{bytes_eq}
use Rattle.sha2.specs.Sha256.{sha256}

-- a tenant's entry in the tenant file
pub record Entry : Type 0 where
  pub name : List ℕ
  pub salt : List ℕ
  pub digest : List ℕ
  pub quota : ℕ

-- the tenant of this entry, if the password is its own: SHA-256 (FIPS 180-4) of the salt followed
-- by the password is the digest
abbrev pub checked : ℕ → Entry → List ℕ → Option ℕ
checked index entry password =
    if bytes_eq (sha256 (entry.salt ++ password)) entry.digest then Some index else None

abbrev pub login_from : ℕ → List Entry → List ℕ → List ℕ → Option ℕ
login_from index [] name password = None
login_from index (entry ∷ entries) name password =
    if bytes_eq entry.name name then checked index entry password
    else login_from (index + 1) entries name password

-- the index, counted from 1, of the tenant of this name with this password
unfoldable pub login : List Entry → List ℕ → List ℕ → Option ℕ
login entries name password = login_from 1 entries name password

abbrev pub quota_from : ℕ → List Entry → ℕ → ℕ
quota_from index [] tenant = 0
quota_from index (entry ∷ entries) tenant =
    if index == tenant then entry.quota else quota_from (index + 1) entries tenant

unfoldable pub quota_of : List Entry → ℕ → ℕ
quota_of entries tenant = quota_from 1 entries tenant

abbrev pub entry_from : ℕ → List Entry → ℕ → Option Entry
entry_from index [] tenant = None
entry_from index (entry ∷ entries) tenant =
    if index == tenant then Some entry else entry_from (index + 1) entries tenant

-- the entry of the tenant of this index, counted from 1
unfoldable pub entry_at : List Entry → ℕ → Option Entry
entry_at entries tenant = entry_from 1 entries tenant

-- the index is a tenant's
abbrev pub IsTenant : List Entry → ℕ → Type 0
IsTenant entries tenant = (1 ≤ tenant) × (tenant ≤ length entries)
