-- Keys of all tenants in one order: the tenant's index in four bytes, the highest first, then the
-- key's own bytes.
use Rattle.std.specs.Prelude.{ℕ, ◌+◌, ◌≤◌, List, ◌++◌, length, take, drop}
use Rattle.std.specs.Int.{to_be_bytes, from_be_bytes, w32}
use Rattle.stow_bytes.specs.Limits.{key_limit, tenant_limit}

-- a tenant's key among the keys of all
abbrev pub packed : ℕ → List ℕ → List ℕ
packed tenant key = to_be_bytes w32 tenant ++ key

-- the tenant whose key it is
unfoldable pub tenant_of : List ℕ → ℕ
tenant_of key = from_be_bytes w32 (take 4 key)

-- the key that the tenant itself names
abbrev pub own_key : List ℕ → List ℕ
own_key key = drop 4 key

-- an index and a key within the limit; the index may be one below or one above those of tenants,
-- where an interval ends
pub record IsTenantKey (key : List ℕ) : Type 0 where
  pub has_index : 4 ≤ length key
  pub is_short : length key ≤ 4 + key_limit
  pub is_near : tenant_of key ≤ tenant_limit + 1

-- the index is a tenant's
abbrev pub IsOfTenant : List ℕ → Type 0
IsOfTenant key = (1 ≤ tenant_of key) × (tenant_of key ≤ tenant_limit)
