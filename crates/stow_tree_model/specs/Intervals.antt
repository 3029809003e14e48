-- Intervals of keys, and those of one tenant.
use Rattle.std.specs.Prelude.{◌≡◌, ℕ, ◌+◌, ◌<◌, ◌≤◌, ◌^◌, List, [], ◌↔◌}
use Rattle.std.specs.declared.cmp.Ordering.TheVariants.{Less}
use Rattle.std.specs.List.{AllByRecursion}
use Rattle.std.specs.Ordering.{nat_cmp, ordering_then}
use Rattle.stow_bytes.specs.Bytes.{bytes_cmp}
use Rattle.stow_bytes.specs.Limits.{tenant_limit}
use Rattle.stow_tree_model.specs.Keys.{packed, tenant_of, IsTenantKey}

-- the key is from the lower end on and below the upper end
abbrev pub IsWithin : List ℕ → List ℕ → List ℕ → Type 0
IsWithin from to key = (bytes_cmp key from ≡ Less → ⊥) × (bytes_cmp key to ≡ Less)

-- each number of a key is a byte
abbrev pub AreKeyBytes : List ℕ → Type 0
AreKeyBytes key = AllByRecursion (λ b. b < 256) key

-- a tenant's key, of bytes
abbrev pub IsWholeKey : List ℕ → Type 0
IsWholeKey key = IsTenantKey key × AreKeyBytes key

-- ---- the laws

-- keys stand in the order of their tenants' indexes, and those of one tenant in byte order
abbrev pub PackedInOrder : Type 0
PackedInOrder = (t u : ℕ) (a b : List ℕ) → t < 2 ^ 32 → u < 2 ^ 32
    → bytes_cmp (packed t a) (packed u b) ≡ ordering_then (nat_cmp t u) (bytes_cmp a b)

-- a tenant's keys are those from its index to the next one's, and no other tenant's key is among
-- them
abbrev pub TenantInterval : Type 0
TenantInterval = (tenant : ℕ) (key : List ℕ) → tenant ≤ tenant_limit → IsTenantKey key
    → AreKeyBytes key
    → (tenant_of key ≡ tenant) ↔ IsWithin (packed tenant []) (packed (tenant + 1) []) key
