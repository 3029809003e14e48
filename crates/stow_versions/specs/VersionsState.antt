-- What one tenant's versions are seen as.
use Rattle.std.specs.Prelude.{ℕ, ◌+◌, ◌<◌, ◌≤◌, ◌==◌, Bool, List, All, refl}
use Rattle.std.specs.List.{AllPairs, list_any}
use Rattle.std.specs.Ordering.{nat_cmp}
use Rattle.std.specs.Coded.{Coded, code_by, coded×, coded_ℕ}
use Rattle.std.specs.FinMap.{FinMap}
use Rattle.std.specs.FinMap as map
use Rattle.stow_bytes.specs.Limits.{number_limit, snapshot_limit}

pub record VersionsState : Type 0 where
  -- the number of the last write
  pub last : ℕ
  -- each live snapshot's id, with the number at which it shows the rows
  pub snapshots : FinMap nat_cmp ℕ
  -- the next snapshot's id
  pub next : ℕ
  -- how many more snapshots need no memory
  pub room : ℕ

-- it is stored as the tuple of its fields
abbrev pub versions_code : Coded VersionsState
versions_code =
    code_by (ℕ × (FinMap nat_cmp ℕ × (ℕ × ℕ)))
    (coded× coded_ℕ (coded× (map.code coded_ℕ coded_ℕ) (coded× coded_ℕ coded_ℕ)))
    (λ v. (v.last, (v.snapshots, (v.next, v.room))))
    (λ p. record { last = p.0; snapshots = p.1.0; next = p.1.1.0; room = p.1.1.1 }) (λ _. refl)

-- nothing was written, and no snapshot was taken
abbrev pub new_versions : VersionsState
new_versions = record { last = 0; snapshots = map.empty; next = 1; room = 0 }

-- the number is one of these
abbrev pub is_among : ℕ → List ℕ → Bool
is_among n numbers = list_any (λ m. m == n) numbers

-- what holds of every tenant's versions
pub record IsVersionsState (v : VersionsState) : Type 0 where
  pub few : map.len v.snapshots ≤ snapshot_limit
  pub ids_below : All (λ id. id < v.next) (map.keys v.snapshots)
  pub ids_within : v.next ≤ number_limit + 1
  -- a later id shows the rows at no earlier number
  pub numbers_rise : AllPairs (λ earlier later. earlier ≤ later) (map.values v.snapshots)
  pub numbers_below : All (λ number. number ≤ v.last) (map.values v.snapshots)
  pub numbers_within : v.last ≤ number_limit

-- one more snapshot can be taken, without memory
pub record IsReady (v : VersionsState) : Type 0 where
  pub few : map.len v.snapshots < snapshot_limit
  pub id_left : v.next ≤ number_limit
  pub room : 0 < v.room
