-- What a plain store shows: its rows, and its snapshots' copies of them.
use Rattle.std.specs.Prelude.{ℕ, ◌+◌, ◌<◌, ◌≤◌, Bool, List, ◌++◌, map as list_map, not, sum_by, filter, refl, IsTrue, nat_le, ◌||◌, ℤ, pos, negsuc, Option, Some, None}
use Rattle.std.specs.List.{flat_map, AllByRecursion}
use Rattle.std.specs.Ordering.{nat_cmp}
use Rattle.std.specs.Coded.{Coded, code_by, coded×, coded_ℕ}
use Rattle.std.specs.FinMap.{FinMap, is_sorted}
use Rattle.std.specs.FinMap as map
use Rattle.stow_bytes.specs.Limits.{number_limit}
use Rattle.stow_model.specs.Store.{Rows, Store, Shown, cost, charge}
use Rattle.stow_ledger.specs.Shown.{is_in, cost_of_all}
use Rattle.stow_plain.specs.PlainMap.{rows_code}
use Rattle.stow_plain.specs.declared.plain_snapshot.PlainSnapshot.{PlainSnapshot}

pub record Contents : Type 0 where
  pub rows : Rows
  -- each live snapshot's id, with a whole copy of the rows
  pub snapshots : FinMap nat_cmp Rows
  -- the next snapshot's id
  pub next : ℕ

-- they are stored as the tuple of their fields
abbrev pub contents_code : Coded Contents
contents_code =
    code_by (Rows × (FinMap nat_cmp Rows × ℕ))
    (coded× rows_code (coded× (map.code coded_ℕ rows_code) coded_ℕ))
    (λ c. (c.rows, (c.snapshots, c.next)))
    (λ p. record { rows = p.0; snapshots = p.1.0; next = p.1.1 }) (λ _. refl)

-- no rows and no snapshots
abbrev pub new_contents : Contents
new_contents = record { rows = map.empty; snapshots = map.empty; next = 1 }

-- the store with these contents, without a quota, and of which nothing is counted
abbrev pub bare : Contents → Store
bare c =
    record {
      rows = c.rows;
      last = 0;
      snapshots = c.snapshots;
      next = c.next;
      quota = 0;
      commands = 0;
      refusals = 0;
    }

abbrev pub charge_of : Contents → ℕ
charge_of c = charge (bare c)

-- not both above the quota and above the charge before
abbrev pub is_allowed : ℕ → ℕ → ℕ → Bool
is_allowed quota before after = nat_le after quota || nat_le after before

-- ---- a list of copies

abbrev pub pairs_of : {A : Type 0} → List (PlainSnapshot A) → List (ℕ × Rows)
pairs_of copies = list_map (λ copy. (copy.id, copy.rows)) copies

abbrev pub snapshots_of : {A : Type 0} → List (PlainSnapshot A) → FinMap nat_cmp Rows
snapshots_of copies = map.from_sorted (pairs_of copies)

-- all that the copies show
abbrev pub shown_in : {A : Type 0} → List (PlainSnapshot A) → List Shown
shown_in copies = flat_map (λ copy. map.entries copy.rows) copies

-- what rows cost, but for those that are shown otherwise
abbrev pub cost_beside : Rows → List Shown → ℕ
cost_beside rows others =
    sum_by cost (filter (λ shown. not (is_in shown others)) (map.entries rows))

-- what the type keeps of its fields
pub record AreContents {A : Type 0} (rows : Rows) (copies : List (PlainSnapshot A)) (next : ℕ)
    : Type 0 where
  pub ids_rise : IsTrue (is_sorted nat_cmp (pairs_of copies))
  pub ids_below : AllByRecursion (λ copy. copy.id < next) copies
  pub ids_within : next ≤ number_limit + 1
  pub charge_within : cost_of_all (map.entries rows ++ shown_in copies) ≤ number_limit
