-- What a change makes of a tenant's charge, by lengths, numbers and pins.
use Rattle.std.specs.Prelude.{ℕ, ◌+◌, ◌-◌, Bool, true, List, sum_by, Option, Some, None, if◌then◌else◌, nat_lt, nat_le, ◌&&◌}
use Rattle.std.specs.List.{list_any}
use Rattle.stow_ledger.specs.declared.charge.Charge.{Charge}
use Rattle.stow_ledger.specs.declared.row_change.RowChange.{RowChange}
use Rattle.stow_ledger.specs.declared.shown_row.ShownRow.{ShownRow}
use Rattle.stow_ledger.specs.declared.sized_version.SizedVersion.{SizedVersion}

-- by the bytes of key and value
abbrev pub version_cost : ℕ → ℕ → ℕ
version_cost key value = key + value + 16

-- ---- a write

-- some pin is at or above the number
abbrev pub is_pinned : List ℕ → ℕ → Bool
is_pinned pins number = list_any (λ pin. nat_le number pin) pins

-- what a write costs, by the length of the value that it puts under a key
abbrev pub cost_brought : ℕ → Option ℕ → ℕ
cost_brought key None = 0
cost_brought key (Some length) = version_cost key length

-- what it frees, by the version that stood there: nothing, where a snapshot shows that
abbrev pub cost_freed : List ℕ → ℕ → Option SizedVersion → ℕ
cost_freed pins key None = 0
cost_freed pins key (Some version) =
    if is_pinned pins version.number then 0 else version_cost key version.length

-- how many there are, none or one
abbrev pub count_of : {X : Type 0} → Option X → ℕ
count_of None = 0
count_of (Some x) = 1

abbrev pub charge_after_write : Charge → RowChange → List ℕ → Charge
charge_after_write so_far change pins =
    record {
      charge = (so_far.charge + cost_brought change.key change.after)
          - cost_freed pins change.key change.before;
      rows = (so_far.rows + count_of change.after) - count_of change.before;
    }

-- ---- a drop

-- a pin lies from the version's number on, and below the key's next number
abbrev pub is_between : ℕ → ℕ → ℕ → Bool
is_between number next pin = nat_le number pin && nat_lt pin next

-- a version that has no next one is the present's
abbrev pub shown_until : List ℕ → ℕ → Option ℕ → Bool
shown_until pins number None = true
shown_until pins number (Some next) = list_any (is_between number next) pins

-- the present or a pin shows the row's version
abbrev pub is_shown : List ℕ → ShownRow → Bool
is_shown pins row = shown_until pins row.version.number row.next

abbrev pub row_cost : ShownRow → ℕ
row_cost row = version_cost row.key row.version.length

-- what a row frees: nothing, where it is shown still
abbrev pub row_freed : List ℕ → ShownRow → ℕ
row_freed pins row = if is_shown pins row then 0 else row_cost row

abbrev pub charge_after_drop : Charge → List ShownRow → List ℕ → Charge
charge_after_drop so_far rows pins =
    record so_far { charge = so_far.charge - sum_by (row_freed pins) rows }
