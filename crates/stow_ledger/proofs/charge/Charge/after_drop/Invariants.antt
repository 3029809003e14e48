use Rattle.std.proofs.Common.{◌≡◌, ◌-◌, take}
use Rattle.std.specs.Prelude.{sum_by}
use Rattle.stow_ledger.specs.Charges.{row_freed}
use Rattle.stow_ledger.proofs.charge.Charge.after_drop.Given as goal

abbrev pub invariant-loop-row : goal.invariant-loop-row
invariant-loop-row l = l.charge ≡ l.self.charge - sum_by (row_freed l.pins) (take l.row-index l.rows)
