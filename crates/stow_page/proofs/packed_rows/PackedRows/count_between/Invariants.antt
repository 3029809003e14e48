use Rattle.std.proofs.Common.{◌-◌}
use Rattle.stow_page.proofs.Looked.{IsNarrowed}
use Rattle.stow_page.proofs.packed_rows.PackedRows.count_between.Given as goal

abbrev pub invariant-loop-low : goal.invariant-loop-low
invariant-loop-low g l = IsNarrowed l.self (l.key.bytes.now, l.number) l.fn.low l.fn.high l.low l.high

abbrev pub decreases-loop-low : goal.decreases-loop-low
decreases-loop-low g l = l.high - l.low
