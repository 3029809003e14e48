use Rattle.std.proofs.Common.{◌-◌, ◌≤◌}
use Rattle.stow_page.proofs.Looked.{IsNarrowed}
use Rattle.stow_page.proofs.packed_rows.PackedRows.count_from.Given as goal

abbrev pub invariant-loop-next : goal.invariant-loop-next
invariant-loop-next g l = record { narrowed : IsNarrowed l.self (l.key.bytes.now, l.number) l.from l.len l.low l.len; ahead : l.low ≤ l.next }

abbrev pub decreases-loop-next : goal.decreases-loop-next
decreases-loop-next g l = l.len - l.next
