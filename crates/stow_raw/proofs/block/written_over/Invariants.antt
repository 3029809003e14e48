use Rattle.std.proofs.Common.{◌≡◌, map, Some}
use Rattle.std.proofs.Math.Seq.{paste}
use Rattle.stow_raw.specs.CellsLends.{with_bytes}
use Rattle.stow_raw.proofs.block.written_over.Given as goal

abbrev pub invariant-loop-i : goal.invariant-loop-i
invariant-loop-i l = l.cells ≡ with_bytes l.fn.cells (paste l.fn.cells.bytes l.fn.at (map Some l.fn.src) l.i)
