use Rattle.std.proofs.Common.{drop}
use Rattle.stow_shared.proofs.Receipts.{SameAhead}
use Rattle.stow_shared.proofs.closing.has_receipts.Given as goal

abbrev pub invariant-loop-entry : goal.invariant-loop-entry
invariant-loop-entry g l = SameAhead l.number l.seat.receipts l.journal l.left (drop l.entry-index l.journal)
