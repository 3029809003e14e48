use Rattle.stow_shared.specs.Closed.{HasReceipts}
use Rattle.stow_shared.specs.Entries.{entries_of}
use Rattle.stow_shared.proofs.Sums.{all_more}
use Rattle.stow_shared.proofs.closing.have_receipts.Goals as goal

pub loop-seat-preserved : goal.loop-seat-preserved
loop-seat-preserved g c =
    all_more (HasReceipts (entries_of c.args.journal.now)) c.args.seats.now c.loop-seat.seat-index c.seat-item.result c.seat-item.is c.loop-seat-test.true (c.has_receipts.ensures.0 c.if-not-has_receipts.false) c.loop-seat.invariant
