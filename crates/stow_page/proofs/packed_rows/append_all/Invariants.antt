use Rattle.stow_page.proofs.Anew.{AreAppended}
use Rattle.stow_page.proofs.packed_rows.append_all.Given as goal

abbrev pub invariant-loop-index : goal.invariant-loop-index
invariant-loop-index g l = AreAppended l.bytes.items l.places.items l.initial.bytes.items l.initial.places.items l.rows l.index
