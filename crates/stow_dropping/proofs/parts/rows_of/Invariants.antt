use Rattle.stow_dropping.proofs.Shown.{AreShownSoFar}
use Rattle.stow_dropping.proofs.parts.rows_of.Given as goal

abbrev pub invariant-loop-head : goal.invariant-loop-head
invariant-loop-head g l = AreShownSoFar l.heads l.head-index l.rows.items
