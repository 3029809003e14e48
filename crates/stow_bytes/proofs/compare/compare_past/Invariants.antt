use Rattle.std.proofs.Common.{◌-◌}
use Rattle.stow_bytes.specs.Words.{AreAlike}
use Rattle.stow_bytes.proofs.compare.compare_past.Given as goal

abbrev pub invariant-loop-shared : goal.invariant-loop-shared
invariant-loop-shared l = AreAlike l.shared l.one l.other

abbrev pub decreases-loop-shared : goal.decreases-loop-shared
decreases-loop-shared l = l.last - l.shared
