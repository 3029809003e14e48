use Rattle.std.proofs.Common.{take}
use Rattle.stow_merge.specs.Pages.{HaveShortValues}
use Rattle.stow_merge.specs.Writing.{versions_in}
use Rattle.stow_merge.proofs.fitting.are_short.Given as goal

abbrev pub invariant-loop-i : goal.invariant-loop-i
invariant-loop-i g l = HaveShortValues (versions_in l.survey (take l.i l.kept))
