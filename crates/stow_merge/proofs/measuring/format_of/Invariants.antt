use Rattle.std.proofs.Common.{◌≡◌, false, take}
use Rattle.stow_merge.specs.Writing.{versions_in}
use Rattle.stow_page.specs.Format.{has_long}
use Rattle.stow_merge.proofs.measuring.format_of.Given as goal

abbrev pub invariant-loop-i : goal.invariant-loop-i
invariant-loop-i g l = has_long (versions_in l.survey (take l.i l.kept)) ≡ false
