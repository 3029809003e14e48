use Rattle.std.proofs.Common.{◌≡◌, ◌≤◌, ◌*◌, length, take}
use Rattle.stow_page.specs.Format.{entries}
use Rattle.stow_merge.specs.Writing.{versions_in}
use Rattle.stow_merge.proofs.measuring.key_size.Given as goal

abbrev pub invariant-loop-i : goal.invariant-loop-i
invariant-loop-i g l = (l.size ≡ length (entries l.format (versions_in l.survey (take l.i l.key)))) × (l.size ≤ 1049619 * l.i)
