use Rattle.std.proofs.Common.{length}
use Rattle.stow_script.proofs.Texts.{IsSoFar}
use Rattle.stow_script.proofs.text.unescape.Given as goal

abbrev pub invariant-loop-left : goal.invariant-loop-left
invariant-loop-left g l = IsSoFar l.text l.bytes.items l.left

abbrev pub decreases-loop-left : goal.decreases-loop-left
decreases-loop-left g l = length l.left
