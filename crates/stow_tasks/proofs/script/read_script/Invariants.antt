use Rattle.std.proofs.Common.{map}
use Rattle.stow_script.specs.Script.{line_of}
use Rattle.stow_script.proofs.Scripts.{IsSoFar, room_of}
use Rattle.stow_tasks.proofs.script.read_script.Given as goal

abbrev pub invariant-loop-left : goal.invariant-loop-left
invariant-loop-left g l = IsSoFar l.tenants l.text l.left l.number (map line_of l.lines.items)

abbrev pub decreases-loop-left : goal.decreases-loop-left
decreases-loop-left g l = room_of l.left
