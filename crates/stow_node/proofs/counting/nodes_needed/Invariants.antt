use Rattle.std.proofs.Common.{◌≡◌, ◌+◌, drop}
use Rattle.stow_node.specs.Rooms.{nodes_needed}
use Rattle.stow_node.proofs.counting.nodes_needed.Given as goal

abbrev pub invariant-loop-i : goal.invariant-loop-i
invariant-loop-i l = l.nodes + nodes_needed l.fan_out (drop l.i l.widths) l.came ≡ nodes_needed l.fan_out l.widths l.fn.came
