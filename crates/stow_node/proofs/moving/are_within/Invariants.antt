use Rattle.std.proofs.Common.{◌≡◌, ◌+◌, take}
use Rattle.stow_node.specs.Moves.{page_bytes}
use Rattle.stow_node.specs.Nodes.{leaves_of}
use Rattle.stow_node.proofs.moving.are_within.Given as goal

abbrev pub invariant-loop-i : goal.invariant-loop-i
invariant-loop-i g l = l.bytes + page_bytes (leaves_of (take l.i l.children)) ≡ l.fn.bytes
