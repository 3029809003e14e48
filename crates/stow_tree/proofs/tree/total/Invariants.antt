use Rattle.std.specs.Prelude.{◌≡◌, map, take}
use Rattle.stow_tree_model.specs.TreeMessage.{message_of}
use Rattle.stow_tree.specs.Putting.{bytes_of}
use Rattle.stow_tree.proofs.tree.total.Given as goal

abbrev pub invariant-loop-i : goal.invariant-loop-i
invariant-loop-i l = l.total ≡ bytes_of (take l.i (map message_of l.messages))
