use Rattle.std.specs.Prelude.{map}
use Rattle.stow_tree_model.specs.TreeMessage.{message_of}
use Rattle.stow_tree.proofs.Putting.{IsPutting}
use Rattle.stow_tree.proofs.tree.Tree.put_all.Given as goal

abbrev pub invariant-loop-i : goal.invariant-loop-i
invariant-loop-i g l = IsPutting (map message_of l.messages) l.fn.self l.self-inside l.i
