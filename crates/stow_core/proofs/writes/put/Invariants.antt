use Rattle.stow_model.specs.LentWords.{words_in}
use Rattle.stow_core.proofs.Room.{IsPutting}
use Rattle.stow_tree_model.specs.Op.{op_of}
use Rattle.stow_core.proofs.writes.put.Given as goal

abbrev pub invariant-loop-index : goal.invariant-loop-index
invariant-loop-index g l = IsPutting l.number (op_of l.op) (words_in l.keys) l.initial.tree l.tree l.index
