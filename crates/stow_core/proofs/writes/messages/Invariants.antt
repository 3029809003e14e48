use Rattle.std.proofs.Common.{◌≡◌, map, take}
use Rattle.stow_model.specs.LentWords.{words_in}
use Rattle.stow_core.specs.Writes.{writes_of}
use Rattle.stow_tree_model.specs.Op.{op_of}
use Rattle.stow_tree_model.specs.TreeMessage.{message_of}
use Rattle.stow_core.proofs.writes.messages.Given as goal

abbrev pub invariant-loop-index : goal.invariant-loop-index
invariant-loop-index g l = map message_of l.messages.items ≡ writes_of l.number (op_of l.op) (take l.index (words_in l.keys))
