use Rattle.std.proofs.Common.{◌≡◌, ◌++◌, map, take}
use Rattle.stow_tree_model.specs.TreeMessage.{message_of}
use Rattle.stow_read.proofs.Looked.{newest_of}
use Rattle.stow_read.proofs.path.add_older.Given as goal

abbrev pub invariant-loop-i : goal.invariant-loop-i
invariant-loop-i g l = map message_of l.messages.items ≡ map message_of l.fn.messages.items ++ take l.i (newest_of l.fn.key.bytes.now l.buffer.messages)
