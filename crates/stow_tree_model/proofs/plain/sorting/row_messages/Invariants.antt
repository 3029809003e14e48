use Rattle.std.proofs.Common.{◌≡◌, take, map}
use Rattle.stow_tree_model.specs.Merged.{row_message}
use Rattle.stow_tree_model.specs.TreeMessage.{message_of}
use Rattle.stow_tree_model.specs.Version.{version_of}
use Rattle.stow_tree_model.proofs.plain.sorting.row_messages.Given as goal

abbrev pub invariant-loop-row : goal.invariant-loop-row
invariant-loop-row g l = map message_of l.messages.items ≡ map row_message (map version_of (take l.row-index l.rows))
