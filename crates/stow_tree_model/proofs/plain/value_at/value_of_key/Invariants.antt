use Rattle.std.proofs.Common.{◌≡◌, take, map, reverse}
use Rattle.stow_tree_model.specs.Operations.{numbered}
use Rattle.stow_tree_model.specs.TreeMessage.{message_of}
use Rattle.stow_tree_model.proofs.Falling.{value_by}
use Rattle.stow_tree_model.proofs.plain.value_at.value_of_key.Given as goal

abbrev pub invariant-loop-message : goal.invariant-loop-message
invariant-loop-message g l = numbered l.at l.found ≡ value_by (reverse (take l.message-index (map message_of l.ordered))) l.key.bytes.now l.number
