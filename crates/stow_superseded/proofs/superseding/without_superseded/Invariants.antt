use Rattle.std.specs.Option.{option_map}
use Rattle.stow_leaf.specs.StowMerge.Pins.{pins_in}
use Rattle.stow_tree_model.specs.TreeMessage.{message_of}
use Rattle.stow_superseded.proofs.Passing.{IsPassed}
use Rattle.stow_superseded.proofs.superseding.without_superseded.Given as goal

abbrev pub invariant-loop-left : goal.invariant-loop-left
invariant-loop-left g l = IsPassed (pins_in l.pins) l.buffer.messages l.capacity l.most l.left l.fewer (option_map message_of l.whole)

abbrev pub decreases-loop-left : goal.decreases-loop-left
decreases-loop-left g l = l.left
