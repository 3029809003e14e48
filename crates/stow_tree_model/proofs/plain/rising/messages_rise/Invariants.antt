use Rattle.std.proofs.Common.{map}
use Rattle.stow_tree_model.specs.Order.{place_of}
use Rattle.stow_tree_model.specs.TreeMessage.{message_of}
use Rattle.stow_tree_model.proofs.Rising.{StepsUp}
use Rattle.stow_tree_model.proofs.plain.rising.messages_rise.Given as goal

abbrev pub invariant-loop-i : goal.invariant-loop-i
invariant-loop-i l = StepsUp (map place_of (map message_of l.messages)) l.i
