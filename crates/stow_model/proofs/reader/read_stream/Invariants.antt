use Rattle.std.proofs.Common.{◌≡◌, ℕ, List, ◌++◌, length, map}
use Rattle.stow_model.specs.Message.{message_of}
use Rattle.stow_model.proofs.Fronts.{IsSplitTo}
use Rattle.stow_model.proofs.reader.read_stream.Given as goal

abbrev pub invariant-loop-messages : goal.invariant-loop-messages
invariant-loop-messages g l = record {
  at : (front : List ℕ) × (l.bytes ≡ front ++ l.left);
  split : IsSplitTo l.bytes (map message_of l.messages.items) l.left;
}

abbrev pub decreases-loop-messages : goal.decreases-loop-messages
decreases-loop-messages g l = length l.left
