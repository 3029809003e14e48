use Rattle.std.specs.Prelude.{IfSome}
use Rattle.stow_node.specs.Subtree.{messages_of}
use Rattle.stow_tree_model.specs.Messages.{ops_in}
use Rattle.stow_read.specs.Way.{key_in, IsAt}
use Rattle.stow_read.proofs.FirstKeys.{left_from}
use Rattle.stow_read.proofs.Walks.{IsWalkSoFar}
use Rattle.stow_read.proofs.walk.walk.Given as goal

abbrev pub invariant-loop-next : goal.invariant-loop-next
invariant-loop-next g l = record {
  rows : IsWalkSoFar (ops_in (messages_of l.node)) l.fn.from.key.bytes.now l.fn.from.after l.fn.to.bytes.now l.at l.count l.rows.items (key_in l.next);
  way : IfSome l.next (λ k. IsAt l.node l.way k.bytes.now l.fn.to.bytes.now);
}

abbrev pub decreases-loop-next : goal.decreases-loop-next
decreases-loop-next g l = left_from (messages_of l.node) (key_in l.next)
