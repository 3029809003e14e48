use Rattle.std.proofs.Common.{map}
use Rattle.std.specs.Prelude.{IfSome}
use Rattle.std.specs.Option.{option_map}
use Rattle.stow_node.specs.Subtree.{messages_of}
use Rattle.stow_tree_model.specs.Messages.{ops_in}
use Rattle.stow_tree_model.specs.declared.tenant_key.TenantKey.{TenantKey}
use Rattle.stow_read.specs.Range.{key_value}
use Rattle.stow_read.specs.Way.{IsAt}
use Rattle.stow_read.proofs.FirstKeys.{left_from}
use Rattle.stow_read.proofs.Ranged.{IsRangeSoFar}
use Rattle.stow_read.proofs.range.range.Given as goal

abbrev pub invariant-loop-next : goal.invariant-loop-next
invariant-loop-next g l = record {
  rows : IsRangeSoFar (ops_in (messages_of l.node)) l.fn.from.bytes.now l.fn.to.bytes.now l.at l.count (map key_value l.rows.items) (option_map (λ (k : TenantKey). k.bytes.now) l.next);
  way : IfSome l.next (λ k. IsAt l.node l.way k.bytes.now l.fn.to.bytes.now);
}

abbrev pub decreases-loop-next : goal.decreases-loop-next
decreases-loop-next g l = left_from (messages_of l.node) (option_map (λ (k : TenantKey). k.bytes.now) l.next)
