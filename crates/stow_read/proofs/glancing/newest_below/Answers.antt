use Rattle.std.proofs.Common.{[], Option, sym, subst}
use Rattle.stow_tree_model.specs.Messages.{ops_in}
use Rattle.stow_tree_model.specs.Operations.{NumberedValue, NoneUpTo, value_in}
use Rattle.stow_tree_model.specs.Value.{IsValue}
use Rattle.stow_node.specs.StowMessage.MessageBuf.{MessageList}
use Rattle.stow_read.specs.Glance.{IsToldOf}
use Rattle.stow_read.specs.UpTo.{IsTop}
use Rattle.stow_read.proofs.Glanced.{below_so_far, row_is, told_here}
use Rattle.stow_read.proofs.Walked.{walking_first}
use Rattle.stow_read.proofs.glancing.newest_below.Goals as goal

pub loop-leaf-init : goal.loop-leaf-init
loop-leaf-init g c = record { walking = walking_first c.args.node.now c.args.key.bytes.now c.args.at (0, []) c.requires.spanned; none = c.requires.none }

pub of_row-requires : goal.of_row-requires
of_row-requires g c = subst (λ (v : Option NumberedValue). IsValue (value_in v))
    (row_is c.args.node.now c.loop-leaf.here.now c.children-known.result.now c.below.result.now c.args.key.bytes.now c.args.at c.loop-leaf.invariant c.children-known.ensures c.below.ensures c.in-Leaf.leaf c.value_in_rows.result c.in-Leaf.is c.value_in_rows.ensures)
    c.requires.short

pub returns-in-Leaf : goal.returns-in-Leaf
returns-in-Leaf g c = subst (λ (v : Option NumberedValue). IsToldOf v c.of_row.result)
    (sym (row_is c.args.node.now c.loop-leaf.here.now c.children-known.result.now c.below.result.now c.args.key.bytes.now c.args.at c.loop-leaf.invariant c.children-known.ensures c.below.ensures c.in-Leaf.leaf c.value_in_rows.result c.in-Leaf.is c.value_in_rows.ensures))
    c.of_row.ensures

pub returns-in-Some : goal.returns-in-Some
returns-in-Some g c =
    told_here c.args.node.now c.in-Node.lower c.children-known-in-loop-leaf.result.now c.args.key.bytes.now c.args.at c.in-Some.message c.of_message.result
    (below_so_far c.args.node.now c.loop-leaf.here.now c.children-known.result.now c.below.result.now c.args.key.bytes.now c.args.at c.loop-leaf.invariant c.children-known.ensures c.below.ensures c.in-Node.lower c.in-Node.is)
    c.children-known-in-loop-leaf.ensures
    (subst (λ (b : MessageList). IsTop (ops_in b.messages c.args.key.bytes.now) c.args.at c.in-Some.message) c.buffer.ensures c.in-Some.ensures)
    c.of_message.ensures

pub loop-leaf-preserved : goal.loop-leaf-preserved
loop-leaf-preserved g c = record {
  walking = below_so_far c.args.node.now c.loop-leaf.here.now c.children-known.result.now c.below.result.now c.args.key.bytes.now c.args.at c.loop-leaf.invariant c.children-known.ensures c.below.ensures c.in-Node.lower c.in-Node.is;
  none = subst (λ (b : MessageList). NoneUpTo c.args.at (ops_in b.messages c.args.key.bytes.now)) c.buffer.ensures c.in_default.ensures;
}
