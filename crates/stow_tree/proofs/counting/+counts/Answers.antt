use Rattle.std.proofs.Common.{rules, ◌+◌, ◌<◌, ap, ◌∙◌, sym, subst, length}
use Rattle.stow_flush.specs.StowMessage.MessageBuf.{MessageList}
use Rattle.stow_tree.proofs.Counted.{IsCounting, ChildCounts, leaf_counts, node_counts, counting_first, counting_on, counted_all, child_lower}
use Rattle.stow_tree.proofs.counting.+counts.Goals as goal
use Rattle.stow_tree.proofs.counting.+counts.Goals.{in-Leaf, in-Node}

pub loop-i-init : goal.loop-i-init
loop-i-init g t c = counting_first c.args.node.now c.children-children.result.now c.len.result (c.len.ensures.len ∙ ap (λ (b : MessageList). length b.messages) c.buffer.ensures) c.len.type_inv

pub loop-i-preserved : goal.loop-i-preserved
loop-i-preserved g t c =
    let below : ChildCounts c.index-children-i.result c.match-children-i.below =
    elim c.match-children-i.branch [
      | in-Leaf w ↦ subst (λ b. ChildCounts c.index-children-i.result b) (sym w.below-is) (leaf_counts c.index-children-i.result w.in-Leaf.field-0 w.in-Leaf.is)
      | in-Node w ↦ subst (λ b. ChildCounts c.index-children-i.result b) (sym w.below-is) (node_counts c.index-children-i.result w.in-Node.lower w.counts_of-below.result w.in-Node.is w.counts_of-below.ensures)
    ] in
    subst (IsCounting c.args.node.now c.children-children.result.now (c.loop-i.i + 1)) (sym c.plus-counts.ensures)
    (counting_on c.args.node.now c.children-children.result.now c.loop-i.i c.index-children-i.result c.loop-i.counts c.match-children-i.below c.loop-i-test.true c.index-children-i.is c.loop-i.invariant below)

pub returns : goal.returns
returns g t c = counted_all c.args.node.now c.children-children.result.now c.loop-i.i c.loop-i.counts c.children-children.ensures c.loop-i-test.false c.loop-i.invariant

pub counts_of-below-requires : goal.counts_of-below-requires
counts_of-below-requires g t c κs within =
    let less : c.in-Node.lower.height < c.args.node.now.height = child_lower c.args.node.now.height c.args.node.now.shape c.children-children.result.now c.loop-i.i c.index-children-i.result c.in-Node.lower c.children-children.ensures.level c.loop-i-test.true c.index-children-i.is c.in-Node.is in
    search (rules, less)
