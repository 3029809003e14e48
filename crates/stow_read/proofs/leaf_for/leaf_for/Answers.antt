use Rattle.std.proofs.Common.{◌∙◌, sym}
use Rattle.stow_read.proofs.Walked.{leading_first, leading_on, leading_to}
use Rattle.stow_read.proofs.leaf_for.leaf_for.Goals as goal

pub loop-leaf-init : goal.loop-leaf-init
loop-leaf-init g c = leading_first c.args.node.now c.args.key.bytes.now (sym c.may_hold.ensures ∙ c.if-not-may_hold.false)

pub below-requires : goal.below-requires
below-requires g c = c.loop-leaf.invariant.spanned

pub returns-in-Leaf : goal.returns-in-Leaf
returns-in-Leaf g c = leading_to c.args.node.now c.loop-leaf.here.now c.in-Leaf.leaf c.below.result.now c.args.key.bytes.now c.loop-leaf.invariant c.below.ensures c.in-Leaf.is

pub loop-leaf-smaller : goal.loop-leaf-smaller
loop-leaf-smaller g c = (leading_on c.args.node.now c.loop-leaf.here.now c.in-Node.lower c.below.result.now c.args.key.bytes.now c.loop-leaf.invariant c.below.ensures c.in-Node.is).0

pub loop-leaf-preserved : goal.loop-leaf-preserved
loop-leaf-preserved g c = (leading_on c.args.node.now c.loop-leaf.here.now c.in-Node.lower c.below.result.now c.args.key.bytes.now c.loop-leaf.invariant c.below.ensures c.in-Node.is).1
