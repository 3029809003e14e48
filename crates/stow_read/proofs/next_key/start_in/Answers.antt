use Rattle.std.proofs.Common.{◌∙◌}
use Rattle.stow_node.specs.Nodes.{parts_of}
use Rattle.stow_read.proofs.NextBelow.{fence_of_child, from_fence, from_the_start}
use Rattle.stow_read.proofs.next_key.start_in.Goals as goal

pub returns-then-i-first : goal.returns-then-i-first
returns-then-i-first g c =
    from_fence (parts_of c.args.children.now) c.args.start.key.bytes.now c.args.start.after c.args.first c.args.i c.low.result.bytes.now c.if-i-first.true
    (c.low.ensures ∙ fence_of_child c.args.children.now c.args.i c.index-children-i.result c.requires c.index-children-i.is)

pub returns-else-i-first : goal.returns-else-i-first
returns-else-i-first g c = from_the_start (parts_of c.args.children.now) c.args.start.key.bytes.now c.args.start.after c.args.first c.args.i c.if-i-first.false
