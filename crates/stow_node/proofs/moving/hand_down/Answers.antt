use Rattle.std.proofs.Common.{arith}
use Rattle.std.proofs.lemmas.Grind.{elements}
use Rattle.stow_node.specs.declared.child.Child.TheVariants as in_child
use Rattle.stow_node.proofs.HandedDown.{opened, can_accept, handed_down, not_leaf}
use Rattle.stow_node.proofs.moving.hand_down.Goals as goal

pub accept-requires : goal.accept-requires
accept-requires g c =
    let o = opened c.args.children.now c.split_at_mut-front.result.0.now c.split_at_mut-child.result.0.now c.split_at_mut-child.result.1.now c.split_at_mut-front.result.1.now c.args.index (in_child.Node c.in-Node.node) c.split_at_mut-front.ensures.value c.split_at_mut-child.ensures.value c.split_at_mut-front.ensures.front_len c.split_at_mut-child.ensures.front_len c.index-child-0.result c.in-Node.is in
    rw c.first_low-to.ensures (can_accept c.args.children.now c.split_at_mut-child.result.0.now c.split_at_mut-child.result.1.now c.split_at_mut-front.result.1.now c.args.index c.args.buffer.now c.in-Node.node o c.requires)

pub returns-in-Node : goal.returns-in-Node
returns-in-Node g c =
    let o = opened c.args.children.now c.split_at_mut-front.result.0.now c.split_at_mut-child.result.0.now c.split_at_mut-child.result.1.now c.split_at_mut-front.result.1.now c.args.index (in_child.Node c.in-Node.node) c.split_at_mut-front.ensures.value c.split_at_mut-child.ensures.value c.split_at_mut-front.ensures.front_len c.split_at_mut-child.ensures.front_len c.index-child-0.result c.in-Node.is in
    handed_down c.args.children.now c.split_at_mut-child.result.0.now c.split_at_mut-child.result.1.now c.split_at_mut-front.result.1.now c.args.index c.args.buffer.now c.accept.new.from c.in-Node.node c.accept.new.self o (rw (← c.first_low-to.ensures) c.accept.ensures.accepted) (rw (← c.first_low-to.ensures) c.accept.ensures.left)

pub returns-in_default : goal.returns-in_default
returns-in_default g c =
    let o = opened c.args.children.now c.split_at_mut-front.result.0.now c.split_at_mut-child.result.0.now c.split_at_mut-child.result.1.now c.split_at_mut-front.result.1.now c.args.index (in_child.Leaf c.in_default.field-0) c.split_at_mut-front.ensures.value c.split_at_mut-child.ensures.value c.split_at_mut-front.ensures.front_len c.split_at_mut-child.ensures.front_len c.index-child-0.result c.in_default.is in
    absurd (not_leaf c.args.children.now c.split_at_mut-child.result.0.now c.split_at_mut-child.result.1.now c.split_at_mut-front.result.1.now c.args.index c.args.buffer.now c.in_default.field-0 o c.requires)

pub overflow_add-index : goal.overflow_add-index
overflow_add-index g c = grind (arith, elements)

pub split_at_mut-front-requires : goal.split_at_mut-front-requires
split_at_mut-front-requires g c = grind (arith, elements)
