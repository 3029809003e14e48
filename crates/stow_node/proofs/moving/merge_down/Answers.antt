use Rattle.std.proofs.Common.{◌≡◌, ◌+◌, ◌≤◌, ◌++◌, length, refl, sym, ap, ◌∙◌, subst, arith}
use Rattle.std.specs.List.{sum_by}
use Rattle.std.specs.Prelude.{slice_set}
use Rattle.std.proofs.lemmas.Grind.{elements}
use Rattle.stow_leaves.proofs.StowLeaf.Steps.{inside_of}
use Rattle.stow_leaves.proofs.Forgotten.{on_err}
use Rattle.stow_leaves.specs.StowMerge.Pins.{pins_in}
use Rattle.stow_leaves.specs.StowMessage.MessageBuf.{MessageList}
use Rattle.stow_leaves.specs.StowMessage.Packed.{message_size}
use Rattle.stow_node.specs.declared.child.Child.TheVariants as in_child
use Rattle.stow_node.specs.Moves.{messages_for}
use Rattle.stow_node.specs.Nodes.{parts_of}
use Rattle.stow_node.specs.Parts.{high_of}
use Rattle.stow_node.specs.Subtree.{Subtree}
use Rattle.stow_node.proofs.HandedDown.{Opened, opened, at_child, not_leaf, same_node}
use Rattle.stow_node.proofs.Split.{set_same}
use Rattle.stow_node.proofs.Straight.{can_merge_from, merged_down, none_there, opened_set, own_bytes}
use Rattle.stow_node.proofs.moving.merge_down.Given as given
use Rattle.stow_node.proofs.moving.merge_down.Goals as goal
use Rattle.stow_node.proofs.moving.merge_down.Goals.{In-Node, then-len-gt0-via-then-len-gt0, then-len-gt0-via-else-len-gt0+then-not-is_laden}

here : (g : given.Over) (c : In-Node g) → Opened c.args.children.now c.split_at_mut-child.result.0.now c.split_at_mut-child.result.1.now c.split_at_mut-front.result.1.now c.args.index (in_child.Node c.in-Node.node)
here g c = opened c.args.children.now c.split_at_mut-front.result.0.now c.split_at_mut-child.result.0.now c.split_at_mut-child.result.1.now c.split_at_mut-front.result.1.now c.args.index (in_child.Node c.in-Node.node) c.split_at_mut-front.ensures.value c.split_at_mut-child.ensures.value c.split_at_mut-front.ensures.front_len c.split_at_mut-child.ensures.front_len c.index-child-0.result c.in-Node.is

-- where its keys end
ends : (g : given.Over) (c : In-Node g) → high_of (parts_of c.args.children.now) c.args.index ≡ c.first_low-end.result.bytes.now
ends g c = (at_child c.args.children.now c.split_at_mut-child.result.0.now c.split_at_mut-child.result.1.now c.split_at_mut-front.result.1.now c.args.index c.in-Node.node (here g c)).ends ∙ sym c.first_low-end.ensures

is_node : (g : given.Over) (c : In-Node g) → c.requires.can.node ≡ c.in-Node.node
is_node g c = same_node c.requires.can.node c.in-Node.node (sym c.requires.can.at ∙ (at_child c.args.children.now c.split_at_mut-child.result.0.now c.split_at_mut-child.result.1.now c.split_at_mut-front.result.1.now c.args.index c.in-Node.node (here g c)).at)

bytes_are : (g : given.Over) (c : In-Node g) → c.args.bytes ≡ sum_by message_size (messages_for (parts_of c.args.children.now) c.args.buffer.now c.args.index c.in-Node.node)
bytes_are g c = own_bytes c.args.children.now c.args.index c.args.buffer.now c.in-Node.node c.args.bytes (at_child c.args.children.now c.split_at_mut-child.result.0.now c.split_at_mut-child.result.1.now c.split_at_mut-front.result.1.now c.args.index c.in-Node.node (here g c)).at c.requires.bytes

pub overflow_add-index : goal.overflow_add-index
overflow_add-index g c = grind (arith, elements, inside_of c.args.children.now c.args.index (in_child.Node c.requires.can.node) c.requires.can.at)

pub split_at_mut-front-requires : goal.split_at_mut-front-requires
split_at_mut-front-requires g c = let l = inside_of c.args.children.now c.args.index (in_child.Node c.requires.can.node) c.requires.can.at in omega (arith, l)

pub unreachable-requires : goal.unreachable-requires
unreachable-requires g c = not_leaf c.args.children.now c.split_at_mut-child.result.0.now c.split_at_mut-child.result.1.now c.split_at_mut-front.result.1.now c.args.index c.args.buffer.now c.in-Leaf.field-0
    (opened c.args.children.now c.split_at_mut-front.result.0.now c.split_at_mut-child.result.0.now c.split_at_mut-child.result.1.now c.split_at_mut-front.result.1.now c.args.index (in_child.Leaf c.in-Leaf.field-0) c.split_at_mut-front.ensures.value c.split_at_mut-child.ensures.value c.split_at_mut-front.ensures.front_len c.split_at_mut-child.ensures.front_len c.index-child-0.result c.in-Leaf.is)
    (record { node = c.requires.can.node; at = c.requires.can.at; can = c.requires.can.can })

-- the row with the child as it was
stays : (g : given.Over) (c : In-Node g) → (c.split_at_mut-child.result.0.now ++ slice_set c.split_at_mut-child.result.1.now 0 (in_child.Node c.in-Node.node)) ++ c.split_at_mut-front.result.1.now ≡ c.args.children.now
stays g c =
    opened_set c.args.children.now c.split_at_mut-child.result.0.now c.split_at_mut-child.result.1.now c.split_at_mut-front.result.1.now c.args.index (in_child.Node c.in-Node.node) (in_child.Node c.in-Node.node) (here g c)
    ∙ set_same c.args.children.now c.args.index (in_child.Node c.in-Node.node) (at_child c.args.children.now c.split_at_mut-child.result.0.now c.split_at_mut-child.result.1.now c.split_at_mut-front.result.1.now c.args.index c.in-Node.node (here g c)).at

pub is_laden-requires : goal.is_laden-requires
is_laden-requires g c =
    let b = bytes_are g (goal.at.is_laden-requires g c).In-Node in
    let room = subst (λ (n : Subtree). n.buffer.used + sum_by message_size (messages_for (parts_of c.args.children.now) c.args.buffer.now c.args.index n) ≤ n.buffer.capacity) (is_node g (goal.at.is_laden-requires g c).In-Node) c.requires.can.can.room in
    omega (arith, b, room)

pub returns-then-len-gt0-clause-merges : goal.returns-then-len-gt0-clause-merges
returns-then-len-gt0-clause-merges g c =
    let same = stays g (goal.at.returns-then-len-gt0-clause-merges g c).In-Node in
    elim c.then-len-gt0.branch [ then-len-gt0-via-then-len-gt0 w ↦ (w.children-is ∙ same, (refl, refl)) | then-len-gt0-via-else-len-gt0+then-not-is_laden w ↦ (w.children-is ∙ same, (refl, refl)) ]

pub merge_from-requires : goal.merge_from-requires
merge_from-requires g c =
    let at = (goal.at.merge_from-requires g c).In-Node in
    can_merge_from c.args.children.now c.args.index c.args.buffer.now c.in-Node.node c.first_low-end.result.bytes.now c.requires.can (is_node g at) (ends g at)
    (c.is_laden.ensures.0 c.if-not-is_laden.false).0
    (none_there c.in-Node.node.buffer.messages (let n = c.len.ensures.len in let b = ap (λ (l : MessageList). length l.messages) c.buffer.ensures in let z = c.if-len-gt0.false in omega (arith, n, b, z)))

pub returns-in_err-merge_from-in-Node-clause-err : goal.returns-in_err-merge_from-in-Node-clause-err
returns-in_err-merge_from-in-Node-clause-err g c =
    let at = (goal.at.returns-in_err-merge_from-in-Node-clause-err g c).In-Node in
    on_err c.from_residual.result
    (ap (λ n. (c.split_at_mut-child.result.0.now ++ slice_set c.split_at_mut-child.result.1.now 0 (in_child.Node n)) ++ c.split_at_mut-front.result.1.now) c.in_err-merge_from-in-Node.ensures.err ∙ stays g at, c.in_err-merge_from-in-Node.ensures.unmoved)

pub returns-clause-merges : goal.returns-clause-merges
returns-clause-merges g c =
    let at = (goal.at.returns-clause-merges g c).In-Node in
    merged_down (pins_in c.args.pins.now) c.args.children.now c.args.index c.args.buffer.now c.args.above.now c.in_ok-merge_from-in-Node.field-0 _ c.merge_from.new.from c.args.cache.now c.merge_from.new.cache c.in-Node.node c.merge_from.new.self c.first_low-end.result.bytes.now c.args.bytes
    (at_child c.args.children.now c.split_at_mut-child.result.0.now c.split_at_mut-child.result.1.now c.split_at_mut-front.result.1.now c.args.index c.in-Node.node (here g at)).at
    (ends g at)
    (none_there c.in-Node.node.buffer.messages (let n = c.len.ensures.len in let b = ap (λ (l : MessageList). length l.messages) c.buffer.ensures in let z = c.if-len-gt0.false in omega (arith, n, b, z)))
    (c.is_laden.ensures.0 c.if-not-is_laden.false) (bytes_are g at)
    (opened_set c.args.children.now c.split_at_mut-child.result.0.now c.split_at_mut-child.result.1.now c.split_at_mut-front.result.1.now c.args.index (in_child.Node c.in-Node.node) (in_child.Node c.merge_from.new.self) (here g at))
    c.in_ok-merge_from-in-Node.ensures.left c.in_ok-merge_from-in-Node.ensures.ok c.in_ok-merge_from-in-Node.ensures.merges c.in_ok-merge_from-in-Node.ensures.room c.in_ok-merge_from-in-Node.ensures.cache
