use Rattle.std.proofs.Common.{rules, ℕ, ◌<◌, length, set, sym, ap, ◌∙◌, subst, arith}
use Rattle.std.specs.Vec.{with_item, with_items}
use Rattle.std.proofs.lemmas.List.{length-map, length-set}
use Rattle.stow_leaves.specs.StowMessage.Rising.{in_range, AreNew}
use Rattle.stow_node.specs.declared.child.Child.TheVariants as in_child
use Rattle.stow_node.specs.Eases.{Eases}
use Rattle.stow_node.specs.Moves.{HandsDown}
use Rattle.stow_node.specs.declared.shape.Shape.{Shape}
use Rattle.stow_node.specs.Nodes.{part_of, node_part, parts_of, IsBelow, subtree_of}
use Rattle.stow_node.specs.Parts.{Part, high_of}
use Rattle.stow_node.specs.Subtree.{Subtree}
use Rattle.stow_node.proofs.Down.{IsNext, MadeRoom, made_room, WentInto, went_into, new_items}
use Rattle.stow_node.proofs.Eased.{EasedBelow, eased_itself, eased_below, eased_into}
use Rattle.stow_node.proofs.Entered.{Entered, entered, not_leaf}
use Rattle.stow_node.proofs.Reallocated.{reallocated_same}
use Rattle.stow_node.proofs.Stayed.{level_at, part_at}
use Rattle.stow_node.proofs.Stepping.{next_is, next_filled}
use Rattle.stow_node.proofs.node.Node.+ease_below.Given as given
use Rattle.stow_node.proofs.node.Node.+ease_below.Goals as goal
use Rattle.stow_node.proofs.node.Node.+ease_below.Goals.{In-Node, After-ease_below, After-deref_mut, After-hand_down, After-is_apart}

is_next : (g : given.Over) (t : ℕ) (c : In-Node g t) → IsNext c.self.inside c.heaviest-index.result c.bytes_for-bytes.result c.in-Node.node
is_next g t c =
    next_is c.self.inside c.heaviest-index.result c.bytes_for-bytes.result c.in-Node.node c.index_mut.result.now c.as_slice.result.now c.as_slice-2.result.now c.self.invariant (λ e. c.if-self-eq1.false e) (subst (λ (s : Subtree). 0 < length s.buffer.messages) (sym c.self.view_is) c.requires.some)
    c.as_slice.ensures.value c.heaviest-index.ensures c.index_mut.ensures.value c.in-Node.is c.as_slice-2.ensures.value c.bytes_for-bytes.ensures (let u = c.used-known.ensures.live in let w = c.used-known.ensures.within in omega arith)

-- ---- the move was the child's own

is_eased : (g : given.Over) (t : ℕ) (c : After-ease_below g t) → IsNext c.self.inside c.heaviest-index.result c.bytes_for-bytes.result c.in-Node.node
    → EasedBelow c.self.inside (with_item c.self.inside.children c.heaviest-index.result (in_child.Node c.ease_below.new.self)) c.args.batch.now.messages
is_eased g t c n = eased_below c.self.inside c.heaviest-index.result c.in-Node.node c.gets_room.new.self c.ease_below.new.self c.args.batch.now.messages c.self.invariant n.at c.gets_room.ensures.same c.ease_below.ensures.eases

-- ---- nothing moved

is_left : (g : given.Over) (t : ℕ) (c : After-is_apart g t) → IsNext c.self.inside c.heaviest-index.result c.bytes_for-bytes.result c.in-Node.node
    → EasedBelow c.self.inside (with_item c.self.inside.children c.heaviest-index.result (in_child.Node c.gets_room.new.self)) c.args.batch.now.messages
is_left g t c n = eased_below c.self.inside c.heaviest-index.result c.in-Node.node c.gets_room.new.self c.gets_room.new.self c.args.batch.now.messages c.self.invariant n.at c.gets_room.ensures.same (eased_itself c.args.batch.now.messages c.gets_room.new.self)

-- ---- its messages moved into the child

is_made : (g : given.Over) (t : ℕ) (c : After-deref_mut g t) → IsNext c.self.inside c.heaviest-index.result c.bytes_for-bytes.result c.in-Node.node → MadeRoom c.self.inside c.heaviest-index.result c.in-Node.node c.gets_room.new.self
is_made g t c n = made_room c.self.inside c.heaviest-index.result c.in-Node.node c.gets_room.new.self c.self.invariant n.at c.gets_room.ensures.same (let r = c.in-Ok.ensures.room c.if-not-has_room.false in let b = n.bytes_are in omega arith)

is_down : (g : given.Over) (t : ℕ) (c : After-hand_down g t) → HandsDown (set c.self.inside.children.items c.heaviest-index.result (in_child.Node c.gets_room.new.self)) c.heaviest-index.result c.self.inside.buffer (with_items (with_item c.self.inside.children c.heaviest-index.result (in_child.Node c.gets_room.new.self)) c.hand_down.new.children).items c.hand_down.new.buffer
is_down g t c =
    let d : HandsDown (set c.self.inside.children.items c.heaviest-index.result (in_child.Node c.gets_room.new.self)) c.heaviest-index.result c.self.inside.buffer c.hand_down.new.children c.hand_down.new.buffer = rw (← c.deref_mut.ensures.value) c.hand_down.ensures in
    rw (new_items c.self.inside.children c.heaviest-index.result (in_child.Node c.gets_room.new.self) c.hand_down.new.children c.self.inside.buffer c.hand_down.new.buffer d) d

is_went : (g : given.Over) (t : ℕ) (c : After-hand_down g t) → IsNext c.self.inside c.heaviest-index.result c.bytes_for-bytes.result c.in-Node.node → MadeRoom c.self.inside c.heaviest-index.result c.in-Node.node c.gets_room.new.self → WentInto c.self.inside (with_items (with_item c.self.inside.children c.heaviest-index.result (in_child.Node c.gets_room.new.self)) c.hand_down.new.children) c.hand_down.new.buffer
is_went g t c n m =
    went_into c.self.inside c.heaviest-index.result c.in-Node.node c.gets_room.new.self (with_items (with_item c.self.inside.children c.heaviest-index.result (in_child.Node c.gets_room.new.self)) c.hand_down.new.children) c.hand_down.new.buffer c.self.invariant c.len-known.ensures.rising m (let some = n.some in let b = n.bytes_are in omega arith) (is_down g t c)

-- none of the batch is among them
are_others : (g : given.Over) (t : ℕ) (c : After-deref_mut g t) → MadeRoom c.self.inside c.heaviest-index.result c.in-Node.node c.gets_room.new.self
    → AreNew (in_range c.gets_room.new.self.low (high_of (parts_of (set c.self.inside.children.items c.heaviest-index.result (in_child.Node c.gets_room.new.self))) c.heaviest-index.result) c.args.batch.now.messages) c.self.inside.buffer.messages
are_others g t c m =
    subst (λ (p : Part). AreNew (in_range p.low (high_of (parts_of (set c.self.inside.children.items c.heaviest-index.result (in_child.Node c.gets_room.new.self))) c.heaviest-index.result) c.args.batch.now.messages) c.self.inside.buffer.messages)
    (part_at (set c.self.inside.children.items c.heaviest-index.result (in_child.Node c.gets_room.new.self)) c.heaviest-index.result (in_child.Node c.gets_room.new.self) (node_part c.gets_room.new.self) m.at)
    (rw (← c.as_slice-3.ensures.value) (c.is_apart.ensures (node_part c.gets_room.new.self) c.if-is_apart.true))

pub bytes_for-bytes-requires : goal.bytes_for-bytes-requires
bytes_for-bytes-requires g t c =
    let i = c.heaviest-index.ensures.inside in
    let m = length-map c.as_slice.result.now part_of in
    let a = ap length c.as_slice.ensures.value in
    let b = ap length c.as_slice-2.ensures.value in
    omega (arith, i, m, a, b)

pub index_mut-requires : goal.index_mut-requires
index_mut-requires g t c =
    let i = c.heaviest-index.ensures.inside in
    let m = length-map c.as_slice.result.now part_of in
    let a = ap length c.as_slice.ensures.value in
    let o = c.self.inside.children.ok.0 in
    omega (arith, i, m, a, o)

pub unreachable-requires : goal.unreachable-requires
unreachable-requires g t c =
    let e : Entered c.self.inside c.heaviest-index.result = entered c.self.inside c.heaviest-index.result c.as_slice.result.now c.self.invariant (λ e. c.if-self-eq1.false e) (subst (λ (s : Subtree). 0 < length s.buffer.messages) (sym c.self.view_is) c.requires.some) c.as_slice.ensures.value c.heaviest-index.ensures in
    not_leaf c.self.inside.children.items c.heaviest-index.result c.index_mut.result.now c.in-Leaf.field-0 e.node e.at c.index_mut.ensures.value c.in-Leaf.is

pub gets_room-requires-clause-spare : goal.gets_room-requires-clause-spare
gets_room-requires-clause-spare g t c =
    let next = is_next g t (goal.at.gets_room-requires-clause-spare g t c).In-Node in
    let below : IsBelow c.self.inside.height c.self.inside.shape (in_child.Node c.in-Node.node) = level_at c.self.inside.height c.self.inside.shape c.self.inside.children.items c.heaviest-index.result (in_child.Node c.in-Node.node) c.self.invariant.level next.at in
    let size = ap (λ (s : Shape). s.buffer) below.same.0 in
    let own = ap (λ (s : Subtree). s.shape.buffer) c.self.view_is in
    let spare = c.requires.spare in
    omega (arith, size, own, spare)

pub ease_below-requires : goal.ease_below-requires
ease_below-requires g t c κs within =
    let next = is_next g t (goal.at.ease_below-requires g t c).In-Node in
    let like = (reallocated_same c.in-Node.node c.gets_room.new.self c.gets_room.ensures.same).0 in
    let below : IsBelow c.self.inside.height c.self.inside.shape (in_child.Node c.in-Node.node) = level_at c.self.inside.height c.self.inside.shape c.self.inside.children.items c.heaviest-index.result (in_child.Node c.in-Node.node) c.self.invariant.level next.at in
    let filled = next_filled c.self.inside c.heaviest-index.result c.bytes_for-bytes.result c.ample-ample.result c.in-Node.node c.gets_room.new.self c.self.invariant next c.gets_room.ensures.same c.in-Ok.ensures.block (c.in-Ok.ensures.full c.if-not-has_room.true) c.ample-ample.ensures.most in
    let less : c.gets_room.new.self.height < c.args.self.now.height = let low = next.lower in let h = like.height in let own = ap (λ (s : Subtree). s.height) c.self.view_is in omega (arith, low, h, own) in
    let size = ap (λ (s : Shape). s.buffer) (like.shape ∙ below.same.0) in
    let mine = ap (λ (s : Subtree). s.shape.buffer) c.self.view_is in
    let spare = c.requires.spare in
    let kept = c.gets_room.ensures.spare in
    (search (rules, less), (within, (filled, omega (arith, size, mine, spare, kept))))

pub invariant_of-self : goal.invariant_of-self
invariant_of-self g t c =
    let next = is_next g t (goal.at.invariant_of-self g t c).In-Node in
    (eased_below c.self.inside c.heaviest-index.result c.in-Node.node c.gets_room.new.self c.gets_room.new.self c.args.batch.now.messages c.self.invariant next.at c.gets_room.ensures.same (eased_itself c.args.batch.now.messages c.gets_room.new.self)).is_node

pub returns-in_default-clause-eases : goal.returns-in_default-clause-eases
returns-in_default-clause-eases g t c =
    let next = is_next g t (goal.at.returns-in_default-clause-eases g t c).In-Node in
    rw (← c.self.view_is) (eased_below c.self.inside c.heaviest-index.result c.in-Node.node c.gets_room.new.self c.gets_room.new.self c.args.batch.now.messages c.self.invariant next.at c.gets_room.ensures.same (eased_itself c.args.batch.now.messages c.gets_room.new.self)).eases

pub invariant_of-self-then-not-has_room : goal.invariant_of-self-then-not-has_room
invariant_of-self-then-not-has_room g t c =
    let h = goal.at.invariant_of-self-then-not-has_room g t c in
    (is_eased g t h.After-ease_below (is_next g t h.In-Node)).is_node

pub returns-then-not-has_room-clause-eases : goal.returns-then-not-has_room-clause-eases
returns-then-not-has_room-clause-eases g t c =
    let h = goal.at.returns-then-not-has_room-clause-eases g t c in
    rw (← c.self.view_is) (is_eased g t h.After-ease_below (is_next g t h.In-Node)).eases

pub is_apart-requires : goal.is_apart-requires
is_apart-requires g t c =
    let i = c.heaviest-index.ensures.inside in
    let m = length-map c.as_slice.result.now part_of in
    let a = ap length c.as_slice.ensures.value in
    let l = length-set c.self.inside.children.items c.heaviest-index.result (in_child.Node c.gets_room.new.self) in
    let b = ap length c.as_slice-3.ensures.value in
    omega (arith, i, m, a, l, b)

pub hand_down-requires : goal.hand_down-requires
hand_down-requires g t c =
    let h = goal.at.hand_down-requires g t c in
    let made = is_made g t h.After-deref_mut (is_next g t h.In-Node) in
    rw c.deref_mut.ensures.value (record { node = c.gets_room.new.self; at = made.at; can = made.can })

pub invariant_of-self-then-is_apart : goal.invariant_of-self-then-is_apart
invariant_of-self-then-is_apart g t c =
    let h = goal.at.invariant_of-self-then-is_apart g t c in
    let next = is_next g t h.In-Node in
    (is_went g t h.After-hand_down next (is_made g t h.After-deref_mut next)).is_node

pub invariant_of-self-else-is_apart : goal.invariant_of-self-else-is_apart
invariant_of-self-else-is_apart g t c =
    let h = goal.at.invariant_of-self-else-is_apart g t c in
    (is_left g t h.After-is_apart (is_next g t h.In-Node)).is_node

pub returns-then-is_apart-clause-eases : goal.returns-then-is_apart-clause-eases
returns-then-is_apart-clause-eases g t c =
    let h = goal.at.returns-then-is_apart-clause-eases g t c in
    let next = is_next g t h.In-Node in
    let made = is_made g t h.After-deref_mut next in
    subst (λ (s : Subtree). Eases c.args.batch.now.messages s (subtree_of (record c.self.inside { children = (with_items (with_item c.self.inside.children c.heaviest-index.result (in_child.Node c.gets_room.new.self)) c.hand_down.new.children); buffer = c.hand_down.new.buffer }))) c.self.view_is
    (eased_into c.self.inside c.heaviest-index.result c.in-Node.node c.gets_room.new.self (with_items (with_item c.self.inside.children c.heaviest-index.result (in_child.Node c.gets_room.new.self)) c.hand_down.new.children) c.hand_down.new.buffer c.args.batch.now.messages
    c.self.invariant c.len-known.ensures.rising next.at c.gets_room.ensures.same made (is_went g t h.After-hand_down next made) (is_down g t h.After-hand_down) (are_others g t h.After-deref_mut made))

pub returns-else-is_apart-clause-eases : goal.returns-else-is_apart-clause-eases
returns-else-is_apart-clause-eases g t c =
    let h = goal.at.returns-else-is_apart-clause-eases g t c in
    rw (← c.self.view_is) (is_left g t h.After-is_apart (is_next g t h.In-Node)).eases
