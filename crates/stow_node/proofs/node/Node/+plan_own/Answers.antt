use Rattle.std.proofs.Common.{rules, ℕ, ◌≡◌, ◌<◌, List, [], length, set, Some, refl, sym, ap, ◌∙◌, subst, arith}
use Rattle.std.specs.Prelude.{slice_get}
use Rattle.std.specs.Vec.{with_item, with_items}
use Rattle.std.proofs.lemmas.List.{length-map}
use Rattle.stow_leaves.proofs.StowLeaf.Steps.{if_ok}
use Rattle.stow_leaves.specs.StowMerge.Pins.{pins_in}
use Rattle.stow_node.specs.declared.child.Child.TheVariants as in_child
use Rattle.stow_node.specs.declared.child.Child.{Child}
use Rattle.stow_node.specs.Flushes.{AreShort}
use Rattle.stow_node.specs.Moves.{IsHeaviest, HandsDown, bytes_for}
use Rattle.stow_node.specs.Nodes.{part_of, node_part, parts_of, subtree_of}
use Rattle.stow_node.specs.Plans.{HasLeafTarget, TakesOwn}
use Rattle.stow_node.specs.Subtree.{Subtree, buffered, messages_of}
use Rattle.stow_node.proofs.Deepest.{append_nothing}
use Rattle.stow_node.proofs.Down.{IsNext, stays_then, MadeRoom, WentInto, went_into, new_items}
use Rattle.stow_node.proofs.Entered.{Entered, entered, not_leaf}
use Rattle.stow_node.proofs.HandedDown.{same_node}
use Rattle.stow_node.proofs.PlanSteps.{stays_short, CanPlan, can_plan, child_planned, next_own, next_is_empty, room_when_empty, IsFilled, is_filled, own_way, looked_into}
use Rattle.stow_node.proofs.Reallocated.{block_whole, reallocated_same, stays_like}
use Rattle.stow_node.proofs.Stayed.{ChildStays, child_stays}
use Rattle.stow_node.proofs.node.Node.+plan_own.Given as given
use Rattle.stow_node.proofs.node.Node.+plan_own.Goals as goal
use Rattle.stow_node.proofs.node.Node.+plan_own.Goals.{In-Node, After-deref_mut, After-hand_down, In-Node-index_mut, After-plan_own}

is_next : (g : given.Over) (t : ℕ) (c : In-Node g t) → IsNext c.self.inside c.heaviest-index.result (bytes_for (parts_of c.self.inside.children.items) c.self.inside.buffer c.heaviest-index.result (node_part c.in-Node.node)) c.in-Node.node
is_next g t c =
    next_own c.self.inside c.heaviest-index.result c.in-Node.node c.index_mut.result.now c.as_slice.result.now c.self.invariant (λ e. c.if-self-eq1.false e) (subst (λ (s : Subtree). 0 < length s.buffer.messages) (sym c.self.view_is) c.requires.some)
    c.as_slice.ensures.value c.heaviest-index.ensures c.index_mut.ensures.value c.in-Node.is (let u = c.used-known.ensures.live in let w = c.used-known.ensures.within in omega (arith, u, w))

is_empty : (g : given.Over) (t : ℕ) (c : In-Node g t) → buffered c.in-Node.node ≡ []
is_empty g t c = next_is_empty c.self.inside c.heaviest-index.result (bytes_for (parts_of c.self.inside.children.items) c.self.inside.buffer c.heaviest-index.result (node_part c.in-Node.node)) c.in-Node.node (ap (λ (s : Subtree). s.deeper) c.self.view_is ∙ c.requires.none) (is_next g t c)

is_made : (g : given.Over) (t : ℕ) (c : After-deref_mut g t) → IsNext c.self.inside c.heaviest-index.result (bytes_for (parts_of c.self.inside.children.items) c.self.inside.buffer c.heaviest-index.result (node_part c.in-Node.node)) c.in-Node.node → MadeRoom c.self.inside c.heaviest-index.result c.in-Node.node c.clear.new.self
is_made g t c n = room_when_empty c.self.inside c.heaviest-index.result (bytes_for (parts_of c.self.inside.children.items) c.self.inside.buffer c.heaviest-index.result (node_part c.in-Node.node)) c.in-Node.node c.clear.new.self c.self.invariant n c.clear.ensures.same c.in_ok-clear-in-Node.ensures.block c.in_ok-clear-in-Node.ensures.empty

is_down : (g : given.Over) (t : ℕ) (c : After-hand_down g t) → HandsDown (set c.self.inside.children.items c.heaviest-index.result (in_child.Node c.clear.new.self)) c.heaviest-index.result c.self.inside.buffer (with_items (with_item c.self.inside.children c.heaviest-index.result (in_child.Node c.clear.new.self)) c.hand_down.new.children).items c.hand_down.new.buffer
is_down g t c =
    let d : HandsDown (set c.self.inside.children.items c.heaviest-index.result (in_child.Node c.clear.new.self)) c.heaviest-index.result c.self.inside.buffer c.hand_down.new.children c.hand_down.new.buffer = rw (← c.deref_mut.ensures.value) c.hand_down.ensures in
    rw (new_items c.self.inside.children c.heaviest-index.result (in_child.Node c.clear.new.self) c.hand_down.new.children c.self.inside.buffer c.hand_down.new.buffer d) d

-- the node once its messages moved into the child
record IsMoved (g : given.Over) (t : ℕ) (c : After-hand_down g t) : Type 0 where
  next : IsNext c.self.inside c.heaviest-index.result (bytes_for (parts_of c.self.inside.children.items) c.self.inside.buffer c.heaviest-index.result (node_part c.in-Node.node)) c.in-Node.node
  empty : buffered c.in-Node.node ≡ []
  down : HandsDown (set c.self.inside.children.items c.heaviest-index.result (in_child.Node c.clear.new.self)) c.heaviest-index.result c.self.inside.buffer (with_items (with_item c.self.inside.children c.heaviest-index.result (in_child.Node c.clear.new.self)) c.hand_down.new.children).items c.hand_down.new.buffer
  went : WentInto c.self.inside (with_items (with_item c.self.inside.children c.heaviest-index.result (in_child.Node c.clear.new.self)) c.hand_down.new.children) c.hand_down.new.buffer
  filled : IsFilled c.self.inside (with_items (with_item c.self.inside.children c.heaviest-index.result (in_child.Node c.clear.new.self)) c.hand_down.new.children) c.heaviest-index.result c.hand_down.new.buffer

is_moved : (g : given.Over) (t : ℕ) (c : After-hand_down g t) → IsNext c.self.inside c.heaviest-index.result (bytes_for (parts_of c.self.inside.children.items) c.self.inside.buffer c.heaviest-index.result (node_part c.in-Node.node)) c.in-Node.node
    → buffered c.in-Node.node ≡ [] → MadeRoom c.self.inside c.heaviest-index.result c.in-Node.node c.clear.new.self → IsMoved g t c
is_moved g t c next empty made = record {
  next = next;
  empty = empty;
  down = is_down g t c;
  went = went_into c.self.inside c.heaviest-index.result c.in-Node.node c.clear.new.self (with_items (with_item c.self.inside.children c.heaviest-index.result (in_child.Node c.clear.new.self)) c.hand_down.new.children) c.hand_down.new.buffer c.self.invariant c.len-known.ensures.rising made next.some (is_down g t c);
  filled = is_filled c.self.inside c.heaviest-index.result c.in-Node.node c.clear.new.self (with_items (with_item c.self.inside.children c.heaviest-index.result (in_child.Node c.clear.new.self)) c.hand_down.new.children) c.hand_down.new.buffer empty c.clear.ensures.same made next.some (is_down g t c);
}

-- the child that took them
is_taken : (g : given.Over) (t : ℕ) (c : In-Node-index_mut g t) → IsFilled c.self.inside (with_items (with_item c.self.inside.children c.heaviest-index.result (in_child.Node c.clear.new.self)) c.hand_down.new.children) c.heaviest-index.result c.hand_down.new.buffer
    → slice_get (with_items (with_item c.self.inside.children c.heaviest-index.result (in_child.Node c.clear.new.self)) c.hand_down.new.children).items c.heaviest-index.result ≡ Some (in_child.Node c.in-Node-index_mut.node)
is_taken g t c f = looked_into c.self.inside (with_items (with_item c.self.inside.children c.heaviest-index.result (in_child.Node c.clear.new.self)) c.hand_down.new.children) c.heaviest-index.result c.hand_down.new.buffer c.index_mut-2.result.now c.in-Node-index_mut.node f c.index_mut-2.ensures.value c.in-Node-index_mut.is

-- the node with that child's plan
is_kept : (g : given.Over) (t : ℕ) (c : After-plan_own g t) → WentInto c.self.inside (with_items (with_item c.self.inside.children c.heaviest-index.result (in_child.Node c.clear.new.self)) c.hand_down.new.children) c.hand_down.new.buffer
    → slice_get (with_items (with_item c.self.inside.children c.heaviest-index.result (in_child.Node c.clear.new.self)) c.hand_down.new.children).items c.heaviest-index.result ≡ Some (in_child.Node c.in-Node-index_mut.node)
    → ChildStays (record c.self.inside { children = with_items (with_item c.self.inside.children c.heaviest-index.result (in_child.Node c.clear.new.self)) c.hand_down.new.children; buffer = c.hand_down.new.buffer }) c.in-Node-index_mut.node c.plan_own.new.self
    (with_item (with_items (with_item c.self.inside.children c.heaviest-index.result (in_child.Node c.clear.new.self)) c.hand_down.new.children) c.heaviest-index.result (in_child.Node c.plan_own.new.self))
is_kept g t c went at =
    child_stays (record c.self.inside { children = with_items (with_item c.self.inside.children c.heaviest-index.result (in_child.Node c.clear.new.self)) c.hand_down.new.children; buffer = c.hand_down.new.buffer })
    (with_item (with_items (with_item c.self.inside.children c.heaviest-index.result (in_child.Node c.clear.new.self)) c.hand_down.new.children) c.heaviest-index.result (in_child.Node c.plan_own.new.self))
    c.heaviest-index.result c.in-Node-index_mut.node c.plan_own.new.self went.is_node at refl (stays_like c.plan_own.ensures.same)

pub returns-then-self-eq1-clause-way : goal.returns-then-self-eq1-clause-way
returns-then-self-eq1-clause-way g t c =
    if_ok c.plan_leaf.result _ _ (λ job w. subst (λ h. TakesOwn h c.args.self.now c.args.self.now job) (sym c.if-self-eq1.true ∙ ap (λ (s : Subtree). s.height) c.self.view_is) w) c.plan_leaf.ensures.way

pub index_mut-requires : goal.index_mut-requires
index_mut-requires g t c =
    let i = c.heaviest-index.ensures.inside in
    let m = length-map c.as_slice.result.now part_of in
    let a = ap length c.as_slice.ensures.value in
    let o = c.self.inside.children.ok.0 in
    omega (arith, i, m, a, o)

pub unreachable-requires : goal.unreachable-requires
unreachable-requires g t c =
    let e : Entered c.self.inside c.heaviest-index.result = entered c.self.inside c.heaviest-index.result c.as_slice.result.now c.self.invariant (λ e. c.if-self-eq1.false e) (subst (λ (s : Subtree). 0 < length s.buffer.messages) (sym c.self.view_is) c.requires.some) c.as_slice.ensures.value c.heaviest-index.ensures in
    not_leaf c.self.inside.children.items c.heaviest-index.result c.index_mut.result.now c.in-Leaf.field-0 e.node e.at c.index_mut.ensures.value c.in-Leaf.is

nothing_own : (x : Subtree) → buffered x ≡ [] → x.buffer.messages ≡ []
nothing_own x e = (append_nothing x.buffer.messages x.deeper e).0

pub clear-requires : goal.clear-requires
clear-requires g t c = nothing_own c.in-Node.node (is_empty g t (goal.at.clear-requires g t c).In-Node)

pub invariant_of-self : goal.invariant_of-self
invariant_of-self g t c =
    let next = is_next g t (goal.at.invariant_of-self g t c).In-Node in
    (child_stays c.self.inside (with_item c.self.inside.children c.heaviest-index.result (in_child.Node c.clear.new.self)) c.heaviest-index.result c.in-Node.node c.clear.new.self c.self.invariant next.at refl (reallocated_same c.in-Node.node c.clear.new.self c.clear.ensures.same).0).is_node

pub returns-in_err-clear-in-Node-clause-same : goal.returns-in_err-clear-in-Node-clause-same
returns-in_err-clear-in-Node-clause-same g t c =
    let next = is_next g t (goal.at.returns-in_err-clear-in-Node-clause-same g t c).In-Node in
    rw (← c.self.view_is) (child_stays c.self.inside (with_item c.self.inside.children c.heaviest-index.result (in_child.Node c.clear.new.self)) c.heaviest-index.result c.in-Node.node c.clear.new.self c.self.invariant next.at refl (reallocated_same c.in-Node.node c.clear.new.self c.clear.ensures.same).0).stays

pub plan_leaf-requires-clause-block : goal.plan_leaf-requires-clause-block
plan_leaf-requires-clause-block g t c =
    subst (λ (s : Subtree). s.buffer.capacity ≡ s.shape.buffer) c.self.view_is
    (block_whole c.self.inside.shape.buffer c.self.inside.buffer c.self.invariant.block (subst (λ (s : Subtree). 0 < length s.buffer.messages) (sym c.self.view_is) c.requires.some)
    (let u = c.used-known.ensures.live in let w = c.used-known.ensures.within in omega (arith, u, w)))

pub hand_down-requires : goal.hand_down-requires
hand_down-requires g t c =
    let next = is_next g t (goal.at.hand_down-requires g t c).In-Node in
    let made = is_made g t (goal.at.hand_down-requires g t c).After-deref_mut next in
    rw c.deref_mut.ensures.value (record { node = c.clear.new.self; at = made.at; can = made.can })

pub index_mut-requires-2 : goal.index_mut-requires-2
index_mut-requires-2 g t c =
    let i = c.heaviest-index.ensures.inside in
    let m = length-map c.as_slice.result.now part_of in
    let a = ap length c.as_slice.ensures.value in
    let o = c.self.inside.children.ok.0 in
    omega (arith, i, m, a, o)

pub unreachable-requires-in-Leaf-index_mut : goal.unreachable-requires-in-Leaf-index_mut
unreachable-requires-in-Leaf-index_mut g t c =
    let h = goal.at.unreachable-requires-in-Leaf-index_mut g t c in
    let next = is_next g t h.In-Node in
    let m = is_moved g t h.After-hand_down next (is_empty g t h.In-Node) (is_made g t h.After-deref_mut next) in
    not_leaf (with_items (with_item c.self.inside.children c.heaviest-index.result (in_child.Node c.clear.new.self)) c.hand_down.new.children).items c.heaviest-index.result c.index_mut-2.result.now c.in-Leaf-index_mut.field-0 m.filled.filled m.filled.at c.index_mut-2.ensures.value c.in-Leaf-index_mut.is

pub plan_own-requires : goal.plan_own-requires
plan_own-requires g t c κs within =
    let h = goal.at.plan_own-requires g t c in
    let next = is_next g t h.In-Node in
    let m = is_moved g t h.After-hand_down next (is_empty g t h.In-Node) (is_made g t h.After-deref_mut next) in
    let at = is_taken g t h.In-Node-index_mut m.filled in
    let same = same_node m.filled.filled c.in-Node-index_mut.node (sym m.filled.at ∙ at) in
    let can : CanPlan c.in-Node-index_mut.node c.self.inside.height = can_plan (record c.self.inside { children = with_items (with_item c.self.inside.children c.heaviest-index.result (in_child.Node c.clear.new.self)) c.hand_down.new.children; buffer = c.hand_down.new.buffer }) c.heaviest-index.result c.in-Node-index_mut.node m.went.is_node at
    (stays_short (subtree_of c.self.inside) _ m.went.stays (subst (λ (s : Subtree). AreShort (messages_of s)) (sym c.self.view_is) c.requires.short))
    (subst (λ (s : Subtree). HasLeafTarget s.shape) (sym c.self.view_is) c.requires.target) in
    let less : c.in-Node-index_mut.node.height < c.args.self.now.height = let low = can.lower in let own = ap (λ (s : Subtree). s.height) c.self.view_is in omega (arith, low, own) in
    (search (rules, less), (within, (subst (λ (s : Subtree). 0 < length s.buffer.messages) same m.filled.some, (ap (λ (s : Subtree). s.deeper) (sym same) ∙ m.filled.none, (can.short, can.target)))))

pub invariant_of-self-2 : goal.invariant_of-self-2
invariant_of-self-2 g t c =
    let h = goal.at.invariant_of-self-2 g t c in
    let next = is_next g t h.In-Node in
    let m = is_moved g t h.After-hand_down next (is_empty g t h.In-Node) (is_made g t h.After-deref_mut next) in
    let kept = is_kept g t h.After-plan_own m.went (is_taken g t h.In-Node-index_mut m.filled) in
    kept.is_node

pub returns-clause-same : goal.returns-clause-same
returns-clause-same g t c =
    let h = goal.at.returns-clause-same g t c in
    let next = is_next g t h.In-Node in
    let m = is_moved g t h.After-hand_down next (is_empty g t h.In-Node) (is_made g t h.After-deref_mut next) in
    let kept = is_kept g t h.After-plan_own m.went (is_taken g t h.In-Node-index_mut m.filled) in
    rw (← c.self.view_is) (stays_then m.went.stays kept.stays)

pub returns-clause-job : goal.returns-clause-job
returns-clause-job g t c =
    let h = goal.at.returns-clause-job g t c in
    let next = is_next g t h.In-Node in
    let m = is_moved g t h.After-hand_down next (is_empty g t h.In-Node) (is_made g t h.After-deref_mut next) in
    let at = is_taken g t h.In-Node-index_mut m.filled in
    if_ok c.plan_own.result _ _ (λ job p. child_planned (record c.self.inside { children = with_items (with_item c.self.inside.children c.heaviest-index.result (in_child.Node c.clear.new.self)) c.hand_down.new.children; buffer = c.hand_down.new.buffer }) c.heaviest-index.result c.in-Node-index_mut.node c.plan_own.new.self job (pins_in c.args.pins.now) m.went.is_node at c.plan_own.ensures.same p) c.plan_own.ensures.job

pub returns-clause-way : goal.returns-clause-way
returns-clause-way g t c =
    let h = goal.at.returns-clause-way g t c in
    let next = is_next g t h.In-Node in
    let m = is_moved g t h.After-hand_down next (is_empty g t h.In-Node) (is_made g t h.After-deref_mut next) in
    let at = is_taken g t h.In-Node-index_mut m.filled in
    let heavy = subst (λ (l : List (Child g.row.A.Denot)). IsHeaviest (parts_of l) c.self.inside.buffer c.heaviest-index.result) c.as_slice.ensures.value c.heaviest-index.ensures in
    if_ok c.plan_own.result _ _ (λ job w. subst (λ (s : Subtree). TakesOwn s.height s (subtree_of (record c.self.inside { children = with_item (with_items (with_item c.self.inside.children c.heaviest-index.result (in_child.Node c.clear.new.self)) c.hand_down.new.children) c.heaviest-index.result (in_child.Node c.plan_own.new.self); buffer = c.hand_down.new.buffer })) job) c.self.view_is
    (own_way c.self.inside c.heaviest-index.result (bytes_for (parts_of c.self.inside.children.items) c.self.inside.buffer c.heaviest-index.result (node_part c.in-Node.node)) c.in-Node.node c.clear.new.self c.in-Node-index_mut.node c.plan_own.new.self
    (with_items (with_item c.self.inside.children c.heaviest-index.result (in_child.Node c.clear.new.self)) c.hand_down.new.children) c.hand_down.new.buffer job c.self.invariant heavy next m.empty c.clear.ensures.same m.down m.went at c.plan_own.ensures.same w)) c.plan_own.ensures.way
