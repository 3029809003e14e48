use Rattle.std.proofs.Common.{◌≡◌, ◌+◌, ◌-◌, ◌≤◌, List, length, refl, sym, ap, ◌∙◌, subst, arith}
use Rattle.stow_groups.specs.Groups.{groups}
use Rattle.stow_leaves.specs.AbsorbsAll.{MergesAll, StandsForAll}
use Rattle.stow_leaves.specs.Forgets.{Forgets}
use Rattle.stow_leaves.specs.StowMerge.Pins.{pins_in}
use Rattle.stow_leaves.specs.StowMessage.MessageBuf.{MessageList, without_range}
use Rattle.stow_node.specs.declared.child.Child.{Child}
use Rattle.stow_node.specs.Moves.{accepted}
use Rattle.stow_node.specs.Nodes.{leaves_of, subtree_of}
use Rattle.stow_node.specs.Regroups.{Grows, StepsAsOne}
use Rattle.stow_node.specs.Rooms.{AreShells, HasRoom, nodes_needed}
use Rattle.stow_node.specs.Subtree.{Subtree}
use Rattle.stow_leaves.specs.StowMessage.Rising.{in_range}
use Rattle.stow_node.specs.TakesDown.{CanMergeFrom}
use Rattle.stow_node.specs.Ways.{MergesInto}
use Rattle.stow_node.proofs.Emptied.{Emptied, Taking, can_absorb_all, emptied, merges_into, taking, with_taken}
use Rattle.stow_node.proofs.Leaves.{children_are_leaves, leaf_count}
use Rattle.stow_node.proofs.Regrouped.{steps, grown_leaves}
use Rattle.stow_node.proofs.Rooms.{enough_places, fewer_shells, room_left}
use Rattle.stow_node.proofs.node.Node.merge_from.Given as given
use Rattle.stow_node.proofs.node.Node.merge_from.Goals as goal
use Rattle.stow_node.proofs.node.Node.merge_from.Goals.{After-as_slice-children, After-len, In_ok-fresh}

count : (g : given.Over) (c : After-len g) → c.len.result ≡ length c.in_ok-fresh.fresh.items
count g c = let e = c.len.ensures in let o = c.in_ok-fresh.fresh.ok.0 in omega (arith, e, o)

can : (g : given.Over) (c : After-as_slice-children g) → CanMergeFrom c.args.from.now.messages c.args.end.bytes.now (subtree_of c.self.inside)
can g c = subst (CanMergeFrom c.args.from.now.messages c.args.end.bytes.now) (sym c.self.view_is) c.requires

-- the node as if it had taken the messages
took : (g : given.Over) (c : After-as_slice-children g) → Taking c.self.inside c.args.end.bytes.now c.args.from.now.messages
took g c = taking c.self.inside c.args.end.bytes.now c.args.from.now.messages c.self.invariant c.len-known.ensures.rising (can g c)

-- the node with the fresh leaves, before it is cut
done : (g : given.Over) (c : In_ok-fresh g) → Taking c.self.inside c.args.end.bytes.now c.args.from.now.messages → Emptied (with_taken c.self.inside c.args.end.bytes.now c.args.from.now.messages) c.in_ok-fresh.fresh (pins_in c.args.pins.now)
done g c t = emptied (with_taken c.self.inside c.args.end.bytes.now c.args.from.now.messages) c.in_ok-fresh.fresh c.args.end.bytes.now c.args.from.now.messages (pins_in c.args.pins.now) t.is_node t.are c.in_ok-fresh.ensures.leaves
    (subst (λ (l : List (Child g.row.A.Denot)). StandsForAll (leaves_of l) c.args.end.bytes.now c.args.from.now.messages (pins_in c.args.pins.now) c.self.inside.shape.leaf (leaves_of c.in_ok-fresh.fresh.items)) c.as_slice-children.ensures.value c.in_ok-fresh.ensures.stands)

pub are_for_last-full-requires : goal.are_for_last-full-requires
are_for_last-full-requires g c = let s = c.self.invariant.some in let n = ap length c.as_slice-children.ensures.value in omega (arith, s, n)

pub all_merged-requires-clause-can : goal.all_merged-requires-clause-can
all_merged-requires-clause-can g c =
    let t = took g (goal.at.all_merged-requires-clause-can g c).After-as_slice-children in
    rw c.as_slice-children.ensures.value
    (can_absorb_all (with_taken c.self.inside c.args.end.bytes.now c.args.from.now.messages) c.args.end.bytes.now c.args.from.now.messages t.is_node t.are t.short)

pub all_merged-requires-clause-leaves : goal.all_merged-requires-clause-leaves
all_merged-requires-clause-leaves g c = rw c.as_slice-children.ensures.value (children_are_leaves c.self.inside c.self.invariant (ap (λ (s : Subtree). s.height) c.self.view_is ∙ c.requires.level))

pub same-self : goal.same-self
same-self g c = refl

pub room_for-requires-clause-some : goal.room_for-requires-clause-some
room_for-requires-clause-some g c =
    let n = count g ((goal.at.room_for-requires-clause-some g c).After-len) in
    let s = c.in_ok-fresh.ensures.stands.some in
    let m = leaf_count c.in_ok-fresh.fresh.items c.in_ok-fresh.ensures.leaves in
    omega (arith, n, s, m)

pub room_for-requires-clause-fan_out : goal.room_for-requires-clause-fan_out
room_for-requires-clause-fan_out g c = subst (λ (s : Subtree). 1 ≤ s.shape.fan_out) (sym c.self.view_is) c.requires.fan_out

pub same-self-in_err-room : goal.same-self-in_err-room
same-self-in_err-room g c = refl

pub invariant_of-self : goal.invariant_of-self
invariant_of-self g c = rw c.reset.ensures (done g (goal.at.invariant_of-self g c).In_ok-fresh (took g (goal.at.invariant_of-self g c).After-as_slice-children)).is_node

pub settle-requires-clause-fan_out : goal.settle-requires-clause-fan_out
settle-requires-clause-fan_out g c = subst (λ (s : Subtree). 1 ≤ s.shape.fan_out) (sym c.self.view_is) c.requires.fan_out

pub settle-requires-clause-none : goal.settle-requires-clause-none
settle-requires-clause-none g c = c.in_ok-room.ensures.came

pub settle-requires-clause-came : goal.settle-requires-clause-came
settle-requires-clause-came g c =
    let n = count g ((goal.at.settle-requires-clause-came g c).After-len) in
    let r = c.in_ok-room.ensures.room.came in
    let p = enough_places c.self.inside.shape.fan_out (groups c.self.inside.shape.fan_out c.len.result - 1) in
    let e = ap (groups c.self.inside.shape.fan_out) n in
    omega (arith, r, p, e)

pub settle-requires-clause-shells : goal.settle-requires-clause-shells
settle-requires-clause-shells g c =
    let n = count g ((goal.at.settle-requires-clause-shells g c).After-len) in
    subst (λ k. AreShells (groups c.self.inside.shape.fan_out k - 1) c.self.inside.shape c.in_ok-room.room.shells.items) n
    (fewer_shells (groups c.self.inside.shape.fan_out c.len.result - 1) ((groups c.self.inside.shape.fan_out c.len.result - 1) + nodes_needed c.self.inside.shape.fan_out c.args.above.now (groups c.self.inside.shape.fan_out c.len.result - 1)) c.self.inside.shape c.in_ok-room.room.shells.items (omega arith) c.in_ok-room.ensures.room.shells)

pub returns-clause-ok : goal.returns-clause-ok
returns-clause-ok g c =
    let t = took g (goal.at.returns-clause-ok g c).After-as_slice-children in
    let e = done g (goal.at.returns-clause-ok g c).In_ok-fresh t in
    subst (λ (s : Subtree). StepsAsOne (pins_in c.args.pins.now) (accepted (in_range s.low c.args.end.bytes.now c.args.from.now.messages) s) c.settle.new.self c.settle.new.room.came.items) c.self.view_is
    (subst (λ (s : Subtree). StepsAsOne (pins_in c.args.pins.now) s c.settle.new.self c.settle.new.room.came.items) t.is
    (steps (pins_in c.args.pins.now) (subtree_of (with_taken c.self.inside c.args.end.bytes.now c.args.from.now.messages)) _ c.settle.new.self c.settle.new.room.came.items
    (rw c.reset.ensures e.keeps) (rw c.reset.ensures e.lighter) (c.settle.ensures.settles (pins_in c.args.pins.now))
    (let k = c.settle.ensures.count in let few = c.in_ok-room.ensures.counted in let e = ap (groups c.self.inside.shape.fan_out) (count g ((goal.at.returns-clause-ok g c).After-len)) in omega (arith, k, few, e))))

pub returns-clause-left : goal.returns-clause-left
returns-clause-left g c = c.drop_range.ensures ∙ ap (λ low. without_range low c.args.end.bytes.now c.args.from.now) (c.as_key.ensures ∙ ap (λ (s : Subtree). s.low) c.self.view_is)

pub returns-clause-merges : goal.returns-clause-merges
returns-clause-merges g c =
    let e = done g (goal.at.returns-clause-merges g c).In_ok-fresh (took g (goal.at.returns-clause-merges g c).After-as_slice-children) in
    subst (λ (s : Subtree). MergesInto c.args.end.bytes.now c.args.from.now.messages (pins_in c.args.pins.now) s c.settle.new.self c.settle.new.room.came.items c.args.cache.now c.all_merged.new.cache) c.self.view_is
    (merges_into c.self.inside c.in_ok-fresh.fresh c.args.end.bytes.now c.args.from.now.messages (pins_in c.args.pins.now) c.settle.new.self c.settle.new.room.came.items c.args.cache.now c.all_merged.new.cache c.self.invariant e.is_node c.in_ok-fresh.ensures.leaves
    (subst (λ (l : List (Child g.row.A.Denot)). MergesAll (leaves_of l) c.args.end.bytes.now c.args.from.now.messages (pins_in c.args.pins.now) c.self.inside.shape.leaf (leaves_of c.in_ok-fresh.fresh.items) c.args.cache.now c.all_merged.new.cache) c.as_slice-children.ensures.value c.in_ok-fresh.ensures.merged)
    (subst (λ (b : MessageList). Grows (pins_in c.args.pins.now) (subtree_of (record c.self.inside { children = c.in_ok-fresh.fresh; buffer = b })) c.settle.new.self c.settle.new.room.came.items) c.reset.ensures (c.settle.ensures.settles (pins_in c.args.pins.now))))

pub returns-clause-room : goal.returns-clause-room
returns-clause-room g c =
    let n = count g ((goal.at.returns-clause-room g c).After-len) in
    let count : length c.settle.new.room.came.items ≡ groups c.self.inside.shape.fan_out c.len.result - 1 = let k = c.settle.ensures.count in let e = ap (groups c.self.inside.shape.fan_out) n in omega (arith, k, e) in
    subst (λ (s : Subtree). HasRoom s.shape c.args.above.now c.settle.new.room) c.self.view_is
    (room_left c.self.inside.shape (groups c.self.inside.shape.fan_out c.len.result - 1) _ _ c.args.above.now c.in_ok-room.room c.settle.new.room c.in_ok-room.ensures.room (omega arith) (omega arith)
    (λ rest h. c.settle.ensures.room rest (subst (λ k. AreShells ((groups c.self.inside.shape.fan_out k - 1) + rest) c.self.inside.shape c.in_ok-room.room.shells.items) n h))
    c.settle.ensures.capacity c.settle.ensures.wides count)

pub returns-clause-cache : goal.returns-clause-cache
returns-clause-cache g c =
    subst (λ ls. Forgets c.args.self.now.leaves ls c.args.cache.now c.all_merged.new.cache) (sym (grown_leaves (pins_in c.args.pins.now) _ c.settle.new.self c.settle.new.room.came.items (c.settle.ensures.settles (pins_in c.args.pins.now))))
    (subst (λ ls. Forgets ls (leaves_of c.in_ok-fresh.fresh.items) c.args.cache.now c.all_merged.new.cache) (ap leaves_of c.as_slice-children.ensures.value ∙ ap (λ (s : Subtree). s.leaves) c.self.view_is) c.in_ok-fresh.ensures.cache)
