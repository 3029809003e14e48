use Rattle.std.proofs.Common.{◌≡◌, ◌+◌, ◌-◌, ◌<◌, ◌≤◌, List, length, refl, sym, ap, ◌∙◌, subst, arith}
use Rattle.std.proofs.lemmas.List.{length-map}
use Rattle.stow_leaves.specs.StowMerge.Pins.{pins_in}
use Rattle.stow_leaves.specs.Absorbs.{left_above, CanAbsorb, Merges, StandsFor}
use Rattle.stow_node.specs.Flushes.{AreShort}
use Rattle.stow_leaves.specs.Forgets.{Forgets}
use Rattle.stow_node.specs.Moves.{IsHeaviest}
use Rattle.stow_node.specs.Nodes.{part_of, parts_of, leaves_of, subtree_of}
use Rattle.stow_node.specs.Parts.{high_of}
use Rattle.stow_node.specs.Regroups.{StepsAsOne}
use Rattle.stow_groups.specs.Groups.{groups}
use Rattle.stow_node.specs.Rooms.{AreShells, HasRoom, nodes_needed}
use Rattle.stow_node.specs.Ways.{MergesHeaviest, Goes}
use Rattle.stow_node.specs.Subtree.{Subtree, messages_of}
use Rattle.stow_node.specs.declared.child.Child.{Child}
use Rattle.stow_node.proofs.Leaves.{MergedLeaf, merged_leaf, children_are_leaves, fence_low, can_absorb, leaf_count}
use Rattle.stow_node.proofs.Rooms.{enough_places, fewer_shells, room_left}
use Rattle.stow_node.proofs.Places.{low_at}
use Rattle.stow_node.proofs.Regrouped.{steps, grown_leaves}
use Rattle.stow_node.proofs.node.Node.merge_leaf.Given as given
use Rattle.stow_node.proofs.node.Node.merge_leaf.Goals as goal
use Rattle.stow_node.proofs.node.Node.merge_leaf.Goals.{After-as_slice-2, After-len, After-drop_range}

count : (g : given.Over) (c : After-len g) → c.len.result ≡ length c.in_ok-fresh.fresh.items
count g c = let e = c.len.ensures in let o = c.in_ok-fresh.fresh.ok.0 in omega (arith, e, o)

can : (g : given.Over) (c : After-as_slice-2 g) → CanAbsorb (leaves_of c.self.inside.children.items) c.heaviest-index.result c.self.inside.buffer.messages c.self.inside.shape.leaf
can g c = can_absorb c.self.inside c.heaviest-index.result c.self.invariant (ap (λ (s : Subtree). s.height) c.self.view_is ∙ c.requires.level)
    (subst (λ children. IsHeaviest (parts_of children) c.self.inside.buffer c.heaviest-index.result) c.as_slice.ensures.value c.heaviest-index.ensures)
    (subst (λ (s : Subtree). 0 < length s.buffer.messages) (sym c.self.view_is) c.requires.some)
    (subst (λ (s : Subtree). AreShort (messages_of s)) (sym c.self.view_is) c.requires.short)

-- the node with the fresh leaves, before it is cut
done : (g : given.Over) (c : After-drop_range g) → CanAbsorb (leaves_of c.self.inside.children.items) c.heaviest-index.result c.self.inside.buffer.messages c.self.inside.shape.leaf
    → MergedLeaf c.self.inside c.in_ok-fresh.fresh c.low.result.bytes.now c.high_after-high.result.bytes.now (pins_in c.args.pins.now) c.args.cache.now c.merged.new.cache
done g c can =
    let one = ap (λ (s : Subtree). s.height) c.self.view_is ∙ c.requires.level in
    let inside : c.heaviest-index.result < length c.self.inside.children.items = (let l = c.heaviest-index.ensures.inside in omega (arith, l, length-map c.as_slice.result.now part_of, ap length c.as_slice.ensures.value)) in
    merged_leaf c.self.inside c.in_ok-fresh.fresh c.heaviest-index.result c.low.result.bytes.now c.high_after-high.result.bytes.now (pins_in c.args.pins.now) c.args.cache.now c.merged.new.cache c.self.invariant one
    (subst (λ children. IsHeaviest (parts_of children) c.self.inside.buffer c.heaviest-index.result) c.as_slice.ensures.value c.heaviest-index.ensures)
    can c.in_ok-fresh.ensures.leaves
    (subst (λ (l : List (Child g.row.A.Denot)). Merges (leaves_of l) c.heaviest-index.result c.self.inside.buffer.messages (pins_in c.args.pins.now) c.self.inside.shape.leaf (leaves_of c.in_ok-fresh.fresh.items) c.args.cache.now c.merged.new.cache) c.as_slice-2.ensures.value c.in_ok-fresh.ensures.merged)
    (subst (λ (l : List (Child g.row.A.Denot)). StandsFor (leaves_of l) c.heaviest-index.result c.self.inside.buffer.messages (left_above (leaves_of l) c.heaviest-index.result c.self.inside.buffer.messages) (pins_in c.args.pins.now) c.self.inside.shape.leaf (leaves_of c.in_ok-fresh.fresh.items)) c.as_slice-2.ensures.value c.in_ok-fresh.ensures.stands)
    (c.low.ensures ∙ sym (low_at c.self.inside.children.items c.heaviest-index.result c.index.result.now inside c.index.ensures (part_of c.index.result.now)) ∙ fence_low c.self.inside c.heaviest-index.result (part_of c.index.result.now) c.self.invariant one inside)
    (c.high_after-high.ensures ∙ ap (λ (l : List (Child g.row.A.Denot)). high_of (parts_of l) c.heaviest-index.result) c.as_slice-3.ensures.value)

pub heaviest-index-requires : goal.heaviest-index-requires
heaviest-index-requires g c = let s = c.self.invariant.some in let n = ap length c.as_slice.ensures.value in omega (arith, s, n)

pub merged-requires-clause-can : goal.merged-requires-clause-can
merged-requires-clause-can g c = rw c.as_slice-2.ensures.value (can g (goal.at.merged-requires-clause-can g c).After-as_slice-2)

pub merged-requires-clause-leaves : goal.merged-requires-clause-leaves
merged-requires-clause-leaves g c = rw c.as_slice-2.ensures.value (children_are_leaves c.self.inside c.self.invariant (ap (λ (s : Subtree). s.height) c.self.view_is ∙ c.requires.level))

pub same-self : goal.same-self
same-self g c = refl

pub room_for-requires-clause-some : goal.room_for-requires-clause-some
room_for-requires-clause-some g c =
    let n = count g ((goal.at.room_for-requires-clause-some g c).After-len) in
    let s = c.in_ok-fresh.ensures.stands.some in
    let m = leaf_count c.in_ok-fresh.fresh.items c.in_ok-fresh.ensures.leaves in
    omega (arith, n, s, m)

pub room_for-requires-clause-fan_out : goal.room_for-requires-clause-fan_out
room_for-requires-clause-fan_out g c = subst (λ (s : Subtree). 1 ≤ s.shape.fan_out) (sym c.self.view_is) c.requires.fan_out

pub same-self-in_err-room : goal.same-self-in_err-room
same-self-in_err-room g c = refl

pub overflow_sub-full : goal.overflow_sub-full
overflow_sub-full g c =
    let i = c.heaviest-index.ensures.inside in
    let m = length-map c.as_slice.result.now part_of in
    let a = ap length c.as_slice.ensures.value in
    let o = c.self.inside.children.ok.0 in
    let n = c.len-2.ensures in
    omega (arith, i, m, a, o, n)

pub high_after-high-requires : goal.high_after-high-requires
high_after-high-requires g c =
    let i = c.heaviest-index.ensures.inside in
    let m = length-map c.as_slice.result.now part_of in
    let a = ap length c.as_slice.ensures.value in
    let b = ap length c.as_slice-3.ensures.value in
    omega (arith, i, m, a, b)

pub index-requires : goal.index-requires
index-requires g c =
    let i = c.heaviest-index.ensures.inside in
    let m = length-map c.as_slice.result.now part_of in
    let a = ap length c.as_slice.ensures.value in
    let o = c.self.inside.children.ok.0 in
    omega (arith, i, m, a, o)

pub invariant_of-self : goal.invariant_of-self
invariant_of-self g c = rw c.drop_range.ensures (done g (goal.at.invariant_of-self g c).After-drop_range (can g (goal.at.invariant_of-self g c).After-as_slice-2)).is_node

pub settle-requires-clause-fan_out : goal.settle-requires-clause-fan_out
settle-requires-clause-fan_out g c = subst (λ (s : Subtree). 1 ≤ s.shape.fan_out) (sym c.self.view_is) c.requires.fan_out

pub settle-requires-clause-none : goal.settle-requires-clause-none
settle-requires-clause-none g c = c.in_ok-room.ensures.came

pub settle-requires-clause-came : goal.settle-requires-clause-came
settle-requires-clause-came g c =
    let n = count g ((goal.at.settle-requires-clause-came g c).After-len) in
    let r = c.in_ok-room.ensures.room.came in
    let p = enough_places c.self.inside.shape.fan_out (groups c.self.inside.shape.fan_out c.len.result - 1) in
    let e = ap (groups c.self.inside.shape.fan_out) n in
    omega (arith, r, p, e)

pub settle-requires-clause-shells : goal.settle-requires-clause-shells
settle-requires-clause-shells g c =
    let n = count g ((goal.at.settle-requires-clause-shells g c).After-len) in
    subst (λ k. AreShells (groups c.self.inside.shape.fan_out k - 1) c.self.inside.shape c.in_ok-room.room.shells.items) n
    (fewer_shells (groups c.self.inside.shape.fan_out c.len.result - 1) ((groups c.self.inside.shape.fan_out c.len.result - 1) + nodes_needed c.self.inside.shape.fan_out c.args.above.now (groups c.self.inside.shape.fan_out c.len.result - 1)) c.self.inside.shape c.in_ok-room.room.shells.items (omega arith) c.in_ok-room.ensures.room.shells)

pub returns-clause-ok : goal.returns-clause-ok
returns-clause-ok g c =
    let leaf = done g (goal.at.returns-clause-ok g c).After-drop_range (can g (goal.at.returns-clause-ok g c).After-as_slice-2) in
    subst (λ (s : Subtree). StepsAsOne (pins_in c.args.pins.now) s c.settle.new.self c.settle.new.room.came.items) c.self.view_is
    (steps (pins_in c.args.pins.now) (subtree_of c.self.inside) _ c.settle.new.self c.settle.new.room.came.items
    (rw c.drop_range.ensures leaf.keeps) (rw c.drop_range.ensures leaf.lighter) (c.settle.ensures.settles (pins_in c.args.pins.now))
    (let k = c.settle.ensures.count in let few = c.in_ok-room.ensures.counted in let e = ap (groups c.self.inside.shape.fan_out) (count g ((goal.at.returns-clause-ok g c).After-len)) in omega (arith, k, few, e)))

pub returns-clause-goes : goal.returns-clause-goes
returns-clause-goes g c =
    subst (λ h. Goes h (pins_in c.args.pins.now) c.args.self.now c.settle.new.self c.settle.new.room.came.items c.args.cache.now c.merged.new.cache) (sym c.requires.level)
    (subst (λ (s : Subtree). MergesHeaviest (pins_in c.args.pins.now) s c.settle.new.self c.settle.new.room.came.items c.args.cache.now c.merged.new.cache) c.self.view_is
    ((done g (goal.at.returns-clause-goes g c).After-drop_range (can g (goal.at.returns-clause-goes g c).After-as_slice-2)).goes c.drop_range.new.self c.settle.new.self c.settle.new.room.came.items c.drop_range.ensures (c.settle.ensures.settles (pins_in c.args.pins.now))))

pub returns-clause-room : goal.returns-clause-room
returns-clause-room g c =
    let n = count g ((goal.at.returns-clause-room g c).After-len) in
    let count : length c.settle.new.room.came.items ≡ groups c.self.inside.shape.fan_out c.len.result - 1 = let k = c.settle.ensures.count in let e = ap (groups c.self.inside.shape.fan_out) n in omega (arith, k, e) in
    subst (λ (s : Subtree). HasRoom s.shape c.args.above.now c.settle.new.room) c.self.view_is
    (room_left c.self.inside.shape (groups c.self.inside.shape.fan_out c.len.result - 1) _ _ c.args.above.now c.in_ok-room.room c.settle.new.room c.in_ok-room.ensures.room (omega arith) (omega arith)
    (λ rest h. c.settle.ensures.room rest (subst (λ k. AreShells ((groups c.self.inside.shape.fan_out k - 1) + rest) c.self.inside.shape c.in_ok-room.room.shells.items) n h))
    c.settle.ensures.capacity c.settle.ensures.wides count)

pub returns-clause-cache : goal.returns-clause-cache
returns-clause-cache g c =
    subst (λ ls. Forgets c.args.self.now.leaves ls c.args.cache.now c.merged.new.cache) (sym (grown_leaves (pins_in c.args.pins.now) _ c.settle.new.self c.settle.new.room.came.items (c.settle.ensures.settles (pins_in c.args.pins.now))))
    (subst (λ ls. Forgets ls (leaves_of c.in_ok-fresh.fresh.items) c.args.cache.now c.merged.new.cache) (ap leaves_of c.as_slice-2.ensures.value ∙ ap (λ (s : Subtree). s.leaves) c.self.view_is) c.in_ok-fresh.ensures.cache)
