use Rattle.std.proofs.Common.{◌≡◌, ◌+◌, ◌-◌, ◌≤◌, List, length, refl, sym, ap, ◌∙◌, subst, arith}
use Rattle.std.proofs.lemmas.List.{length-map}
use Rattle.stow_leaves.specs.StowLeaf.Intervals.{top_key, spans}
use Rattle.stow_leaves.specs.Absorbs.{CanPutPages, PutsPages}
use Rattle.stow_leaves.specs.Forgets.{Forgets}
use Rattle.stow_leaves.proofs.StowMessage.Oldest.{oldest_are_held}
use Rattle.stow_leaves.specs.StowMessage.Rising.{AreHeld}
use Rattle.stow_groups.specs.Groups.{groups}
use Rattle.stow_node.specs.Installs.{AreGone, CanInstall}
use Rattle.stow_node.specs.Nodes.{part_of, parts_of, leaves_of, subtree_of}
use Rattle.stow_node.specs.Parts.{low_or, IsFor}
use Rattle.stow_node.specs.Regroups.{StepsAsOne}
use Rattle.stow_node.specs.Rooms.{AreShells, HasRoom, nodes_needed}
use Rattle.stow_node.specs.Subtree.{Subtree}
use Rattle.stow_node.specs.declared.child.Child.{Child}
use Rattle.stow_node.proofs.Installable.{fence_inside}
use Rattle.stow_node.proofs.PagesIn.{some_come, job_leaf, can_put, InstalledLeaf, installed_leaf, gone_grown}
use Rattle.stow_node.proofs.Leaves.{children_are_leaves, leaf_count}
use Rattle.stow_node.proofs.Nearest.{nearest_lowest}
use Rattle.stow_node.proofs.Rooms.{enough_places, fewer_shells, room_left}
use Rattle.stow_node.proofs.Regrouped.{steps, grown_leaves}
use Rattle.stow_node.proofs.node.Node.install_leaf.Given as given
use Rattle.stow_node.proofs.node.Node.install_leaf.Goals as goal
use Rattle.stow_node.proofs.node.Node.install_leaf.Goals.{After-child_for-index, After-len, After-take_out-taken}

one : (g : given.Over) (c : After-child_for-index g) → c.self.inside.height ≡ 1
one g c = ap (λ (s : Subtree). s.height) c.self.view_is ∙ c.requires.level

can : (g : given.Over) (c : After-child_for-index g) → CanInstall (subtree_of c.self.inside) c.args.merge.now.job c.requires.can.pins
can g c = subst (λ (s : Subtree). CanInstall s c.args.merge.now.job c.requires.can.pins) (sym c.self.view_is) c.requires.can.can

is_for : (g : given.Over) (c : After-child_for-index g) → IsFor (parts_of c.self.inside.children.items) c.args.merge.now.job.target.low_fence c.child_for-index.result
is_for g c = subst (λ (l : List (Child g.row.A.Denot)). IsFor (parts_of l) c.args.merge.now.job.target.low_fence c.child_for-index.result) c.as_slice.ensures.value
    (subst (λ k. IsFor (parts_of c.as_slice.result.now) k c.child_for-index.result) c.as_key-fence.ensures c.child_for-index.ensures)

put : (g : given.Over) (c : After-child_for-index g) → CanPutPages (leaves_of c.self.inside.children.items) c.child_for-index.result c.args.merge.now.job
put g c = can_put c.self.inside c.child_for-index.result c.args.merge.now.job c.requires.can.pins c.self.invariant (one g c) (is_for g c) (can g c)

held : (g : given.Over) (c : After-child_for-index g) → AreHeld c.args.merge.now.job.batch.messages c.self.inside.buffer.messages
held g c = oldest_are_held c.args.merge.now.job.batch.messages c.self.inside.buffer.messages c.len-known.ensures.rising
    (job_leaf c.self.inside c.child_for-index.result c.args.merge.now.job c.requires.can.pins c.self.invariant (one g c) (is_for g c) (can g c)).here.oldest

count : (g : given.Over) (c : After-len g) → c.len.result ≡ length c.in_ok-fresh.fresh.items
count g c = let e = c.len.ensures in let o = c.in_ok-fresh.fresh.ok.0 in omega (arith, e, o)

-- the node with the fresh leaves, before it is cut
done : (g : given.Over) (c : After-take_out-taken g) → c.self.inside.height ≡ 1 → IsFor (parts_of c.self.inside.children.items) c.args.merge.now.job.target.low_fence c.child_for-index.result → CanInstall (subtree_of c.self.inside) c.args.merge.now.job c.requires.can.pins → AreHeld c.args.merge.now.job.batch.messages c.self.inside.buffer.messages
    → InstalledLeaf c.self.inside c.in_ok-fresh.fresh c.args.merge.now.job
done g c one own can held =
    installed_leaf c.self.inside c.in_ok-fresh.fresh c.child_for-index.result c.args.merge.now.job c.requires.can.pins c.self.invariant one own can held c.requires.some c.in_ok-fresh.ensures.leaves
    (subst (λ (l : List (Child g.row.A.Denot)). PutsPages (leaves_of l) c.child_for-index.result c.args.merge.now.job (leaves_of c.in_ok-fresh.fresh.items)) c.as_slice-2.ensures.value c.in_ok-fresh.ensures.puts)
    c.in_ok-fresh.ensures.tiled

pub child_for-index-requires-clause-some : goal.child_for-index-requires-clause-some
child_for-index-requires-clause-some g c = let s = c.self.invariant.some in let n = ap length c.as_slice.ensures.value in omega (arith, s, n)

pub child_for-index-requires-clause-within : goal.child_for-index-requires-clause-within
child_for-index-requires-clause-within g c =
    (λ j. spans (low_or top_key (parts_of (c.as_slice.ensures.value j))) top_key (c.as_key-fence.ensures j))
    ∙ fence_inside c.self.inside c.args.merge.now.job c.requires.can.pins c.self.invariant (subst (λ (s : Subtree). CanInstall s c.args.merge.now.job c.requires.can.pins) (sym c.self.view_is) c.requires.can.can)

pub installed-requires-clause-can : goal.installed-requires-clause-can
installed-requires-clause-can g c = rw c.as_slice-2.ensures.value (put g (goal.at.installed-requires-clause-can g c).After-child_for-index)

pub installed-requires-clause-leaves : goal.installed-requires-clause-leaves
installed-requires-clause-leaves g c = rw c.as_slice-2.ensures.value (children_are_leaves c.self.inside c.self.invariant (one g (goal.at.installed-requires-clause-leaves g c).After-child_for-index))

pub same-self : goal.same-self
same-self g c = refl

pub room_for-requires-clause-some : goal.room_for-requires-clause-some
room_for-requires-clause-some g c =
    let n = count g ((goal.at.room_for-requires-clause-some g c).After-len) in
    let s = some_come (leaves_of c.as_slice-2.result.now) (leaves_of c.in_ok-fresh.fresh.items) c.child_for-index.result c.args.merge.now.job c.requires.can.pins c.requires.can.can.covered c.in_ok-fresh.ensures.puts in
    let m = leaf_count c.in_ok-fresh.fresh.items c.in_ok-fresh.ensures.leaves in
    omega (arith, n, s, m)

pub room_for-requires-clause-fan_out : goal.room_for-requires-clause-fan_out
room_for-requires-clause-fan_out g c = subst (λ (s : Subtree). 1 ≤ s.shape.fan_out) (sym c.self.view_is) c.requires.fan_out

pub same-self-in_err-room : goal.same-self-in_err-room
same-self-in_err-room g c = refl

pub overflow_sub-full : goal.overflow_sub-full
overflow_sub-full g c =
    let i = c.child_for-index.ensures.inside in
    let m = length-map c.as_slice.result.now part_of in
    let a = ap length c.as_slice.ensures.value in
    let o = c.self.inside.children.ok.0 in
    let n = c.len-2.ensures in
    omega (arith, i, m, a, o, n)

pub invariant_of-self : goal.invariant_of-self
invariant_of-self g c =
    let f = (goal.at.invariant_of-self g c).After-child_for-index in
    rw (c.take_out-taken.ensures.taken (c.take_out-taken.ensures.held.1 (held g f))) (done g (goal.at.invariant_of-self g c).After-take_out-taken (one g f) (is_for g f) (can g f) (held g f)).is_node

pub settle-requires-clause-fan_out : goal.settle-requires-clause-fan_out
settle-requires-clause-fan_out g c = subst (λ (s : Subtree). 1 ≤ s.shape.fan_out) (sym c.self.view_is) c.requires.fan_out

pub settle-requires-clause-none : goal.settle-requires-clause-none
settle-requires-clause-none g c = c.in_ok-room.ensures.came

pub settle-requires-clause-came : goal.settle-requires-clause-came
settle-requires-clause-came g c =
    let n = count g ((goal.at.settle-requires-clause-came g c).After-len) in
    let r = c.in_ok-room.ensures.room.came in
    let p = enough_places c.self.inside.shape.fan_out (groups c.self.inside.shape.fan_out c.len.result - 1) in
    let e = ap (groups c.self.inside.shape.fan_out) n in
    omega (arith, r, p, e)

pub settle-requires-clause-shells : goal.settle-requires-clause-shells
settle-requires-clause-shells g c =
    let n = count g ((goal.at.settle-requires-clause-shells g c).After-len) in
    subst (λ k. AreShells (groups c.self.inside.shape.fan_out k - 1) c.self.inside.shape c.in_ok-room.room.shells.items) n
    (fewer_shells (groups c.self.inside.shape.fan_out c.len.result - 1) ((groups c.self.inside.shape.fan_out c.len.result - 1) + nodes_needed c.self.inside.shape.fan_out c.args.above.now (groups c.self.inside.shape.fan_out c.len.result - 1)) c.self.inside.shape c.in_ok-room.room.shells.items (omega arith) c.in_ok-room.ensures.room.shells)

pub returns-clause-ok : goal.returns-clause-ok
returns-clause-ok g c = λ pins covers.
    let f = (goal.at.returns-clause-ok g c).After-child_for-index in
    let leaf = done g (goal.at.returns-clause-ok g c).After-take_out-taken (one g f) (is_for g f) (can g f) (held g f) in
    let taken = c.take_out-taken.ensures.taken (c.take_out-taken.ensures.held.1 (held g f)) in
    subst (λ (s : Subtree). StepsAsOne pins s c.settle.new.self c.settle.new.room.came.items) c.self.view_is
    (steps pins (subtree_of c.self.inside) _ c.settle.new.self c.settle.new.room.came.items
    (rw taken (leaf.keeps pins covers)) (rw taken leaf.lighter) (c.settle.ensures.settles pins)
    (let k = c.settle.ensures.count in let few = c.in_ok-room.ensures.counted in let e = ap (groups c.self.inside.shape.fan_out) (count g ((goal.at.returns-clause-ok g c).After-len)) in omega (arith, k, few, e)))

pub returns-clause-gone : goal.returns-clause-gone
returns-clause-gone g c =
    let f = (goal.at.returns-clause-gone g c).After-child_for-index in
    let leaf = done g (goal.at.returns-clause-gone g c).After-take_out-taken (one g f) (is_for g f) (can g f) (held g f) in
    let taken = c.take_out-taken.ensures.taken (c.take_out-taken.ensures.held.1 (held g f)) in
    gone_grown c.requires.can.pins c.args.merge.now.job.batch.messages _ c.settle.new.self c.settle.new.room.came.items (c.settle.ensures.settles c.requires.can.pins)
    (subst (AreGone c.args.merge.now.job.batch.messages) (sym (nearest_lowest c.self.inside.height _ _ (one g f))) (rw taken leaf.gone))

pub returns-clause-room : goal.returns-clause-room
returns-clause-room g c =
    let n = count g ((goal.at.returns-clause-room g c).After-len) in
    let count : length c.settle.new.room.came.items ≡ groups c.self.inside.shape.fan_out c.len.result - 1 = let k = c.settle.ensures.count in let e = ap (groups c.self.inside.shape.fan_out) n in omega (arith, k, e) in
    subst (λ (s : Subtree). HasRoom s.shape c.args.above.now c.settle.new.room) c.self.view_is
    (room_left c.self.inside.shape (groups c.self.inside.shape.fan_out c.len.result - 1) _ _ c.args.above.now c.in_ok-room.room c.settle.new.room c.in_ok-room.ensures.room (omega arith) (omega arith)
    (λ rest h. c.settle.ensures.room rest (subst (λ k. AreShells ((groups c.self.inside.shape.fan_out k - 1) + rest) c.self.inside.shape c.in_ok-room.room.shells.items) n h))
    c.settle.ensures.capacity c.settle.ensures.wides count)

pub returns-clause-cache : goal.returns-clause-cache
returns-clause-cache g c =
    subst (λ ls. Forgets c.args.self.now.leaves ls c.args.cache.now c.installed.new.cache) (sym (grown_leaves (c.requires.can.pins) _ c.settle.new.self c.settle.new.room.came.items (c.settle.ensures.settles (c.requires.can.pins))))
    (subst (λ ls. Forgets ls (leaves_of c.in_ok-fresh.fresh.items) c.args.cache.now c.installed.new.cache) (ap leaves_of c.as_slice-2.ensures.value ∙ ap (λ (s : Subtree). s.leaves) c.self.view_is) c.in_ok-fresh.ensures.cache)
