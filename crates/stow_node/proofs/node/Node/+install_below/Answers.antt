use Rattle.std.proofs.Common.{rules, ℕ, ◌≡◌, ◌+◌, ◌-◌, ◌<◌, ◌≤◌, List, ◌∷◌, length, set, refl, sym, ap, ◌∙◌, subst, arith, length-set}
use Rattle.std.specs.Vec.{vec_len, with_item}
use Rattle.std.proofs.lemmas.List.{length-map}
use Rattle.stow_leaves.proofs.StowLeaf.Steps.{inside_of}
use Rattle.stow_leaves.specs.StowLeaf.Intervals.{top_key, spans}
use Rattle.stow_leaves.specs.Forgets.{Forgets}
use Rattle.stow_leaves.proofs.Forgotten.{on_err}
use Rattle.stow_groups.specs.Groups.{groups}
use Rattle.stow_node.specs.declared.child.Child.TheVariants as in_child
use Rattle.stow_node.specs.declared.child.Child.{Child}
use Rattle.stow_node.specs.declared.shape.Shape.{Shape}
use Rattle.stow_node.specs.Installs.{CanInstall}
use Rattle.stow_node.specs.Nodes.{part_of, parts_of, subtree_of}
use Rattle.stow_node.specs.Parts.{low_or, IsFor, leaves_in}
use Rattle.stow_node.specs.Regroups.{StepsAsOne}
use Rattle.stow_node.specs.Rooms.{AreShells, AreLists, HasRoom}
use Rattle.stow_node.specs.Subtree.{Subtree}
use Rattle.stow_node.proofs.Installable.{child_is, fence_inside}
use Rattle.stow_node.proofs.PagesIn.{gone_grown}
use Rattle.stow_node.proofs.Rooms.{LevelReady, level_ready, level_left, groups_stay}
use Rattle.stow_node.proofs.Regrouped.{steps, grown_leaves}
use Rattle.stow_node.proofs.Stepping.{Stepped, came_in, came_forgets, behind_length}
use Rattle.stow_node.proofs.Through.{JobNode, job_node, no_leaf, gone_through, put_back, same_subtree, put_node}
use Rattle.stow_node.proofs.node.Node.+install_below.Given as given
use Rattle.stow_node.proofs.node.Node.+install_below.Goals as goal
use Rattle.stow_node.proofs.node.Node.+install_below.Goals.{After-child_for-index, In-Node, In_ok-room-in-Node, After-take_in}

can : (g : given.Over) (t : ℕ) (c : After-child_for-index g t) → CanInstall (subtree_of c.self.inside) c.args.merge.now.job c.requires.can.pins
can g t c = subst (λ (s : Subtree). CanInstall s c.args.merge.now.job c.requires.can.pins) (sym c.self.view_is) c.requires.can.can

is_for : (g : given.Over) (t : ℕ) (c : After-child_for-index g t) → IsFor (parts_of c.self.inside.children.items) c.args.merge.now.job.target.low_fence c.child_for-index.result
is_for g t c = subst (λ (l : List (Child g.row.A.Denot)). IsFor (parts_of l) c.args.merge.now.job.target.low_fence c.child_for-index.result) c.as_slice-2.ensures.value
    (subst (λ k. IsFor (parts_of c.as_slice-2.result.now) k c.child_for-index.result) c.as_key-fence.ensures c.child_for-index.ensures)

-- the child that is entered
entered : (g : given.Over) (t : ℕ) (c : In-Node g t) (f : After-child_for-index g t) → IsFor (parts_of c.self.inside.children.items) c.args.merge.now.job.target.low_fence c.child_for-index.result → CanInstall (subtree_of c.self.inside) c.args.merge.now.job c.requires.can.pins → JobNode c.self.inside c.child_for-index.result c.in-Node.node c.args.merge.now.job c.requires.can.pins
entered g t c f own can = job_node c.self.inside c.child_for-index.result c.in-Node.node c.args.merge.now.job c.requires.can.pins c.self.invariant own can
    (child_is c.self.inside.children.items c.child_for-index.result c.index_mut.result.now (in_child.Node c.in-Node.node) c.args.merge.now.job.target.low_fence own c.index_mut.ensures.value c.in-Node.is)

are_few : (g : given.Over) (t : ℕ) (c : After-child_for-index g t) → length c.self.inside.children.items ≤ c.self.inside.shape.fan_out
are_few g t c = subst (λ (s : Subtree). s.width ≤ s.shape.fan_out) (sym c.self.view_is) c.requires.few

are_some : (g : given.Over) (t : ℕ) (c : After-child_for-index g t) → 1 ≤ c.self.inside.shape.fan_out
are_some g t c = let f = c.requires.fan_out in let e = ap (λ (s : Subtree). s.shape.fan_out) c.self.view_is in omega (arith, f, e)

has_room : (g : given.Over) (t : ℕ) (c : In_ok-room-in-Node g t) → JobNode c.self.inside c.child_for-index.result c.in-Node.node c.args.merge.now.job c.requires.can.pins → HasRoom c.self.inside.shape (length c.self.inside.children.items ∷ c.args.above.now.items) c.in_ok-room-in-Node.room
has_room g t c j =
    let len : c.len-2.result ≡ length c.self.inside.children.items = let e = c.len-2.ensures in let o = c.self.inside.children.ok.0 in omega (arith, e, o) in
    subst (λ (s : Shape). HasRoom s (length c.self.inside.children.items ∷ c.args.above.now.items) c.in_ok-room-in-Node.room) j.place.level.same.0
    (subst (λ n. HasRoom c.in-Node.node.shape (n ∷ c.args.above.now.items) c.in_ok-room-in-Node.room) len
    (subst (λ l. HasRoom c.in-Node.node.shape l c.in_ok-room-in-Node.room) c.in_ok-insert.ensures.items c.in_ok-room-in-Node.ensures.room))

is_ready : (g : given.Over) (t : ℕ) (c : In_ok-room-in-Node g t) → JobNode c.self.inside c.child_for-index.result c.in-Node.node c.args.merge.now.job c.requires.can.pins → length c.self.inside.children.items ≤ c.self.inside.shape.fan_out → 1 ≤ c.self.inside.shape.fan_out → LevelReady c.self.inside.shape (length c.self.inside.children.items) (length c.in_ok-room-in-Node.room.came.items) c.in_ok-room-in-Node.room
is_ready g t c j f o = level_ready c.self.inside.shape (length c.self.inside.children.items) (length c.in_ok-room-in-Node.room.came.items) c.args.above.now.items c.in_ok-room-in-Node.room o f (has_room g t c j)

are_wide : (g : given.Over) (t : ℕ) (c : After-take_in g t) → JobNode c.self.inside c.child_for-index.result c.in-Node.node c.args.merge.now.job c.requires.can.pins → length c.take_in.new.children.items ≡ length c.self.inside.children.items + length c.in_ok-room-in-Node.room.came.items
are_wide g t c j =
    let l = length-set c.self.inside.children.items c.child_for-index.result (in_child.Node c.install_below.new.self) in
    let i = inside_of c.self.inside.children.items c.child_for-index.result (in_child.Node c.in-Node.node) j.at in
    let e = ap length c.take_in.ensures.children ∙ behind_length (set c.self.inside.children.items c.child_for-index.result (in_child.Node c.install_below.new.self)) c.child_for-index.result c.in_ok-room-in-Node.room.came.items (omega (arith, i, l)) in
    omega (arith, e, l)

child_steps : (g : given.Over) (t : ℕ) (c : After-take_in g t) → StepsAsOne c.requires.can.pins c.in-Node.node c.install_below.new.self c.in_ok-room-in-Node.room.came.items
child_steps g t c = c.in_ok-room-in-Node.ensures.ok c.requires.can.pins c.requires.can.can.covered

is_stepped : (g : given.Over) (t : ℕ) (c : After-take_in g t) → JobNode c.self.inside c.child_for-index.result c.in-Node.node c.args.merge.now.job c.requires.can.pins → Stepped c.self.inside c.take_in.new.children c.requires.can.pins
is_stepped g t c j = came_in c.self.inside c.take_in.new.children c.child_for-index.result c.in-Node.node c.install_below.new.self c.in_ok-room-in-Node.room.came.items c.requires.can.pins c.self.invariant j.at (child_steps g t c) c.take_in.ensures.children

pub same-self : goal.same-self
same-self g t c = refl

pub install_leaf-requires-clause-level : goal.install_leaf-requires-clause-level
install_leaf-requires-clause-level g t c = let h = ap (λ (s : Subtree). s.height) c.self.view_is in let e = c.if-self-eq1.true in omega (arith, h, e)

pub install_leaf-requires-clause-some : goal.install_leaf-requires-clause-some
install_leaf-requires-clause-some g t c = c.requires.some

pub install_leaf-requires-clause-fan_out : goal.install_leaf-requires-clause-fan_out
install_leaf-requires-clause-fan_out g t c = let f = c.requires.fan_out in omega (arith, f)

pub install_leaf-requires-clause-can : goal.install_leaf-requires-clause-can
install_leaf-requires-clause-can g t c = c.requires.can

pub child_for-index-requires-clause-some : goal.child_for-index-requires-clause-some
child_for-index-requires-clause-some g t c = let s = c.self.invariant.some in let n = ap length c.as_slice-2.ensures.value in omega (arith, s, n)

pub child_for-index-requires-clause-within : goal.child_for-index-requires-clause-within
child_for-index-requires-clause-within g t c =
    (λ j. spans (low_or top_key (parts_of (c.as_slice-2.ensures.value j))) top_key (c.as_key-fence.ensures j))
    ∙ fence_inside c.self.inside c.args.merge.now.job c.requires.can.pins c.self.invariant (subst (λ (s : Subtree). CanInstall s c.args.merge.now.job c.requires.can.pins) (sym c.self.view_is) c.requires.can.can)

pub overflow_sub-full : goal.overflow_sub-full
overflow_sub-full g t c =
    let i = c.child_for-index.ensures.inside in
    let m = length-map c.as_slice-2.result.now part_of in
    let a = ap length c.as_slice-2.ensures.value in
    let o = c.self.inside.children.ok.0 in
    let n = c.len.ensures in
    omega (arith, i, m, a, o, n)

pub insert-requires : goal.insert-requires
insert-requires g t c = omega arith

pub same-self-in_err-insert : goal.same-self-in_err-insert
same-self-in_err-insert g t c = refl

pub index_mut-requires : goal.index_mut-requires
index_mut-requires g t c =
    let i = c.child_for-index.ensures.inside in
    let m = length-map c.as_slice-2.result.now part_of in
    let a = ap length c.as_slice-2.ensures.value in
    let o = c.self.inside.children.ok.0 in
    omega (arith, i, m, a, o)

pub unreachable-requires : goal.unreachable-requires
unreachable-requires g t c =
    no_leaf c.self.inside c.child_for-index.result c.in-Leaf.field-0 c.self.invariant (λ e. c.if-self-eq1.false e)
    (child_is c.self.inside.children.items c.child_for-index.result c.index_mut.result.now (in_child.Leaf c.in-Leaf.field-0) c.args.merge.now.job.target.low_fence (is_for g t (goal.at.unreachable-requires g t c).After-child_for-index) c.index_mut.ensures.value c.in-Leaf.is)

pub unreachable-unreachable : goal.unreachable-unreachable
unreachable-unreachable g t c = c.unreachable.result

pub install_below-requires : goal.install_below-requires
install_below-requires g t c κs within =
    let f = (goal.at.install_below-requires g t c).After-child_for-index in
    let j = entered g t (goal.at.install_below-requires g t c).In-Node f (is_for g t f) (can g t f) in
    let less : c.in-Node.node.height < c.args.self.now.height = let low = j.lower in let own = ap (λ (s : Subtree). s.height) c.self.view_is in omega (arith, low, own) in
    let same = j.place.level.same in
    let few : c.in-Node.node.width ≤ c.in-Node.node.shape.fan_out = subst (λ (s : Shape). c.in-Node.node.width ≤ s.fan_out) (sym same.0) same.3 in
    let fan : 4 ≤ c.in-Node.node.shape.fan_out = let w = c.requires.fan_out in let e = ap (λ (s : Subtree). s.shape.fan_out) c.self.view_is in let k = ap (λ (s : Shape). s.fan_out) same.0 in omega (arith, w, e, k) in
    (search (rules, less), (within, (c.requires.some, (few, (fan, record { pins = c.requires.can.pins; can = j.below.can })))))

pub invariant_of-self : goal.invariant_of-self
invariant_of-self g t c =
    let f = (goal.at.invariant_of-self g t c).After-child_for-index in
    let j = entered g t (goal.at.invariant_of-self g t c).In-Node f (is_for g t f) (can g t f) in
    put_node c.self.inside (with_item c.self.inside.children c.child_for-index.result (in_child.Node c.install_below.new.self)) c.self.invariant
    (put_back c.self.inside (with_item c.self.inside.children c.child_for-index.result (in_child.Node c.install_below.new.self)) c.child_for-index.result c.in-Node.node c.install_below.new.self j.at refl c.in_err-room-in-Node.ensures.err)

pub returns-in_err-room-in-Node-clause-err : goal.returns-in_err-room-in-Node-clause-err
returns-in_err-room-in-Node-clause-err g t c =
    let f = (goal.at.returns-in_err-room-in-Node-clause-err g t c).After-child_for-index in
    let j = entered g t (goal.at.returns-in_err-room-in-Node-clause-err g t c).In-Node f (is_for g t f) (can g t f) in
    on_err c.from_residual-in_err-room-in-Node.result
    (same_subtree c.self.inside (with_item c.self.inside.children c.child_for-index.result (in_child.Node c.install_below.new.self))
    (put_back c.self.inside (with_item c.self.inside.children c.child_for-index.result (in_child.Node c.install_below.new.self)) c.child_for-index.result c.in-Node.node c.install_below.new.self j.at refl c.in_err-room-in-Node.ensures.err) ∙ c.self.view_is)

pub take_in-requires-clause-inside : goal.take_in-requires-clause-inside
take_in-requires-clause-inside g t c =
    let f = (goal.at.take_in-requires-clause-inside g t c).After-child_for-index in
    let j = entered g t (goal.at.take_in-requires-clause-inside g t c).In-Node f (is_for g t f) (can g t f) in
    let i = inside_of c.self.inside.children.items c.child_for-index.result (in_child.Node c.in-Node.node) j.at in
    let o = c.self.inside.children.ok.0 in
    omega (arith, i, o)

pub take_in-requires-clause-places : goal.take_in-requires-clause-places
take_in-requires-clause-places g t c = λ s.
    let f = (goal.at.take_in-requires-clause-places g t c).After-child_for-index in
    let j = entered g t (goal.at.take_in-requires-clause-places g t c).In-Node f (is_for g t f) (can g t f) in
    let ready = is_ready g t (goal.at.take_in-requires-clause-places g t c).In_ok-room-in-Node j (are_few g t f) (are_some g t f) in
    let o = c.self.inside.children.ok.0 in
    let p = c.in_ok-room-in-Node.room.came.ok.0 in
    let e : length c.self.inside.children.items + length c.in_ok-room-in-Node.room.came.items ≡ c.self.inside.children.len + vec_len c.in_ok-room-in-Node.room.came = omega (arith, o, p) in
    subst (λ n. AreLists 1 n c.in_ok-room-in-Node.room.wides.items) e (ready.places (omega (arith, s, p)))

pub invariant_of-self-in-Node : goal.invariant_of-self-in-Node
invariant_of-self-in-Node g t c =
    let f = (goal.at.invariant_of-self-in-Node g t c).After-child_for-index in
    let j = entered g t (goal.at.invariant_of-self-in-Node g t c).In-Node f (is_for g t f) (can g t f) in
    (is_stepped g t (goal.at.invariant_of-self-in-Node g t c).After-take_in j).is_node

pub settle-requires-clause-fan_out : goal.settle-requires-clause-fan_out
settle-requires-clause-fan_out g t c = let f = c.requires.fan_out in let e = ap (λ (s : Subtree). s.shape.fan_out) c.self.view_is in omega (arith, f, e)

pub settle-requires-clause-none : goal.settle-requires-clause-none
settle-requires-clause-none g t c = c.take_in.ensures.came

pub settle-requires-clause-came : goal.settle-requires-clause-came
settle-requires-clause-came g t c =
    let f = (goal.at.settle-requires-clause-came g t c).After-child_for-index in
    let j = entered g t (goal.at.settle-requires-clause-came g t c).In-Node f (is_for g t f) (can g t f) in
    let ready = is_ready g t (goal.at.settle-requires-clause-came g t c).In_ok-room-in-Node j (are_few g t f) (are_some g t f) in
    let wide = are_wide g t (goal.at.settle-requires-clause-came g t c).After-take_in j in
    let r = ready.came in
    let k = c.take_in.ensures.capacity in
    let e = ap (groups c.self.inside.shape.fan_out) wide in
    omega (arith, r, k, e)

pub settle-requires-clause-shells : goal.settle-requires-clause-shells
settle-requires-clause-shells g t c =
    let f = (goal.at.settle-requires-clause-shells g t c).After-child_for-index in
    let j = entered g t (goal.at.settle-requires-clause-shells g t c).In-Node f (is_for g t f) (can g t f) in
    let ready = is_ready g t (goal.at.settle-requires-clause-shells g t c).In_ok-room-in-Node j (are_few g t f) (are_some g t f) in
    let wide = are_wide g t (goal.at.settle-requires-clause-shells g t c).After-take_in j in
    rw (wide, c.take_in.ensures.shells) ready.shells

pub returns-clause-ok : goal.returns-clause-ok
returns-clause-ok g t c = λ pins covers.
    let f = (goal.at.returns-clause-ok g t c).After-child_for-index in
    let j = entered g t (goal.at.returns-clause-ok g t c).In-Node f (is_for g t f) (can g t f) in
    let some = are_some g t f in
    let few = are_few g t f in
    let wide = are_wide g t (goal.at.returns-clause-ok g t c).After-take_in j in
    let st = came_in c.self.inside c.take_in.new.children c.child_for-index.result c.in-Node.node c.install_below.new.self c.in_ok-room-in-Node.room.came.items pins c.self.invariant j.at (c.in_ok-room-in-Node.ensures.ok pins covers) c.take_in.ensures.children in
    subst (λ (s : Subtree). StepsAsOne pins s c.settle.new.self c.settle.new.room.came.items) c.self.view_is
    (steps pins (subtree_of c.self.inside) _ c.settle.new.self c.settle.new.room.came.items st.keeps st.lighter (c.settle.ensures.settles pins)
    (let k = c.settle.ensures.count in
    let e = ap (groups c.self.inside.shape.fan_out) wide in
    let g = groups_stay c.self.inside.shape.fan_out (length c.self.inside.children.items) (length c.in_ok-room-in-Node.room.came.items) some few in
    let n = (c.in_ok-room-in-Node.ensures.ok pins covers).counted in
    omega (arith, k, e, g, n)))

pub returns-clause-gone : goal.returns-clause-gone
returns-clause-gone g t c =
    let f = (goal.at.returns-clause-gone g t c).After-child_for-index in
    let j = entered g t (goal.at.returns-clause-gone g t c).In-Node f (is_for g t f) (can g t f) in
    let st = is_stepped g t (goal.at.returns-clause-gone g t c).After-take_in j in
    gone_grown c.requires.can.pins c.args.merge.now.job.batch.messages _ c.settle.new.self c.settle.new.room.came.items (c.settle.ensures.settles c.requires.can.pins)
    (gone_through c.self.inside c.take_in.new.children c.child_for-index.result c.in-Node.node c.install_below.new.self c.in_ok-room-in-Node.room.came.items c.args.merge.now.job c.requires.can.pins j st.is_node
    (child_steps g t (goal.at.returns-clause-gone g t c).After-take_in) c.take_in.ensures.children c.in_ok-room-in-Node.ensures.gone)

pub returns-clause-room : goal.returns-clause-room
returns-clause-room g t c =
    let f = (goal.at.returns-clause-room g t c).After-child_for-index in
    let j = entered g t (goal.at.returns-clause-room g t c).In-Node f (is_for g t f) (can g t f) in
    let room = has_room g t (goal.at.returns-clause-room g t c).In_ok-room-in-Node j in
    let wide = are_wide g t (goal.at.returns-clause-room g t c).After-take_in j in
    let p = c.in_ok-room-in-Node.room.came.ok.0 in
    rw (← c.self.view_is) (level_left c.self.inside.shape (length c.self.inside.children.items) (length c.in_ok-room-in-Node.room.came.items) c.args.above.now.items c.in_ok-room-in-Node.room c.take_in.new.room c.settle.new.room (are_some g t f) (are_few g t f) room
    c.take_in.ensures.shells c.take_in.ensures.capacity
    (λ z. c.take_in.ensures.none (omega (arith, z, p)))
    (λ one levels places h. c.take_in.ensures.wides levels places (omega (arith, one, p)) h)
    (λ rest h. c.settle.ensures.room rest (subst (λ n. AreShells ((groups c.self.inside.shape.fan_out n - 1) + rest) c.self.inside.shape c.take_in.new.room.shells.items) (sym wide) h))
    c.settle.ensures.capacity c.settle.ensures.wides
    (let k = c.settle.ensures.count in let e = ap (groups c.self.inside.shape.fan_out) wide in omega (arith, k, e)))

pub returns-clause-cache : goal.returns-clause-cache
returns-clause-cache g t c =
    let f = (goal.at.returns-clause-cache g t c).After-child_for-index in
    let j = entered g t (goal.at.returns-clause-cache g t c).In-Node f (is_for g t f) (can g t f) in
    subst (λ ls. Forgets c.args.self.now.leaves ls c.args.cache.now c.install_below.new.cache) (sym (grown_leaves c.requires.can.pins _ c.settle.new.self c.settle.new.room.came.items (c.settle.ensures.settles c.requires.can.pins)))
    (subst (λ ls. Forgets ls (leaves_in (parts_of c.take_in.new.children.items)) c.args.cache.now c.install_below.new.cache) (ap (λ (s : Subtree). s.leaves) c.self.view_is)
    (came_forgets c.self.inside c.take_in.new.children c.child_for-index.result c.in-Node.node c.install_below.new.self c.in_ok-room-in-Node.room.came.items c.args.cache.now c.install_below.new.cache j.at c.take_in.ensures.children c.in_ok-room-in-Node.ensures.cache))
