use Rattle.std.proofs.Common.{rules, ℕ, ◌≡◌, ◌+◌, ◌-◌, ◌<◌, ◌≤◌, List, ◌∷◌, ◌++◌, length, set, refl, sym, ap, ◌∙◌, subst, arith, length-set, append-nil}
use Rattle.std.specs.Vec.{vec_len, with_item, with_items}
use Rattle.std.proofs.lemmas.List.{length-map}
use Rattle.stow_leaves.proofs.StowLeaf.Steps.{inside_of}
use Rattle.stow_leaves.specs.StowMerge.Pins.{pins_in}
use Rattle.stow_node.specs.declared.child.Child.TheVariants as in_child
use Rattle.stow_node.specs.declared.child.Child.{Child}
use Rattle.stow_node.specs.Flushes.{AreShort}
use Rattle.stow_leaves.specs.Forgets.{Forgets}
use Rattle.stow_node.specs.Nodes.{leaves_of}
use Rattle.stow_node.specs.Moves.{IsHeaviest}
use Rattle.stow_node.specs.declared.shape.Shape.{Shape}
use Rattle.stow_node.specs.Nodes.{part_of, parts_of, IsBelow, subtree_of}
use Rattle.stow_node.specs.Parts.{leaves_in}
use Rattle.stow_node.specs.Regroups.{StepsAsOne}
use Rattle.stow_groups.specs.Groups.{groups}
use Rattle.stow_node.specs.Rooms.{AreShells, AreLists, HasRoom}
use Rattle.stow_node.specs.Subtree.{Subtree, messages_of}
use Rattle.stow_node.specs.TakesDown.{MergesDown, TakesDown, TakesLight}
use Rattle.stow_node.specs.Ways.{Goes}
use Rattle.stow_node.proofs.Down.{IsNext, MadeRoom, made_room, WentInto, went_into, new_items}
use Rattle.stow_node.proofs.Entered.{Entered, entered, not_leaf}
use Rattle.stow_leaves.proofs.Forgotten.{on_err}
use Rattle.stow_leaves.proofs.Forgotten.{forgets_nothing}
use Rattle.stow_node.proofs.Reallocated.{like_then, reallocated_same, stays_like}
use Rattle.stow_node.proofs.Rooms.{LevelReady, level_ready, level_left, none_needed, groups_stay}
use Rattle.stow_node.proofs.Regrouped.{steps, grown_leaves}
use Rattle.stow_node.proofs.Stayed.{ChildStays, child_stays, level_at}
use Rattle.stow_node.proofs.Stepping.{next_is, CanStep, can_step, Stepped, stepped, stepped_forgets, behind_length, steps_alone}
use Rattle.stow_node.proofs.Taken.{IsUnladen, Refused, bytes_down, can_take_down, light_of, merging_of, merging_room, refused, unladen}
use Rattle.stow_node.proofs.Ways.{goes_into, goes_below}
use Rattle.stow_node.proofs.node.Node.+step_below.Given as given
use Rattle.stow_node.proofs.node.Node.+step_below.Goals as goal
use Rattle.stow_node.proofs.node.Node.+step_below.Goals.{In-Node, In_ok-room-in-Node, After-take_in, After-deref_mut, In_ok-taken, In_err-taken, In_default, In-Some, After-take_in-2}

is_next : (g : given.Over) (t : ℕ) (c : In-Node g t) → IsNext c.self.inside c.heaviest-index.result c.bytes_for-bytes.result c.in-Node.node
is_next g t c =
    next_is c.self.inside c.heaviest-index.result c.bytes_for-bytes.result c.in-Node.node c.index_mut.result.now c.as_slice-2.result.now c.as_slice-3.result.now c.self.invariant (λ e. c.if-self-eq1.false e) (subst (λ (s : Subtree). 0 < length s.buffer.messages) (sym c.self.view_is) c.requires.some)
    c.as_slice-2.ensures.value c.heaviest-index.ensures c.index_mut.ensures.value c.in-Node.is c.as_slice-3.ensures.value c.bytes_for-bytes.ensures (let u = c.used-known.ensures.live in let w = c.used-known.ensures.within in omega arith)

is_heavy : (g : given.Over) (t : ℕ) (c : In-Node g t) → IsHeaviest (parts_of c.self.inside.children.items) c.self.inside.buffer c.heaviest-index.result
is_heavy g t c = subst (λ (l : List (Child g.row.A.Denot)). IsHeaviest (parts_of l) c.self.inside.buffer c.heaviest-index.result) c.as_slice-2.ensures.value c.heaviest-index.ensures

are_few : (g : given.Over) (t : ℕ) (c : In-Node g t) → length c.self.inside.children.items ≤ c.self.inside.shape.fan_out
are_few g t c = subst (λ (s : Subtree). s.width ≤ s.shape.fan_out) (sym c.self.view_is) c.requires.few

are_some : (g : given.Over) (t : ℕ) (c : In-Node g t) → 1 ≤ c.self.inside.shape.fan_out
are_some g t c = let f = c.requires.fan_out in let e = ap (λ (s : Subtree). s.shape.fan_out) c.self.view_is in omega (arith, f, e)

-- ---- the step was the child's own

has_room : (g : given.Over) (t : ℕ) (c : In_ok-room-in-Node g t) → IsNext c.self.inside c.heaviest-index.result c.bytes_for-bytes.result c.in-Node.node → HasRoom c.self.inside.shape (length c.self.inside.children.items ∷ c.args.above.now.items) c.in_ok-room-in-Node.room
has_room g t c n =
    let below : IsBelow c.self.inside.height c.self.inside.shape (in_child.Node c.in-Node.node) = level_at c.self.inside.height c.self.inside.shape c.self.inside.children.items c.heaviest-index.result (in_child.Node c.in-Node.node) c.self.invariant.level n.at in
    let own : c.gets_room.new.self.shape ≡ c.self.inside.shape = (reallocated_same c.in-Node.node c.gets_room.new.self c.gets_room.ensures.same).0.shape ∙ below.same.0 in
    let len : c.len-2.result ≡ length c.self.inside.children.items = let e = c.len-2.ensures in let o = c.self.inside.children.ok.0 in omega (arith, e, o) in
    subst (λ (s : Shape). HasRoom s (length c.self.inside.children.items ∷ c.args.above.now.items) c.in_ok-room-in-Node.room) own
    (subst (λ n. HasRoom c.gets_room.new.self.shape (n ∷ c.args.above.now.items) c.in_ok-room-in-Node.room) len
    (subst (λ l. HasRoom c.gets_room.new.self.shape l c.in_ok-room-in-Node.room) c.in_ok-insert.ensures.items c.in_ok-room-in-Node.ensures.room))

is_ready : (g : given.Over) (t : ℕ) (c : In_ok-room-in-Node g t) → IsNext c.self.inside c.heaviest-index.result c.bytes_for-bytes.result c.in-Node.node → length c.self.inside.children.items ≤ c.self.inside.shape.fan_out → 1 ≤ c.self.inside.shape.fan_out → LevelReady c.self.inside.shape (length c.self.inside.children.items) (length c.in_ok-room-in-Node.room.came.items) c.in_ok-room-in-Node.room
is_ready g t c n f o = level_ready c.self.inside.shape (length c.self.inside.children.items) (length c.in_ok-room-in-Node.room.came.items) c.args.above.now.items c.in_ok-room-in-Node.room o f (has_room g t c n)

are_wide : (g : given.Over) (t : ℕ) (c : After-take_in g t) → IsNext c.self.inside c.heaviest-index.result c.bytes_for-bytes.result c.in-Node.node → length c.take_in.new.children.items ≡ length c.self.inside.children.items + length c.in_ok-room-in-Node.room.came.items
are_wide g t c n =
    let l = length-set c.self.inside.children.items c.heaviest-index.result (in_child.Node c.step_below.new.self) in
    let i = inside_of c.self.inside.children.items c.heaviest-index.result (in_child.Node c.in-Node.node) n.at in
    let e = ap length c.take_in.ensures.children ∙ behind_length (set c.self.inside.children.items c.heaviest-index.result (in_child.Node c.step_below.new.self)) c.heaviest-index.result c.in_ok-room-in-Node.room.came.items (omega (arith, i, l)) in
    omega (arith, e, l)

is_stepped : (g : given.Over) (t : ℕ) (c : After-take_in g t) → IsNext c.self.inside c.heaviest-index.result c.bytes_for-bytes.result c.in-Node.node → Stepped c.self.inside c.take_in.new.children (pins_in c.args.pins.now)
is_stepped g t c n = stepped c.self.inside c.take_in.new.children c.heaviest-index.result c.bytes_for-bytes.result c.in-Node.node c.gets_room.new.self c.step_below.new.self c.in_ok-room-in-Node.room.came.items (pins_in c.args.pins.now) c.self.invariant n c.gets_room.ensures.same c.in_ok-room-in-Node.ensures.ok c.take_in.ensures.children

-- ---- its messages moved into the child

is_made : (g : given.Over) (t : ℕ) (c : After-deref_mut g t) → IsNext c.self.inside c.heaviest-index.result c.bytes_for-bytes.result c.in-Node.node → MadeRoom c.self.inside c.heaviest-index.result c.in-Node.node c.gets_room.new.self
is_made g t c n = made_room c.self.inside c.heaviest-index.result c.in-Node.node c.gets_room.new.self c.self.invariant n.at c.gets_room.ensures.same (let r = c.in_ok-has_room-in-Node.ensures.room c.if-not-has_room.false in let b = n.bytes_are in omega arith)

takes : (g : given.Over) (t : ℕ) (c : In_ok-taken g t) → TakesDown (pins_in c.args.pins.now) (set c.self.inside.children.items c.heaviest-index.result (in_child.Node c.gets_room.new.self)) c.heaviest-index.result c.self.inside.buffer c.as_slice-above.result.now c.in_ok-taken.taken c.take_down.new.children c.take_down.new.buffer c.args.cache.now c.take_down.new.cache
takes g t c = rw (← c.deref_mut.ensures.value) c.in_ok-taken.ensures.takes

-- it isn't laden then
is_light : (g : given.Over) (t : ℕ) (c : In_default g t) → TakesDown (pins_in c.args.pins.now) (set c.self.inside.children.items c.heaviest-index.result (in_child.Node c.gets_room.new.self)) c.heaviest-index.result c.self.inside.buffer c.as_slice-above.result.now c.in_ok-taken.taken c.take_down.new.children c.take_down.new.buffer c.args.cache.now c.take_down.new.cache → TakesLight (set c.self.inside.children.items c.heaviest-index.result (in_child.Node c.gets_room.new.self)) c.heaviest-index.result c.self.inside.buffer (with_items (with_item c.self.inside.children c.heaviest-index.result (in_child.Node c.gets_room.new.self)) c.take_down.new.children).items c.take_down.new.buffer c.args.cache.now c.take_down.new.cache
is_light g t c takes =
    let l = light_of (pins_in c.args.pins.now) (set c.self.inside.children.items c.heaviest-index.result (in_child.Node c.gets_room.new.self)) c.heaviest-index.result c.self.inside.buffer c.as_slice-above.result.now c.in_ok-taken.taken c.take_down.new.children c.take_down.new.buffer c.args.cache.now c.take_down.new.cache takes c.in_default.is in
    subst (λ (k : List (Child g.row.A.Denot)). TakesLight (set c.self.inside.children.items c.heaviest-index.result (in_child.Node c.gets_room.new.self)) c.heaviest-index.result c.self.inside.buffer k c.take_down.new.buffer c.args.cache.now c.take_down.new.cache)
    (sym (new_items c.self.inside.children c.heaviest-index.result (in_child.Node c.gets_room.new.self) c.take_down.new.children c.self.inside.buffer c.take_down.new.buffer l.down)) l

is_went : (g : given.Over) (t : ℕ) (c : In_default g t) → IsNext c.self.inside c.heaviest-index.result c.bytes_for-bytes.result c.in-Node.node → MadeRoom c.self.inside c.heaviest-index.result c.in-Node.node c.gets_room.new.self → TakesLight (set c.self.inside.children.items c.heaviest-index.result (in_child.Node c.gets_room.new.self)) c.heaviest-index.result c.self.inside.buffer (with_items (with_item c.self.inside.children c.heaviest-index.result (in_child.Node c.gets_room.new.self)) c.take_down.new.children).items c.take_down.new.buffer c.args.cache.now c.take_down.new.cache → WentInto c.self.inside (with_items (with_item c.self.inside.children c.heaviest-index.result (in_child.Node c.gets_room.new.self)) c.take_down.new.children) c.take_down.new.buffer
is_went g t c n m l =
    went_into c.self.inside c.heaviest-index.result c.in-Node.node c.gets_room.new.self (with_items (with_item c.self.inside.children c.heaviest-index.result (in_child.Node c.gets_room.new.self)) c.take_down.new.children) c.take_down.new.buffer c.self.invariant c.len-known.ensures.rising m (let some = n.some in let b = n.bytes_are in omega arith) l.down

-- it is laden then, and merged all that it had
is_merging : (g : given.Over) (t : ℕ) (c : In-Some g t) → TakesDown (pins_in c.args.pins.now) (set c.self.inside.children.items c.heaviest-index.result (in_child.Node c.gets_room.new.self)) c.heaviest-index.result c.self.inside.buffer c.as_slice-above.result.now c.in_ok-taken.taken c.take_down.new.children c.take_down.new.buffer c.args.cache.now c.take_down.new.cache → MergesDown (pins_in c.args.pins.now) (set c.self.inside.children.items c.heaviest-index.result (in_child.Node c.gets_room.new.self)) c.heaviest-index.result c.self.inside.buffer c.as_slice-above.result.now c.in-Some.room c.take_down.new.children c.take_down.new.buffer c.args.cache.now c.take_down.new.cache
is_merging g t c takes = merging_of (pins_in c.args.pins.now) (set c.self.inside.children.items c.heaviest-index.result (in_child.Node c.gets_room.new.self)) c.heaviest-index.result c.self.inside.buffer c.as_slice-above.result.now c.in_ok-taken.taken c.in-Some.room c.take_down.new.children c.take_down.new.buffer c.args.cache.now c.take_down.new.cache takes c.in-Some.is

pub same-self : goal.same-self
same-self g t c = refl

pub merge_leaf-requires-clause-level : goal.merge_leaf-requires-clause-level
merge_leaf-requires-clause-level g t c = let h = ap (λ (s : Subtree). s.height) c.self.view_is in let e = c.if-self-eq1.true in omega (arith, h, e)

pub merge_leaf-requires-clause-some : goal.merge_leaf-requires-clause-some
merge_leaf-requires-clause-some g t c = c.requires.some

pub merge_leaf-requires-clause-fan_out : goal.merge_leaf-requires-clause-fan_out
merge_leaf-requires-clause-fan_out g t c = let f = c.requires.fan_out in omega (arith, f)

pub merge_leaf-requires-clause-short : goal.merge_leaf-requires-clause-short
merge_leaf-requires-clause-short g t c = c.requires.short

pub heaviest-index-requires : goal.heaviest-index-requires
heaviest-index-requires g t c = let s = c.self.invariant.some in let n = ap length c.as_slice-2.ensures.value in omega (arith, s, n)

pub bytes_for-bytes-requires : goal.bytes_for-bytes-requires
bytes_for-bytes-requires g t c =
    let i = c.heaviest-index.ensures.inside in
    let m = length-map c.as_slice-2.result.now part_of in
    let a = ap length c.as_slice-2.ensures.value in
    let b = ap length c.as_slice-3.ensures.value in
    omega (arith, i, m, a, b)

pub overflow_sub-full : goal.overflow_sub-full
overflow_sub-full g t c =
    let i = c.heaviest-index.ensures.inside in
    let m = length-map c.as_slice-2.result.now part_of in
    let a = ap length c.as_slice-2.ensures.value in
    let o = c.self.inside.children.ok.0 in
    let n = c.len.ensures in
    omega (arith, i, m, a, o, n)

pub insert-requires : goal.insert-requires
insert-requires g t c = omega arith

pub same-self-in_err-insert : goal.same-self-in_err-insert
same-self-in_err-insert g t c = refl

pub index_mut-requires : goal.index_mut-requires
index_mut-requires g t c =
    let i = c.heaviest-index.ensures.inside in
    let m = length-map c.as_slice-2.result.now part_of in
    let a = ap length c.as_slice-2.ensures.value in
    let o = c.self.inside.children.ok.0 in
    omega (arith, i, m, a, o)

pub unreachable-requires : goal.unreachable-requires
unreachable-requires g t c =
    let e : Entered c.self.inside c.heaviest-index.result = entered c.self.inside c.heaviest-index.result c.as_slice-2.result.now c.self.invariant (λ e. c.if-self-eq1.false e) (subst (λ (s : Subtree). 0 < length s.buffer.messages) (sym c.self.view_is) c.requires.some) c.as_slice-2.ensures.value c.heaviest-index.ensures in
    not_leaf c.self.inside.children.items c.heaviest-index.result c.index_mut.result.now c.in-Leaf.field-0 e.node e.at c.index_mut.ensures.value c.in-Leaf.is

pub unreachable-unreachable : goal.unreachable-unreachable
unreachable-unreachable g t c = c.unreachable.result

pub gets_room-requires-clause-spare : goal.gets_room-requires-clause-spare
gets_room-requires-clause-spare g t c =
    let next = is_next g t (goal.at.gets_room-requires-clause-spare g t c).In-Node in
    let below : IsBelow c.self.inside.height c.self.inside.shape (in_child.Node c.in-Node.node) = level_at c.self.inside.height c.self.inside.shape c.self.inside.children.items c.heaviest-index.result (in_child.Node c.in-Node.node) c.self.invariant.level next.at in
    let size = ap (λ (s : Shape). s.buffer) below.same.0 in
    let own = ap (λ (s : Subtree). s.shape.buffer) c.self.view_is in
    let spare = c.requires.spare in
    omega (arith, size, own, spare)

pub gets_room-requires-clause-ample : goal.gets_room-requires-clause-ample
gets_room-requires-clause-ample g t c = c.ample-ample.ensures.least

pub invariant_of-self : goal.invariant_of-self
invariant_of-self g t c =
    let next = is_next g t (goal.at.invariant_of-self g t c).In-Node in
    (child_stays c.self.inside (with_item c.self.inside.children c.heaviest-index.result (in_child.Node c.gets_room.new.self)) c.heaviest-index.result c.in-Node.node c.gets_room.new.self c.self.invariant next.at refl (reallocated_same c.in-Node.node c.gets_room.new.self c.gets_room.ensures.same).0).is_node

pub returns-in_err-has_room-in-Node-clause-err : goal.returns-in_err-has_room-in-Node-clause-err
returns-in_err-has_room-in-Node-clause-err g t c =
    let next = is_next g t (goal.at.returns-in_err-has_room-in-Node-clause-err g t c).In-Node in
    let kept : ChildStays c.self.inside c.in-Node.node c.gets_room.new.self (with_item c.self.inside.children c.heaviest-index.result (in_child.Node c.gets_room.new.self)) =
    child_stays c.self.inside (with_item c.self.inside.children c.heaviest-index.result (in_child.Node c.gets_room.new.self)) c.heaviest-index.result c.in-Node.node c.gets_room.new.self c.self.invariant next.at refl (reallocated_same c.in-Node.node c.gets_room.new.self c.gets_room.ensures.same).0 in
    on_err c.from_residual-in_err-has_room-in-Node.result (rw (← c.self.view_is) kept.stays)

pub step_below-requires : goal.step_below-requires
step_below-requires g t c κs within =
    let next = is_next g t (goal.at.step_below-requires g t c).In-Node in
    let can : CanStep c.gets_room.new.self c.self.inside.height c.self.inside.shape.buffer c.self.inside.shape.fan_out =
    can_step c.self.inside c.heaviest-index.result c.bytes_for-bytes.result c.ample-ample.result c.in-Node.node c.gets_room.new.self c.self.invariant next c.gets_room.ensures.same c.in_ok-has_room-in-Node.ensures.block (c.in_ok-has_room-in-Node.ensures.full c.if-not-has_room.true) c.ample-ample.ensures.most (subst (λ (s : Subtree). AreShort (messages_of s)) (sym c.self.view_is) c.requires.short) in
    let less : c.gets_room.new.self.height < c.args.self.now.height = let low = can.lower in let own = ap (λ (s : Subtree). s.height) c.self.view_is in omega arith in
    let size = can.same in
    let mine = ap (λ (s : Subtree). s.shape.buffer) c.self.view_is in
    let spare = c.requires.spare in
    let kept = c.gets_room.ensures.spare in
    let fan : 4 ≤ c.gets_room.new.self.shape.fan_out = let f = c.requires.fan_out in let w = can.wide in let e = ap (λ (s : Subtree). s.shape.fan_out) c.self.view_is in omega (arith, f, w, e) in
    (search (rules, less), (within, (can.filled, (can.few, (fan, (can.short, omega arith))))))

pub invariant_of-self-in_err-room-in-Node : goal.invariant_of-self-in_err-room-in-Node
invariant_of-self-in_err-room-in-Node g t c =
    let next = is_next g t (goal.at.invariant_of-self-in_err-room-in-Node g t c).In-Node in
    let kept : ChildStays c.self.inside c.in-Node.node c.step_below.new.self (with_item c.self.inside.children c.heaviest-index.result (in_child.Node c.step_below.new.self)) =
    child_stays c.self.inside (with_item c.self.inside.children c.heaviest-index.result (in_child.Node c.step_below.new.self)) c.heaviest-index.result c.in-Node.node c.step_below.new.self c.self.invariant next.at refl
    (like_then (reallocated_same c.in-Node.node c.gets_room.new.self c.gets_room.ensures.same).0 (stays_like c.in_err-room-in-Node.ensures.err)) in
    kept.is_node

pub returns-in_err-room-in-Node-clause-err : goal.returns-in_err-room-in-Node-clause-err
returns-in_err-room-in-Node-clause-err g t c =
    let next = is_next g t (goal.at.returns-in_err-room-in-Node-clause-err g t c).In-Node in
    let kept : ChildStays c.self.inside c.in-Node.node c.step_below.new.self (with_item c.self.inside.children c.heaviest-index.result (in_child.Node c.step_below.new.self)) =
    child_stays c.self.inside (with_item c.self.inside.children c.heaviest-index.result (in_child.Node c.step_below.new.self)) c.heaviest-index.result c.in-Node.node c.step_below.new.self c.self.invariant next.at refl
    (like_then (reallocated_same c.in-Node.node c.gets_room.new.self c.gets_room.ensures.same).0 (stays_like c.in_err-room-in-Node.ensures.err)) in
    on_err c.from_residual-in_err-room-in-Node.result (rw (← c.self.view_is) kept.stays)

pub take_in-requires-clause-inside : goal.take_in-requires-clause-inside
take_in-requires-clause-inside g t c =
    let next = is_next g t (goal.at.take_in-requires-clause-inside g t c).In-Node in
    let i = inside_of c.self.inside.children.items c.heaviest-index.result (in_child.Node c.in-Node.node) next.at in
    let o = c.self.inside.children.ok.0 in
    omega (arith, i, o)

pub take_in-requires-clause-places : goal.take_in-requires-clause-places
take_in-requires-clause-places g t c = λ s.
    let next = is_next g t (goal.at.take_in-requires-clause-places g t c).In-Node in
    let few = are_few g t (goal.at.take_in-requires-clause-places g t c).In-Node in
    let some = are_some g t (goal.at.take_in-requires-clause-places g t c).In-Node in
    let ready = is_ready g t (goal.at.take_in-requires-clause-places g t c).In_ok-room-in-Node next few some in
    let o = c.self.inside.children.ok.0 in
    let p = c.in_ok-room-in-Node.room.came.ok.0 in
    let e : length c.self.inside.children.items + length c.in_ok-room-in-Node.room.came.items ≡ c.self.inside.children.len + vec_len c.in_ok-room-in-Node.room.came = omega (arith, o, p) in
    subst (λ n. AreLists 1 n c.in_ok-room-in-Node.room.wides.items) e (ready.places (omega (arith, s, p)))

pub invariant_of-self-then-not-has_room : goal.invariant_of-self-then-not-has_room
invariant_of-self-then-not-has_room g t c =
    let next = is_next g t (goal.at.invariant_of-self-then-not-has_room g t c).In-Node in
    let st = is_stepped g t (goal.at.invariant_of-self-then-not-has_room g t c).After-take_in next in
    st.is_node

pub settle-requires-clause-fan_out : goal.settle-requires-clause-fan_out
settle-requires-clause-fan_out g t c = let f = c.requires.fan_out in let e = ap (λ (s : Subtree). s.shape.fan_out) c.self.view_is in omega (arith, f, e)

pub settle-requires-clause-none : goal.settle-requires-clause-none
settle-requires-clause-none g t c = c.take_in.ensures.came

pub settle-requires-clause-came : goal.settle-requires-clause-came
settle-requires-clause-came g t c =
    let next = is_next g t (goal.at.settle-requires-clause-came g t c).In-Node in
    let few = are_few g t (goal.at.settle-requires-clause-came g t c).In-Node in
    let some = are_some g t (goal.at.settle-requires-clause-came g t c).In-Node in
    let ready = is_ready g t (goal.at.settle-requires-clause-came g t c).In_ok-room-in-Node next few some in
    let wide = are_wide g t (goal.at.settle-requires-clause-came g t c).After-take_in next in
    let r = ready.came in
    let k = c.take_in.ensures.capacity in
    let e = ap (groups c.self.inside.shape.fan_out) wide in
    omega (arith, r, k, e)

pub settle-requires-clause-shells : goal.settle-requires-clause-shells
settle-requires-clause-shells g t c =
    let next = is_next g t (goal.at.settle-requires-clause-shells g t c).In-Node in
    let few = are_few g t (goal.at.settle-requires-clause-shells g t c).In-Node in
    let some = are_some g t (goal.at.settle-requires-clause-shells g t c).In-Node in
    let ready = is_ready g t (goal.at.settle-requires-clause-shells g t c).In_ok-room-in-Node next few some in
    let wide = are_wide g t (goal.at.settle-requires-clause-shells g t c).After-take_in next in
    rw (wide, c.take_in.ensures.shells) ready.shells

pub returns-then-not-has_room-clause-goes : goal.returns-then-not-has_room-clause-goes
returns-then-not-has_room-clause-goes g t c =
    let next = is_next g t (goal.at.returns-then-not-has_room-clause-goes g t c).In-Node in
    let st = is_stepped g t (goal.at.returns-then-not-has_room-clause-goes g t c).After-take_in next in
    subst (λ (s : Subtree). Goes s.height (pins_in c.args.pins.now) s c.settle.new.self c.settle.new.room.came.items c.args.cache.now c.step_below.new.cache) c.self.view_is
    (goes_below c.self.inside c.take_in.new.children c.heaviest-index.result c.bytes_for-bytes.result c.ample-ample.result c.in-Node.node c.gets_room.new.self c.step_below.new.self c.settle.new.self c.in_ok-room-in-Node.room.came.items c.settle.new.room.came.items (pins_in c.args.pins.now) c.args.cache.now c.step_below.new.cache
    c.self.invariant st.is_node (is_heavy g t (goal.at.returns-then-not-has_room-clause-goes g t c).In-Node) next c.gets_room.ensures.same c.ample-ample.ensures.is (c.in_ok-has_room-in-Node.ensures.full c.if-not-has_room.true) c.in_ok-room-in-Node.ensures.goes c.take_in.ensures.children (c.settle.ensures.settles (pins_in c.args.pins.now)))

pub returns-then-not-has_room-clause-ok : goal.returns-then-not-has_room-clause-ok
returns-then-not-has_room-clause-ok g t c =
    let next = is_next g t (goal.at.returns-then-not-has_room-clause-ok g t c).In-Node in
    let few = are_few g t (goal.at.returns-then-not-has_room-clause-ok g t c).In-Node in
    let some = are_some g t (goal.at.returns-then-not-has_room-clause-ok g t c).In-Node in
    let wide = are_wide g t (goal.at.returns-then-not-has_room-clause-ok g t c).After-take_in next in
    let st = is_stepped g t (goal.at.returns-then-not-has_room-clause-ok g t c).After-take_in next in
    subst (λ (s : Subtree). StepsAsOne (pins_in c.args.pins.now) s c.settle.new.self c.settle.new.room.came.items) c.self.view_is
    (steps (pins_in c.args.pins.now) (subtree_of c.self.inside) _ c.settle.new.self c.settle.new.room.came.items st.keeps st.lighter (c.settle.ensures.settles (pins_in c.args.pins.now))
    (let k = c.settle.ensures.count in
    let e = ap (groups c.self.inside.shape.fan_out) wide in
    let g = groups_stay c.self.inside.shape.fan_out (length c.self.inside.children.items) (length c.in_ok-room-in-Node.room.came.items) some few in
    let n = c.in_ok-room-in-Node.ensures.ok.counted in
    omega (arith, k, e, g, n)))

pub returns-then-not-has_room-clause-room : goal.returns-then-not-has_room-clause-room
returns-then-not-has_room-clause-room g t c =
    let next = is_next g t (goal.at.returns-then-not-has_room-clause-room g t c).In-Node in
    let few = are_few g t (goal.at.returns-then-not-has_room-clause-room g t c).In-Node in
    let some = are_some g t (goal.at.returns-then-not-has_room-clause-room g t c).In-Node in
    let room = has_room g t (goal.at.returns-then-not-has_room-clause-room g t c).In_ok-room-in-Node next in
    let wide = are_wide g t (goal.at.returns-then-not-has_room-clause-room g t c).After-take_in next in
    let p = c.in_ok-room-in-Node.room.came.ok.0 in
    rw (← c.self.view_is) (level_left c.self.inside.shape (length c.self.inside.children.items) (length c.in_ok-room-in-Node.room.came.items) c.args.above.now.items c.in_ok-room-in-Node.room c.take_in.new.room c.settle.new.room some few room
    c.take_in.ensures.shells c.take_in.ensures.capacity
    (λ z. c.take_in.ensures.none (omega (arith, z, p)))
    (λ one levels places h. c.take_in.ensures.wides levels places (omega (arith, one, p)) h)
    (λ rest h. c.settle.ensures.room rest (subst (λ n. AreShells ((groups c.self.inside.shape.fan_out n - 1) + rest) c.self.inside.shape c.take_in.new.room.shells.items) (sym wide) h))
    c.settle.ensures.capacity c.settle.ensures.wides
    (let k = c.settle.ensures.count in let e = ap (groups c.self.inside.shape.fan_out) wide in omega (arith, k, e)))

pub returns-then-not-has_room-clause-cache : goal.returns-then-not-has_room-clause-cache
returns-then-not-has_room-clause-cache g t c =
    let next = is_next g t (goal.at.returns-then-not-has_room-clause-cache g t c).In-Node in
    subst (λ ls. Forgets c.args.self.now.leaves ls c.args.cache.now c.step_below.new.cache) (sym (grown_leaves (pins_in c.args.pins.now) _ c.settle.new.self c.settle.new.room.came.items (c.settle.ensures.settles (pins_in c.args.pins.now))))
    (subst (λ ls. Forgets ls (leaves_in (parts_of c.take_in.new.children.items)) c.args.cache.now c.step_below.new.cache) (ap (λ (s : Subtree). s.leaves) c.self.view_is)
    (stepped_forgets c.self.inside c.take_in.new.children c.heaviest-index.result c.bytes_for-bytes.result c.in-Node.node c.gets_room.new.self c.step_below.new.self c.in_ok-room-in-Node.room.came.items (pins_in c.args.pins.now) c.args.cache.now c.step_below.new.cache c.self.invariant next c.gets_room.ensures.same c.in_ok-room-in-Node.ensures.ok c.take_in.ensures.children c.in_ok-room-in-Node.ensures.cache))

-- ---- where it merged, there is room for what came

room_above : (g : given.Over) (t : ℕ) (c : In-Some g t) → IsNext c.self.inside c.heaviest-index.result c.bytes_for-bytes.result c.in-Node.node → MadeRoom c.self.inside c.heaviest-index.result c.in-Node.node c.gets_room.new.self → MergesDown (pins_in c.args.pins.now) (set c.self.inside.children.items c.heaviest-index.result (in_child.Node c.gets_room.new.self)) c.heaviest-index.result c.self.inside.buffer c.as_slice-above.result.now c.in-Some.room c.take_down.new.children c.take_down.new.buffer c.args.cache.now c.take_down.new.cache
    → HasRoom c.self.inside.shape (length c.self.inside.children.items ∷ c.args.above.now.items) c.in-Some.room
room_above g t c n m d =
    let len : c.len-2.result ≡ length c.self.inside.children.items = let e = c.len-2.ensures in let o = c.self.inside.children.ok.0 in omega (arith, e, o) in
    subst (λ n. HasRoom c.self.inside.shape (n ∷ c.args.above.now.items) c.in-Some.room) len
    (subst (λ l. HasRoom c.self.inside.shape l c.in-Some.room) (c.as_slice-above.ensures.value ∙ c.in_ok-insert.ensures.items)
    (merging_room c.self.inside c.take_down.new.buffer c.heaviest-index.result c.bytes_for-bytes.result c.in-Node.node c.gets_room.new.self c.as_slice-above.result.now c.in-Some.room c.take_down.new.children (pins_in c.args.pins.now) c.args.cache.now c.take_down.new.cache c.self.invariant c.len-known.ensures.rising n m d))

ready_above : (g : given.Over) (t : ℕ) (c : In-Some g t) → HasRoom c.self.inside.shape (length c.self.inside.children.items ∷ c.args.above.now.items) c.in-Some.room → length c.self.inside.children.items ≤ c.self.inside.shape.fan_out → 1 ≤ c.self.inside.shape.fan_out → LevelReady c.self.inside.shape (length c.self.inside.children.items) (length c.in-Some.room.came.items) c.in-Some.room
ready_above g t c r few some = level_ready c.self.inside.shape (length c.self.inside.children.items) (length c.in-Some.room.came.items) c.args.above.now.items c.in-Some.room some few r

is_unladen : (g : given.Over) (t : ℕ) (c : After-take_in-2 g t) → IsNext c.self.inside c.heaviest-index.result c.bytes_for-bytes.result c.in-Node.node → MadeRoom c.self.inside c.heaviest-index.result c.in-Node.node c.gets_room.new.self → MergesDown (pins_in c.args.pins.now) (set c.self.inside.children.items c.heaviest-index.result (in_child.Node c.gets_room.new.self)) c.heaviest-index.result c.self.inside.buffer c.as_slice-above.result.now c.in-Some.room c.take_down.new.children c.take_down.new.buffer c.args.cache.now c.take_down.new.cache
    → IsUnladen c.self.inside c.take_in-2.new.children c.take_down.new.buffer c.heaviest-index.result c.bytes_for-bytes.result c.in-Node.node c.gets_room.new.self c.in-Some.room.came.items (pins_in c.args.pins.now) c.args.cache.now c.take_down.new.cache
is_unladen g t c n m d = unladen c.self.inside c.take_in-2.new.children c.take_down.new.buffer c.heaviest-index.result c.bytes_for-bytes.result c.in-Node.node c.gets_room.new.self c.as_slice-above.result.now c.in-Some.room c.take_down.new.children (pins_in c.args.pins.now) c.args.cache.now c.take_down.new.cache c.self.invariant c.len-known.ensures.rising n c.gets_room.ensures.same m d c.take_in-2.ensures.children

pub take_down-requires-clause-can : goal.take_down-requires-clause-can
take_down-requires-clause-can g t c =
    let next = is_next g t (goal.at.take_down-requires-clause-can g t c).In-Node in
    let made = is_made g t (goal.at.take_down-requires-clause-can g t c).After-deref_mut next in
    let below : IsBelow c.self.inside.height c.self.inside.shape (in_child.Node c.in-Node.node) = level_at c.self.inside.height c.self.inside.shape c.self.inside.children.items c.heaviest-index.result (in_child.Node c.in-Node.node) c.self.invariant.level next.at in
    let own : c.gets_room.new.self.shape ≡ c.self.inside.shape = (reallocated_same c.in-Node.node c.gets_room.new.self c.gets_room.ensures.same).0.shape ∙ below.same.0 in
    rw c.deref_mut.ensures.value
    (can_take_down c.self.inside c.heaviest-index.result c.bytes_for-bytes.result c.in-Node.node c.gets_room.new.self c.self.invariant c.len-known.ensures.rising next made
    (let some = are_some g t (goal.at.take_down-requires-clause-can g t c).In-Node in let e = ap (λ (s : Shape). s.fan_out) own in omega (arith, some, e))
    (subst (λ (s : Subtree). AreShort (messages_of s)) (sym c.self.view_is) c.requires.short))

pub take_down-requires-clause-bytes : goal.take_down-requires-clause-bytes
take_down-requires-clause-bytes g t c d =
    let next = is_next g t (goal.at.take_down-requires-clause-bytes g t c).In-Node in
    let made = is_made g t (goal.at.take_down-requires-clause-bytes g t c).After-deref_mut next in
    rw c.deref_mut.ensures.value (bytes_down c.self.inside c.heaviest-index.result c.bytes_for-bytes.result c.in-Node.node c.gets_room.new.self d next made)

gave_back : (g : given.Over) (t : ℕ) (c : In_err-taken g t) → IsNext c.self.inside c.heaviest-index.result c.bytes_for-bytes.result c.in-Node.node → MadeRoom c.self.inside c.heaviest-index.result c.in-Node.node c.gets_room.new.self → Refused c.self.inside (with_items (with_item c.self.inside.children c.heaviest-index.result (in_child.Node c.gets_room.new.self)) c.take_down.new.children) c.take_down.new.buffer
gave_back g t c n m =
    refused c.self.inside c.heaviest-index.result c.bytes_for-bytes.result c.in-Node.node c.gets_room.new.self c.take_down.new.children c.take_down.new.buffer c.self.invariant c.len-known.ensures.rising n c.gets_room.ensures.same m
    (rw (← c.deref_mut.ensures.value) c.in_err-taken.ensures.err)

pub invariant_of-self-in_err-taken : goal.invariant_of-self-in_err-taken
invariant_of-self-in_err-taken g t c =
    let next = is_next g t (goal.at.invariant_of-self-in_err-taken g t c).In-Node in
    let made = is_made g t (goal.at.invariant_of-self-in_err-taken g t c).After-deref_mut next in
    (gave_back g t (goal.at.invariant_of-self-in_err-taken g t c).In_err-taken next made).is_node

pub returns-in_err-taken-clause-err : goal.returns-in_err-taken-clause-err
returns-in_err-taken-clause-err g t c =
    let next = is_next g t (goal.at.returns-in_err-taken-clause-err g t c).In-Node in
    let made = is_made g t (goal.at.returns-in_err-taken-clause-err g t c).After-deref_mut next in
    on_err c.from_residual-in_err-taken.result (rw (← c.self.view_is) (gave_back g t (goal.at.returns-in_err-taken-clause-err g t c).In_err-taken next made).stays)

pub invariant_of-self-in_default : goal.invariant_of-self-in_default
invariant_of-self-in_default g t c =
    let next = is_next g t (goal.at.invariant_of-self-in_default g t c).In-Node in
    let made = is_made g t (goal.at.invariant_of-self-in_default g t c).After-deref_mut next in
    let light = is_light g t (goal.at.invariant_of-self-in_default g t c).In_default (takes g t (goal.at.invariant_of-self-in_default g t c).In_ok-taken) in
    let went = is_went g t (goal.at.invariant_of-self-in_default g t c).In_default next made light in
    went.is_node

pub returns-in_default-clause-goes : goal.returns-in_default-clause-goes
returns-in_default-clause-goes g t c =
    let next = is_next g t (goal.at.returns-in_default-clause-goes g t c).In-Node in
    let made = is_made g t (goal.at.returns-in_default-clause-goes g t c).After-deref_mut next in
    let light = is_light g t (goal.at.returns-in_default-clause-goes g t c).In_default (takes g t (goal.at.returns-in_default-clause-goes g t c).In_ok-taken) in
    let went = is_went g t (goal.at.returns-in_default-clause-goes g t c).In_default next made light in
    rw light.same (subst (λ (s : Subtree). Goes s.height (pins_in c.args.pins.now) s (subtree_of (record c.self.inside { children = (with_items (with_item c.self.inside.children c.heaviest-index.result (in_child.Node c.gets_room.new.self)) c.take_down.new.children); buffer = c.take_down.new.buffer })) c.none.result.came.items c.args.cache.now c.args.cache.now) c.self.view_is
    (goes_into c.self.inside (with_items (with_item c.self.inside.children c.heaviest-index.result (in_child.Node c.gets_room.new.self)) c.take_down.new.children) c.take_down.new.buffer c.heaviest-index.result c.bytes_for-bytes.result c.in-Node.node c.gets_room.new.self c.none.result.came.items (pins_in c.args.pins.now) c.args.cache.now
    c.self.invariant went.is_node (is_heavy g t (goal.at.returns-in_default-clause-goes g t c).In-Node) next c.gets_room.ensures.same light.down light.filled light.taken light.light c.none.ensures.came))

pub returns-in_default-clause-ok : goal.returns-in_default-clause-ok
returns-in_default-clause-ok g t c =
    let next = is_next g t (goal.at.returns-in_default-clause-ok g t c).In-Node in
    let made = is_made g t (goal.at.returns-in_default-clause-ok g t c).After-deref_mut next in
    let light = is_light g t (goal.at.returns-in_default-clause-ok g t c).In_default (takes g t (goal.at.returns-in_default-clause-ok g t c).In_ok-taken) in
    let went = is_went g t (goal.at.returns-in_default-clause-ok g t c).In_default next made light in
    subst (λ (s : Subtree). StepsAsOne (pins_in c.args.pins.now) s (subtree_of (record c.self.inside { children = (with_items (with_item c.self.inside.children c.heaviest-index.result (in_child.Node c.gets_room.new.self)) c.take_down.new.children); buffer = c.take_down.new.buffer })) c.none.result.came.items) c.self.view_is
    (steps_alone (pins_in c.args.pins.now) (subtree_of c.self.inside) (subtree_of (record c.self.inside { children = (with_items (with_item c.self.inside.children c.heaviest-index.result (in_child.Node c.gets_room.new.self)) c.take_down.new.children); buffer = c.take_down.new.buffer })) c.none.result.came.items went.stays went.is_node.sizes went.weight
    (subst (λ (s : Subtree). s.width ≤ s.shape.fan_out) (sym c.self.view_is) c.requires.few) c.none.ensures.came)

pub returns-in_default-clause-room : goal.returns-in_default-clause-room
returns-in_default-clause-room g t c = none_needed c.args.self.now.shape c.args.above.now.items c.none.result c.none.ensures.came (c.none.ensures.room c.args.self.now.shape)

pub returns-in_default-clause-cache : goal.returns-in_default-clause-cache
returns-in_default-clause-cache g t c =
    let next = is_next g t (goal.at.returns-in_default-clause-cache g t c).In-Node in
    let made = is_made g t (goal.at.returns-in_default-clause-cache g t c).After-deref_mut next in
    let light = is_light g t (goal.at.returns-in_default-clause-cache g t c).In_default (takes g t (goal.at.returns-in_default-clause-cache g t c).In_ok-taken) in
    let went = is_went g t (goal.at.returns-in_default-clause-cache g t c).In_default next made light in
    rw light.same (forgets_nothing c.args.self.now.leaves _ c.args.cache.now
    ((λ i. leaves_in (parts_of (with_items (with_item c.self.inside.children c.heaviest-index.result (in_child.Node c.gets_room.new.self)) c.take_down.new.children).items) ++ leaves_of (c.none.ensures.came i)) ∙ append-nil (leaves_in (parts_of (with_items (with_item c.self.inside.children c.heaviest-index.result (in_child.Node c.gets_room.new.self)) c.take_down.new.children).items)) ∙ went.stays.leaves ∙ ap (λ (s : Subtree). s.leaves) c.self.view_is))

pub take_in-requires-2-clause-inside : goal.take_in-requires-2-clause-inside
take_in-requires-2-clause-inside g t c =
    let next = is_next g t (goal.at.take_in-requires-2-clause-inside g t c).In-Node in
    let i = inside_of c.self.inside.children.items c.heaviest-index.result (in_child.Node c.in-Node.node) next.at in
    let o = c.self.inside.children.ok.0 in
    omega (arith, i, o)

pub take_in-requires-2-clause-places : goal.take_in-requires-2-clause-places
take_in-requires-2-clause-places g t c = λ s.
    let next = is_next g t (goal.at.take_in-requires-2-clause-places g t c).In-Node in
    let made = is_made g t (goal.at.take_in-requires-2-clause-places g t c).After-deref_mut next in
    let d = is_merging g t (goal.at.take_in-requires-2-clause-places g t c).In-Some (takes g t (goal.at.take_in-requires-2-clause-places g t c).In_ok-taken) in
    let few = are_few g t (goal.at.take_in-requires-2-clause-places g t c).In-Node in
    let some = are_some g t (goal.at.take_in-requires-2-clause-places g t c).In-Node in
    let ready = ready_above g t (goal.at.take_in-requires-2-clause-places g t c).In-Some (room_above g t (goal.at.take_in-requires-2-clause-places g t c).In-Some next made d) few some in
    let o = c.self.inside.children.ok.0 in
    let p = c.in-Some.room.came.ok.0 in
    let e : length c.self.inside.children.items + length c.in-Some.room.came.items ≡ c.self.inside.children.len + vec_len c.in-Some.room.came = omega (arith, o, p) in
    subst (λ n. AreLists 1 n c.in-Some.room.wides.items) e (ready.places (omega (arith, s, p)))

pub invariant_of-self-2 : goal.invariant_of-self-2
invariant_of-self-2 g t c =
    let next = is_next g t (goal.at.invariant_of-self-2 g t c).In-Node in
    let made = is_made g t (goal.at.invariant_of-self-2 g t c).After-deref_mut next in
    let d = is_merging g t (goal.at.invariant_of-self-2 g t c).In-Some (takes g t (goal.at.invariant_of-self-2 g t c).In_ok-taken) in
    (is_unladen g t (goal.at.invariant_of-self-2 g t c).After-take_in-2 next made d).drained.is_node

pub settle-requires-2-clause-fan_out : goal.settle-requires-2-clause-fan_out
settle-requires-2-clause-fan_out g t c = let f = c.requires.fan_out in let e = ap (λ (s : Subtree). s.shape.fan_out) c.self.view_is in omega (arith, f, e)

pub settle-requires-2-clause-none : goal.settle-requires-2-clause-none
settle-requires-2-clause-none g t c = c.take_in-2.ensures.came

pub settle-requires-2-clause-came : goal.settle-requires-2-clause-came
settle-requires-2-clause-came g t c =
    let next = is_next g t (goal.at.settle-requires-2-clause-came g t c).In-Node in
    let made = is_made g t (goal.at.settle-requires-2-clause-came g t c).After-deref_mut next in
    let d = is_merging g t (goal.at.settle-requires-2-clause-came g t c).In-Some (takes g t (goal.at.settle-requires-2-clause-came g t c).In_ok-taken) in
    let few = are_few g t (goal.at.settle-requires-2-clause-came g t c).In-Node in
    let some = are_some g t (goal.at.settle-requires-2-clause-came g t c).In-Node in
    let ready = ready_above g t (goal.at.settle-requires-2-clause-came g t c).In-Some (room_above g t (goal.at.settle-requires-2-clause-came g t c).In-Some next made d) few some in
    let wide = (is_unladen g t (goal.at.settle-requires-2-clause-came g t c).After-take_in-2 next made d).wide in
    let r = ready.came in
    let k = c.take_in-2.ensures.capacity in
    let e = ap (groups c.self.inside.shape.fan_out) wide in
    omega (arith, r, k, e)

pub settle-requires-2-clause-shells : goal.settle-requires-2-clause-shells
settle-requires-2-clause-shells g t c =
    let next = is_next g t (goal.at.settle-requires-2-clause-shells g t c).In-Node in
    let made = is_made g t (goal.at.settle-requires-2-clause-shells g t c).After-deref_mut next in
    let d = is_merging g t (goal.at.settle-requires-2-clause-shells g t c).In-Some (takes g t (goal.at.settle-requires-2-clause-shells g t c).In_ok-taken) in
    let few = are_few g t (goal.at.settle-requires-2-clause-shells g t c).In-Node in
    let some = are_some g t (goal.at.settle-requires-2-clause-shells g t c).In-Node in
    let ready = ready_above g t (goal.at.settle-requires-2-clause-shells g t c).In-Some (room_above g t (goal.at.settle-requires-2-clause-shells g t c).In-Some next made d) few some in
    let wide = (is_unladen g t (goal.at.settle-requires-2-clause-shells g t c).After-take_in-2 next made d).wide in
    rw (wide, c.take_in-2.ensures.shells) ready.shells

pub returns-clause-goes : goal.returns-clause-goes
returns-clause-goes g t c =
    let next = is_next g t (goal.at.returns-clause-goes g t c).In-Node in
    let made = is_made g t (goal.at.returns-clause-goes g t c).After-deref_mut next in
    let d = is_merging g t (goal.at.returns-clause-goes g t c).In-Some (takes g t (goal.at.returns-clause-goes g t c).In_ok-taken) in
    let u = is_unladen g t (goal.at.returns-clause-goes g t c).After-take_in-2 next made d in
    subst (λ (s : Subtree). Goes s.height (pins_in c.args.pins.now) s c.settle-2.new.self c.settle-2.new.room.came.items c.args.cache.now c.take_down.new.cache) c.self.view_is
    (u.goes c.settle-2.new.self c.settle-2.new.room.came.items (is_heavy g t (goal.at.returns-clause-goes g t c).In-Node) (c.settle-2.ensures.settles (pins_in c.args.pins.now)))

pub returns-clause-ok : goal.returns-clause-ok
returns-clause-ok g t c =
    let next = is_next g t (goal.at.returns-clause-ok g t c).In-Node in
    let made = is_made g t (goal.at.returns-clause-ok g t c).After-deref_mut next in
    let d = is_merging g t (goal.at.returns-clause-ok g t c).In-Some (takes g t (goal.at.returns-clause-ok g t c).In_ok-taken) in
    let few = are_few g t (goal.at.returns-clause-ok g t c).In-Node in
    let some = are_some g t (goal.at.returns-clause-ok g t c).In-Node in
    let u = is_unladen g t (goal.at.returns-clause-ok g t c).After-take_in-2 next made d in
    subst (λ (s : Subtree). StepsAsOne (pins_in c.args.pins.now) s c.settle-2.new.self c.settle-2.new.room.came.items) c.self.view_is
    (steps (pins_in c.args.pins.now) (subtree_of c.self.inside) _ c.settle-2.new.self c.settle-2.new.room.came.items u.drained.keeps u.drained.lighter (c.settle-2.ensures.settles (pins_in c.args.pins.now))
    (let k = c.settle-2.ensures.count in
    let e = ap (groups c.self.inside.shape.fan_out) u.wide in
    let g = groups_stay c.self.inside.shape.fan_out (length c.self.inside.children.items) (length c.in-Some.room.came.items) some few in
    let n = d.steps.counted in
    omega (arith, k, e, g, n)))

pub returns-clause-room : goal.returns-clause-room
returns-clause-room g t c =
    let next = is_next g t (goal.at.returns-clause-room g t c).In-Node in
    let made = is_made g t (goal.at.returns-clause-room g t c).After-deref_mut next in
    let d = is_merging g t (goal.at.returns-clause-room g t c).In-Some (takes g t (goal.at.returns-clause-room g t c).In_ok-taken) in
    let few = are_few g t (goal.at.returns-clause-room g t c).In-Node in
    let some = are_some g t (goal.at.returns-clause-room g t c).In-Node in
    let room = room_above g t (goal.at.returns-clause-room g t c).In-Some next made d in
    let wide = (is_unladen g t (goal.at.returns-clause-room g t c).After-take_in-2 next made d).wide in
    let p = c.in-Some.room.came.ok.0 in
    rw (← c.self.view_is) (level_left c.self.inside.shape (length c.self.inside.children.items) (length c.in-Some.room.came.items) c.args.above.now.items c.in-Some.room c.take_in-2.new.room c.settle-2.new.room some few room
    c.take_in-2.ensures.shells c.take_in-2.ensures.capacity
    (λ z. c.take_in-2.ensures.none (omega (arith, z, p)))
    (λ one levels places h. c.take_in-2.ensures.wides levels places (omega (arith, one, p)) h)
    (λ rest h. c.settle-2.ensures.room rest (subst (λ n. AreShells ((groups c.self.inside.shape.fan_out n - 1) + rest) c.self.inside.shape c.take_in-2.new.room.shells.items) (sym wide) h))
    c.settle-2.ensures.capacity c.settle-2.ensures.wides
    (let k = c.settle-2.ensures.count in let e = ap (groups c.self.inside.shape.fan_out) wide in omega (arith, k, e)))

pub returns-clause-cache : goal.returns-clause-cache
returns-clause-cache g t c =
    let next = is_next g t (goal.at.returns-clause-cache g t c).In-Node in
    let made = is_made g t (goal.at.returns-clause-cache g t c).After-deref_mut next in
    let d = is_merging g t (goal.at.returns-clause-cache g t c).In-Some (takes g t (goal.at.returns-clause-cache g t c).In_ok-taken) in
    let u = is_unladen g t (goal.at.returns-clause-cache g t c).After-take_in-2 next made d in
    subst (λ ls. Forgets c.args.self.now.leaves ls c.args.cache.now c.take_down.new.cache) (sym (grown_leaves (pins_in c.args.pins.now) _ c.settle-2.new.self c.settle-2.new.room.came.items (c.settle-2.ensures.settles (pins_in c.args.pins.now))))
    (subst (λ ls. Forgets ls (leaves_in (parts_of c.take_in-2.new.children.items)) c.args.cache.now c.take_down.new.cache) (ap (λ (s : Subtree). s.leaves) c.self.view_is) u.drained.forgets)
