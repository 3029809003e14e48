use Rattle.std.proofs.Common.{suc, ◌≡◌, ◌+◌, ◌-◌, ◌*◌, ◌<◌, ◌≤◌, List, [], ◌∷◌, ◌++◌, length, take, drop, refl, sym, ap, ◌∙◌, subst, arith, append-nil}
use Rattle.std.specs.Vec.{vec_len, vec_capacity}
use Rattle.std.specs.declared.vec.Vec.{Vec}
use Rattle.stow_leaves.specs.StowMessage.MessageBuf.{message_list}
use Rattle.stow_tree_model.specs.Agreement.{TenantPins}
use Rattle.stow_node.specs.declared.child.Child.{Child}
use Rattle.stow_node.specs.declared.child.Child.TheVariants as in_child
use Rattle.stow_node.specs.declared.shape.Shape.{Shape}
use Rattle.stow_node.specs.Nodes.{leaves_of, nearest_in, AreAmong}
use Rattle.stow_node.specs.Nodes.{subtree_of}
use Rattle.stow_node.specs.Regroups.{Grows, StandAsOne, AreBehind}
use Rattle.stow_groups.specs.Groups.{groups}
use Rattle.stow_node.specs.Rooms.{AreLists, AreShells}
use Rattle.stow_node.specs.Subtree.{Subtree}
use Rattle.stow_groups.proofs.Counts.{groups_halve}
use Rattle.stow_node.proofs.Rooms.{fewer_lists, fewer_shells, RootRoom, root_room, root_left}
use Rattle.stow_node.proofs.Regrouped.{Rooted, rooted, grown_leaves}
use Rattle.stow_node.proofs.node.Node.rise.Given as given
use Rattle.stow_node.proofs.node.Node.rise.Goals as goal
use Rattle.stow_node.proofs.node.Node.rise.Goals.{After-take_in}

same_shape : (g : given.Over) (c : After-take_in g) → c.self.inside.shape ≡ c.args.self.now.shape
same_shape g c = ap (λ (s : Subtree). s.shape) c.self.view_is

has_room : (g : given.Over) (c : After-take_in g) → RootRoom c.args.self.now.shape (length c.args.room.now.came.items) c.args.room.now
has_room g c = root_room c.args.self.now.shape (length c.args.room.now.came.items) c.args.room.now c.requires.came c.requires.room

-- the node and those that came behind it are the root's children
items_are : (g : given.Over) (c : After-take_in g) → c.take_in.new.children.items ≡ in_child.Node (subtree_of c.self.inside) ∷ c.args.room.now.came.items
items_are g c =
    let pushed : c.push.new.self.items ≡ in_child.Node (subtree_of c.self.inside) ∷ [] =
    (rw c.unwrap.ensures at c.push.ensures.items) ∙ rw (c.replace-3.ensures.after, c.into_parts-list.ensures.children, c.replace.ensures.value, c.replace-2.ensures.value, c.replace-3.ensures.value) refl in
    c.take_in.ensures.children ∙ (λ j. take 1 (pushed j) ++ ((c.shell-shell.ensures.came j).items ++ drop 1 (pushed j))) ∙ ap (λ (l : List (Child g.row.A.Denot)). in_child.Node (subtree_of c.self.inside) ∷ l) (append-nil c.args.room.now.came.items)

is_rooted : (g : given.Over) (c : After-take_in g) → Rooted c.self.inside c.take_in.new.children c.args.room.now.came.items
is_rooted g c = rooted c.self.inside c.take_in.new.children c.args.room.now.came.items c.self.invariant
    (subst (λ (s : Subtree). s.buffer.capacity ≡ s.shape.buffer) (sym c.self.view_is) c.requires.block)
    (subst (λ (s : Subtree). AreBehind s c.args.room.now.came.items) (sym c.self.view_is) c.requires.are) (items_are g c)

same_low : (g : given.Over) (c : After-take_in g) → c.replace.new.dest ≡ c.self.inside.low
same_low g c = c.replace.ensures.after ∙ c.copied-low.ensures ∙ c.as_key.ensures

empty_block : (g : given.Over) (c : After-take_in g) → c.replace-2.new.dest ≡ message_list [] 0 c.self.inside.shape.buffer
empty_block g c =
    let shell = c.shell-shell.ensures.shell c.args.self.now.shape (length c.args.room.now.came.items) (has_room g c).shells in
    c.replace-2.ensures.after ∙ c.into_parts-list.ensures.buffer ∙ ap (λ (s : Shape). message_list [] 0 s.buffer) (shell.0 ∙ sym (same_shape g c))

are_fewer : (g : given.Over) (c : After-take_in g) → 4 * (groups c.self.inside.shape.fan_out (length c.take_in.new.children.items) - 1) ≤ length c.args.room.now.came.items
are_fewer g c =
    let wide : length c.take_in.new.children.items ≡ 1 + length c.args.room.now.came.items = ap length (items_are g c) ∙ omega arith in
    let f = c.requires.fan_out in
    let e = ap (λ (s : Shape). s.fan_out) (same_shape g c) in
    subst (λ n. 4 * (groups c.self.inside.shape.fan_out n - 1) ≤ length c.args.room.now.came.items) (sym wide) (groups_halve c.self.inside.shape.fan_out (length c.args.room.now.came.items) (omega (arith, f, e)))

shells_left : (g : given.Over) (c : After-take_in g) → AreShells (length c.args.room.now.came.items) c.self.inside.shape c.take_in.new.room.shells.items
shells_left g c =
    let shell = c.shell-shell.ensures.shell c.args.self.now.shape (length c.args.room.now.came.items) (has_room g c).shells in
    rw (c.take_in.ensures.shells, same_shape g c) shell.1

pub shell-shell-requires : goal.shell-shell-requires
shell-shell-requires g c =
    let rr : RootRoom c.args.self.now.shape (length c.args.room.now.came.items) c.args.room.now = root_room c.args.self.now.shape (length c.args.room.now.came.items) c.args.room.now c.requires.came c.requires.room in
    let e = rr.shells.enough in
    omega (arith, e)

pub copied-low-requires-clause-empty : goal.copied-low-requires-clause-empty
copied-low-requires-clause-empty g c = c.into_parts-list.ensures.fence

pub copied-low-requires-clause-long : goal.copied-low-requires-clause-long
copied-low-requires-clause-long g c = c.into_parts-list.ensures.long

pub invariant_of-lower : goal.invariant_of-lower
invariant_of-lower g c = rw (c.replace.ensures.value, c.replace-2.ensures.value, c.replace-3.ensures.value) c.self.invariant

pub unwrap-requires : goal.unwrap-requires
unwrap-requires g c =
    let shape : c.self.inside.shape ≡ c.args.self.now.shape = ap (λ (s : Subtree). s.shape) c.self.view_is in
    let rr : RootRoom c.args.self.now.shape (length c.args.room.now.came.items) c.args.room.now = root_room c.args.self.now.shape (length c.args.room.now.came.items) c.args.room.now c.requires.came c.requires.room in
    let shell = c.shell-shell.ensures.shell c.args.self.now.shape (length c.args.room.now.came.items) rr.shells in
    let count : vec_len c.shell-shell.new.self.came ≡ length c.args.room.now.came.items = let o = c.args.room.now.came.ok.0 in let e = ap (λ (v : Vec (Child g.row.A.Denot) g.row.A.Denot). vec_len v) c.shell-shell.ensures.came in omega (arith, o, e) in
    let own : vec_len c.replace-3.new.dest ≡ 0 = (let n = ap length c.into_parts-list.ensures.children in let e = ap (λ (v : Vec (Child g.row.A.Denot) g.row.A.Denot). vec_len v) c.replace-3.ensures.after in let o = c.into_parts-list.result.0.ok.0 in omega (arith, n, e, o)) in
    let cap = ap (λ (v : Vec (Child g.row.A.Denot) g.row.A.Denot). vec_capacity v) c.replace-3.ensures.after in
    let places = c.into_parts-list.ensures.places in
    let f = c.requires.fan_out in
    let k = ap (λ (s : Shape). s.fan_out) shell.0 in
    c.push.ensures.succeeds (omega (arith, own, cap, places, f, k))

pub take_in-requires-clause-inside : goal.take_in-requires-clause-inside
take_in-requires-clause-inside g c =
    let pushed : c.push.new.self.items ≡ in_child.Node (subtree_of c.self.inside) ∷ [] =
    (rw c.unwrap.ensures at c.push.ensures.items) ∙ rw (c.replace-3.ensures.after, c.into_parts-list.ensures.children, c.replace.ensures.value, c.replace-2.ensures.value, c.replace-3.ensures.value) refl in
    let n = ap length pushed in
    let o = c.push.new.self.ok.0 in
    omega (arith, n, o)

pub take_in-requires-clause-places : goal.take_in-requires-clause-places
take_in-requires-clause-places g c = λ some.
    let shape : c.self.inside.shape ≡ c.args.self.now.shape = ap (λ (s : Subtree). s.shape) c.self.view_is in
    let rr : RootRoom c.args.self.now.shape (length c.args.room.now.came.items) c.args.room.now = root_room c.args.self.now.shape (length c.args.room.now.came.items) c.args.room.now c.requires.came c.requires.room in
    let shell = c.shell-shell.ensures.shell c.args.self.now.shape (length c.args.room.now.came.items) rr.shells in
    let count : vec_len c.shell-shell.new.self.came ≡ length c.args.room.now.came.items = let o = c.args.room.now.came.ok.0 in let e = ap (λ (v : Vec (Child g.row.A.Denot) g.row.A.Denot). vec_len v) c.shell-shell.ensures.came in omega (arith, o, e) in
    let pushed : c.push.new.self.items ≡ in_child.Node (subtree_of c.self.inside) ∷ [] =
    (rw c.unwrap.ensures at c.push.ensures.items) ∙ rw (c.replace-3.ensures.after, c.into_parts-list.ensures.children, c.replace.ensures.value, c.replace-2.ensures.value, c.replace-3.ensures.value) refl in
    let n = ap length pushed in
    let o = c.push.new.self.ok.0 in
    let f = c.requires.fan_out in
    rw c.shell-shell.ensures.wides (fewer_lists 1 (length c.args.room.now.came.items) (vec_len c.push.new.self + vec_len c.shell-shell.new.self.came) (c.args.self.now.shape.fan_out + length c.args.room.now.came.items) c.args.room.now.wides.items
    (let s = c.requires.came in omega (arith, s)) (omega (arith, n, o, f, count)) rr.wides)

pub overflow_add-self : goal.overflow_add-self
overflow_add-self g c = let h = c.requires.height in let e = ap (λ (s : Subtree). s.height) c.self.view_is in omega (arith, h, e)

pub invariant_of-self : goal.invariant_of-self
invariant_of-self g c =
    let done = is_rooted g (goal.at.invariant_of-self g c).After-take_in in
    let low = same_low g (goal.at.invariant_of-self g c).After-take_in in
    let block = empty_block g (goal.at.invariant_of-self g c).After-take_in in
    rw (low, block) done.is_node

pub settle-requires-clause-fan_out : goal.settle-requires-clause-fan_out
settle-requires-clause-fan_out g c = let f = c.requires.fan_out in let e = ap (λ (s : Subtree). s.shape.fan_out) c.self.view_is in omega (arith, f, e)

pub settle-requires-clause-none : goal.settle-requires-clause-none
settle-requires-clause-none g c = c.take_in.ensures.came

pub settle-requires-clause-came : goal.settle-requires-clause-came
settle-requires-clause-came g c =
    let rr = has_room g (goal.at.settle-requires-clause-came g c).After-take_in in
    let four = are_fewer g (goal.at.settle-requires-clause-came g c).After-take_in in
    let cap = c.take_in.ensures.capacity in
    let e = ap (λ (v : Vec (Child g.row.A.Denot) g.row.A.Denot). vec_capacity v) c.shell-shell.ensures.came in
    let r = rr.came in
    omega (arith, four, cap, e, r)

pub settle-requires-clause-shells : goal.settle-requires-clause-shells
settle-requires-clause-shells g c =
    let four = are_fewer g (goal.at.settle-requires-clause-shells g c).After-take_in in
    let shells = shells_left g (goal.at.settle-requires-clause-shells g c).After-take_in in
    fewer_shells (groups c.self.inside.shape.fan_out (length c.take_in.new.children.items) - 1) (length c.args.room.now.came.items) c.self.inside.shape c.take_in.new.room.shells.items (omega (arith, four)) shells

pub returns-clause-rises : goal.returns-clause-rises
returns-clause-rises g c = λ pins x s.
    let shape = same_shape g (goal.at.returns-clause-rises g c).After-take_in in
    let done = is_rooted g (goal.at.returns-clause-rises g c).After-take_in in
    let low = same_low g (goal.at.returns-clause-rises g c).After-take_in in
    let block = empty_block g (goal.at.returns-clause-rises g c).After-take_in in
    let stands : (pins : TenantPins) (x z : Subtree) (came' : List (Child g.row.A.Denot)) → StandAsOne pins x (subtree_of c.self.inside) c.args.room.now.came.items → Grows pins (subtree_of (record { low = c.replace.new.dest; height = c.self.inside.height + 1; shape = c.self.inside.shape; buffer = c.replace-2.new.dest; children = c.take_in.new.children })) z came' → StandAsOne pins x z came' = rw (low, block) done.stands in
    stands pins x c.settle.new.self c.settle.new.room.came.items (subst (λ (t : Subtree). StandAsOne pins x t c.args.room.now.came.items) (sym c.self.view_is) s) (c.settle.ensures.settles pins)

pub returns-clause-nearest : goal.returns-clause-nearest
returns-clause-nearest g c =
    let done = is_rooted g (goal.at.returns-clause-nearest g c).After-take_in in
    let low = same_low g (goal.at.returns-clause-nearest g c).After-take_in in
    let block = empty_block g (goal.at.returns-clause-nearest g c).After-take_in in
    let nearest : (pins : TenantPins) (z : Subtree) (came' : List (Child g.row.A.Denot)) → Grows pins (subtree_of (record { low = c.replace.new.dest; height = c.self.inside.height + 1; shape = c.self.inside.shape; buffer = c.replace-2.new.dest; children = c.take_in.new.children })) z came' → AreAmong (nearest_in (in_child.Node z ∷ came')) (nearest_in (in_child.Node (subtree_of c.self.inside) ∷ c.args.room.now.came.items)) = rw (low, block) done.nearest in
    subst (λ (t : Subtree). AreAmong (nearest_in (in_child.Node c.settle.new.self ∷ c.settle.new.room.came.items)) (nearest_in (in_child.Node t ∷ c.args.room.now.came.items))) c.self.view_is
    (nearest c.requires.are.pins c.settle.new.self c.settle.new.room.came.items (c.settle.ensures.settles c.requires.are.pins))

pub returns-clause-leaves : goal.returns-clause-leaves
returns-clause-leaves g c =
    let done = is_rooted g (goal.at.returns-clause-leaves g c).After-take_in in
    grown_leaves c.requires.are.pins _ c.settle.new.self c.settle.new.room.came.items (c.settle.ensures.settles c.requires.are.pins)
    ∙ done.leaves ∙ ap (λ (s : Subtree). s.leaves ++ leaves_of c.args.room.now.came.items) c.self.view_is

pub returns-clause-fewer : goal.returns-clause-fewer
returns-clause-fewer g c =
    let four = are_fewer g (goal.at.returns-clause-fewer g c).After-take_in in
    let k = c.settle.ensures.count in
    let s = c.requires.came in
    omega (arith, four, k, s)

pub returns-clause-room : goal.returns-clause-room
returns-clause-room g c =
    let shape = same_shape g (goal.at.returns-clause-room g c).After-take_in in
    let rr = has_room g (goal.at.returns-clause-room g c).After-take_in in
    let four = are_fewer g (goal.at.returns-clause-room g c).After-take_in in
    let shells = shells_left g (goal.at.returns-clause-room g c).After-take_in in
    let count : vec_len c.shell-shell.new.self.came ≡ length c.args.room.now.came.items = let o = c.args.room.now.came.ok.0 in let e = ap (λ (v : Vec (Child g.row.A.Denot) g.row.A.Denot). vec_len v) c.shell-shell.ensures.came in omega (arith, o, e) in
    let k = c.settle.ensures.count in
    let some : 0 < length c.args.room.now.came.items = c.requires.came in
    let cap = c.take_in.ensures.capacity in
    let e = ap (λ (v : Vec (Child g.row.A.Denot) g.row.A.Denot). vec_capacity v) c.shell-shell.ensures.came in
    let r = rr.came in
    let one : suc (length c.args.room.now.came.items - 1) ≡ length c.args.room.now.came.items = omega (arith, some) in
    let wides : AreLists (length c.args.room.now.came.items - 1) (c.args.self.now.shape.fan_out + length c.args.room.now.came.items) c.take_in.new.room.wides.items =
    c.take_in.ensures.wides (length c.args.room.now.came.items - 1) (c.args.self.now.shape.fan_out + length c.args.room.now.came.items) (omega (arith, count, some))
    (subst (λ n. AreLists n (c.args.self.now.shape.fan_out + length c.args.room.now.came.items) c.shell-shell.new.self.wides.items) (sym one) (rw c.shell-shell.ensures.wides rr.wides)) in
    rw (← shape) (root_left c.self.inside.shape (length c.args.room.now.came.items) (groups c.self.inside.shape.fan_out (length c.take_in.new.children.items) - 1) c.take_in.new.room c.settle.new.room some four
    (let sh = ap (λ (s : Shape). s.fan_out) shape in omega (arith, cap, e, r, sh)) (rw shape wides) shells
    c.settle.ensures.room c.settle.ensures.capacity c.settle.ensures.wides (omega (arith, k)))

pub returns-clause-height : goal.returns-clause-height
returns-clause-height g c = (c.settle.ensures.settles c.requires.are.pins).like.0.height ∙ ap (λ (s : Subtree). s.height + 1) c.self.view_is
