use Rattle.std.proofs.Common.{◌≡◌, ◌∷◌, ◌+◌, ◌-◌, ◌≤◌, sym, ap, ◌∙◌, subst, arith}
use Rattle.stow_node.specs.declared.shape.Shape.{Shape}
use Rattle.stow_groups.specs.Groups.{groups}
use Rattle.stow_node.specs.Rooms.{AreShells}
use Rattle.stow_node.specs.declared.child.Child.TheVariants as in_child
use Rattle.stow_node.specs.Subtree.{Subtree}
use Rattle.stow_node.proofs.Regrouped.{IsSettling, settling_begins, shells_now, no_rest, settling_cut, settling_ends}
use Rattle.stow_node.proofs.node.Node.settle.Goals as goal

pub loop-groups-init : goal.loop-groups-init
loop-groups-init g c =
    let some : 1 ≤ c.close_children.new.self.width = let s = c.width.ensures.some in let w = c.width.ensures.width in omega (arith, s, w) in
    let fan_out : 1 ≤ c.close_children.new.self.shape.fan_out = let f = c.requires.fan_out in let e = ap (λ (s : Subtree). s.shape.fan_out) c.close_children.ensures in omega (arith, f, e) in
    subst (λ (s : Subtree). IsSettling s c.args.room.now c.close_children.new.self c.args.room.now c.groups-groups.result) c.close_children.ensures
    (settling_begins c.close_children.new.self c.args.room.now c.groups-groups.result c.shape-fan_out.ensures.block c.shape-fan_out.ensures.sizes c.shape-fan_out.ensures.tile fan_out some c.requires.none
    (c.groups-groups.ensures ∙ (λ i. groups (ap (λ (s : Shape). s.fan_out) c.shape-fan_out.ensures.shape i) (c.width.ensures.width i))))

pub cut_off-node-requires-clause-inside : goal.cut_off-node-requires-clause-inside
cut_off-node-requires-clause-inside g c =
    let l = c.share_of_last.ensures.last in
    let w = c.width-width.ensures.width in
    let a = l.some in
    let b = l.less in
    (omega (arith, a, b), omega (arith, a, b, w))

pub cut_off-node-requires-clause-shape : goal.cut_off-node-requires-clause-shape
cut_off-node-requires-clause-shape g c =
    let s = c.loop-groups.invariant in
    (c.shell.ensures.shell c.args.self.now.shape (c.loop-groups.groups - 2 + 0) (shells_now c.args.self.now c.loop-groups.self c.args.room.now c.loop-groups.room c.loop-groups.groups 0 s c.loop-groups-test.true (no_rest _ c.args.self.now.shape c.args.room.now.shells.items c.requires.shells))).0 ∙ sym s.shape

pub loop-groups-preserved : goal.loop-groups-preserved
loop-groups-preserved g c =
    settling_cut c.args.self.now c.loop-groups.self c.cut_off-node.new.self c.cut_off-node.result c.args.room.now c.loop-groups.room c.bring.new.self c.loop-groups.groups c.share_of_last.result c.loop-groups.invariant c.loop-groups-test.true
    (rw (← (ap (λ (s : Shape). s.fan_out) c.shape-fan_out.ensures.shape ∙ ap (λ (s : Subtree). s.shape.fan_out) c.close_children.ensures), ← c.width-width.ensures.width) c.share_of_last.ensures.last) c.cut_off-node.ensures.halves
    (c.cut_off-node.ensures.width ∙ ap (λ w. w - c.share_of_last.result) c.width-width.ensures.width)
    (c.bring.ensures.came ∙ (λ i. in_child.Node c.cut_off-node.result ∷ (c.shell.ensures.came i).items))
    (let cap = c.bring.ensures.capacity in rw c.shell.ensures.came at cap)
    (c.bring.ensures.wides ∙ c.shell.ensures.wides)
    (λ nodes h. rw c.bring.ensures.shells (c.shell.ensures.shell c.args.self.now.shape nodes h).1)

pub returns-clause-settles : goal.returns-clause-settles
returns-clause-settles g c = λ pins. settling_ends c.args.self.now c.loop-groups.self c.args.room.now c.loop-groups.room c.loop-groups.groups pins c.loop-groups.invariant c.loop-groups-test.false

pub returns-clause-room : goal.returns-clause-room
returns-clause-room g c = λ rest h.
    let s = c.loop-groups.invariant in
    let e : (c.loop-groups.groups - 1) + rest ≡ rest = let l = c.loop-groups-test.false in omega (arith, l) in
    subst (λ n. AreShells n c.args.self.now.shape c.loop-groups.room.shells.items) e (s.shells rest h)
