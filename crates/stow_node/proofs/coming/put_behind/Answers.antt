use Rattle.std.proofs.Common.{◌≡◌, ◌+◌, ◌≤◌, ◌++◌, length, take, drop, length-append, length-take, refl, ap, ◌∙◌, arith}
use Rattle.stow_node.proofs.Came.{coming_first, coming_next}
use Rattle.stow_node.proofs.coming.put_behind.Goals as goal

pub unwrap-requires : goal.unwrap-requires
unwrap-requires g c = c.append.ensures.succeeds (omega (arith, c.requires.places, ap length c.requires.empty, c.args.wide.ok.0))

pub insert-requires : goal.insert-requires
insert-requires g c =
    let w = c.loop-child.invariant.0 in let cs = c.args.children.now.items in let k = c.args.index + 1 in
    omega (arith, ap length w.is, length-append (take k cs) (w.done ++ drop k cs), length-append w.done (drop k cs), length-take k cs, c.requires.inside, c.args.children.now.ok.0, c.loop-child.wide.ok.0)

pub loop-child-init : goal.loop-child-init
loop-child-init g c =
    let items : c.append.new.self.items ≡ c.args.children.now.items = (rw c.unwrap.ensures at c.append.ensures.items) ∙ ap (λ l. l ++ c.args.children.now.items) c.requires.empty in
    let len = rw c.unwrap.ensures at c.append.ensures.len in
    let none = ap length c.requires.empty in
    let own = c.args.wide.ok.0 in
    let cap = c.append.ensures.capacity in
    let r = c.requires.places in (
      coming_first c.args.children.now.items (c.args.index + 1) c.args.came.now.items c.append.new.self.items items,
      omega (arith, len, none, own, cap, r),
      refl,
    )

pub loop-child-preserved : goal.loop-child-preserved
loop-child-preserved g c =
    let inside : c.args.index + 1 ≤ length c.args.children.now.items = let i = c.requires.inside in let o = c.args.children.now.ok.0 in omega (arith, i, o) in
    let more = rw c.unwrap-in-Some.ensures at c.insert.ensures.len in
    let n = c.in-Some.ensures.len in
    let room = c.loop-child.invariant.1 in
    let cap = c.insert.ensures.capacity in (
      coming_next c.args.children.now.items (c.args.index + 1) c.args.came.now.items c.loop-child.came.items c.pop.new.self.items c.loop-child.wide.items c.insert.new.self.items c.in-Some.child inside c.loop-child.invariant.0 c.in-Some.ensures.items
          (rw c.unwrap-in-Some.ensures at c.insert.ensures.items),
      omega (arith, room, n, more, cap),
      c.pop.ensures.capacity ∙ c.loop-child.invariant.2,
    )
