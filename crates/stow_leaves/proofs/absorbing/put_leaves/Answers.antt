use Rattle.std.proofs.Common.{arith}
use Rattle.stow_leaves.proofs.Replaced.{putting_first, putting_next, all_put, place_inside, none_left}
use Rattle.stow_leaves.proofs.absorbing.put_leaves.Goals as goal

pub loop-leaf-init : goal.loop-leaf-init
loop-leaf-init g c = (
  putting_first c.args.leaves.now.items c.args.index c.args.others.items c.remove-replaced.new.self.items c.remove-replaced.ensures.by_index.2,
  let r = c.requires.room in let l = c.remove-replaced.ensures.len in let k = c.remove-replaced.ensures.capacity in omega (arith, r, l, k),
)

pub insert-requires : goal.insert-requires
insert-requires g c =
    let inside = place_inside c.args.leaves.now.items c.args.index c.args.others.items c.loop-leaf.others.items c.loop-leaf.leaves.items c.loop-leaf.invariant.0 (let i = c.requires.inside in omega arith) in
    let o = c.loop-leaf.leaves.ok.0 in
    omega (arith, inside, o)

pub unwrap-requires : goal.unwrap-requires
unwrap-requires g c =
    let room = c.loop-leaf.invariant.1 in
    let n = c.in-Some.ensures.len in
    c.insert.ensures.succeeds (omega (arith, room, n))

pub loop-leaf-preserved : goal.loop-leaf-preserved
loop-leaf-preserved g c =
    let room = c.loop-leaf.invariant.1 in
    let n = c.in-Some.ensures.len in
    let more = rw c.unwrap.ensures at c.insert.ensures.len in
    let wide = c.insert.ensures.capacity in (
      putting_next c.args.leaves.now.items c.args.index c.args.others.items c.loop-leaf.others.items c.pop.new.self.items c.in-Some.leaf c.loop-leaf.leaves.items c.insert.new.self.items (let i = c.requires.inside in omega arith) c.loop-leaf.invariant.0 c.in-Some.ensures.items
          (rw c.unwrap.ensures at c.insert.ensures.items),
      omega (arith, room, n, more, wide),
    )

pub returns : goal.returns
returns g c =
    all_put c.args.leaves.now.items c.args.index c.args.others.items c.loop-leaf.others.items c.loop-leaf.leaves.items c.loop-leaf.invariant.0
    (none_left c.loop-leaf.others.items (let o = c.loop-leaf.others.ok.0 in let z = c.in_default.ensures.cases.0 in omega (arith, o, z)))
