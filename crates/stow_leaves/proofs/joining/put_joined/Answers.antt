use Rattle.std.proofs.Common.{refl, arith}
use Rattle.stow_leaves.proofs.Pairs.{pair_inside, joined_as}
use Rattle.stow_leaves.proofs.joining.put_joined.Goals as goal

pub overflow_add-index : goal.overflow_add-index
overflow_add-index g c = let l = pair_inside c.args.leaves.now.items c.requires in let o = c.args.leaves.now.ok in let s = c.args.leaves.now.small in omega (arith, l, o.0, o.1, s)

pub remove-upper-requires : goal.remove-upper-requires
remove-upper-requires g c = let l = pair_inside c.args.leaves.now.items c.requires in let o = c.args.leaves.now.ok.0 in omega (arith, l, o)

pub index_mut-requires : goal.index_mut-requires
index_mut-requires g c = let l = pair_inside c.args.leaves.now.items c.requires in let o = c.args.leaves.now.ok.0 in let n = c.remove-upper.ensures.len in omega (arith, l, o, n)

pub returns : goal.returns
returns g c pair = joined_as c.args.leaves.now.items c.remove-upper.new.self.items _ pair c.index_mut.result.now c.args.rows c.remove-upper.ensures.by_index.2 c.index_mut.ensures.value refl
