use Rattle.std.proofs.Common.{length, ap, arith}
use Rattle.stow_slots.proofs.Merged.{rank_within}
use Rattle.stow_slots.proofs.ranking.put_young.Goals as goal

pub overflow_sub-index : goal.overflow_sub-index
overflow_sub-index g c = (rank_within 0 c.args.index c.as_slice.result.now c.rank_of-rank.result c.rank_of-rank.ensures).1

pub insert-requires : goal.insert-requires
insert-requires g c = let w = rank_within 0 c.args.index c.as_slice.result.now c.rank_of-rank.result c.rank_of-rank.ensures in omega (arith, w.0, ap length c.as_slice.ensures.value)
