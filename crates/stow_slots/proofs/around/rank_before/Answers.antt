use Rattle.std.proofs.Common.{◌≡◌, ◌-◌, get_or, sym, subst, arith}
use Rattle.std.proofs.lemmas.Option.{slice_get-get_or}
use Rattle.stow_slots.specs.Young.{IsRank}
use Rattle.stow_slots.proofs.Beside.{one_fewer, as_many, none_fewer}
use Rattle.stow_slots.proofs.Merged.{rank_within}
use Rattle.stow_slots.proofs.Parts.{zero_slot}
use Rattle.stow_slots.proofs.around.rank_before.Goals as goal
use Rattle.stow_slots.proofs.around.rank_before.Goals.{else-rank-gt0-via-then-rank-gt0+else-rank-young, else-rank-gt0-via-then-rank-gt0+then-rank-young+else-young-rank, else-rank-gt0-via-else-rank-gt0}

pub bounds-young-rank : goal.bounds-young-rank
bounds-young-rank c = let w = rank_within 0 c.args.index c.args.young.now c.args.rank c.requires.rank in omega (arith, w.0, c.if-rank-gt0.true)

pub overflow_sub-index : goal.overflow_sub-index
overflow_sub-index c = (rank_within 0 c.args.index c.args.young.now c.args.rank c.requires.rank).1

pub returns-then-young-rank : goal.returns-then-young-rank
returns-then-young-rank c =
    let young = c.args.young.now in let rank = c.args.rank in let w = rank_within 0 c.args.index young rank c.requires.rank in
    one_fewer young c.args.index rank c.requires.rising c.requires.rank (get_or young (rank - 1) zero_slot) (slice_get-get_or young (rank - 1) zero_slot (omega (arith, w.0, c.if-rank-gt0.true))) c.if-rank-gt0.true c.if-young-rank.true

pub returns-else-rank-gt0 : goal.returns-else-rank-gt0
returns-else-rank-gt0 c =
    let young = c.args.young.now in let rank = c.args.rank in let index = c.args.index in
    elim c.else-rank-gt0.branch as (λ _. IsRank 0 (index - 1) young rank) [
      | else-rank-gt0-via-then-rank-gt0+else-rank-young w ↦ absurd (let within = rank_within 0 index young rank c.requires.rank in omega (arith, within.0, w.if-rank-gt0.true, w.if-rank-young.false))
      | else-rank-gt0-via-then-rank-gt0+then-rank-young+else-young-rank w ↦ let within = rank_within 0 index young rank c.requires.rank in
          as_many young index rank c.requires.rising c.requires.rank (get_or young (rank - 1) zero_slot) (slice_get-get_or young (rank - 1) zero_slot (omega (arith, within.0, w.if-rank-gt0.true))) w.if-rank-gt0.true w.if-young-rank.false
      | else-rank-gt0-via-else-rank-gt0 w ↦ let none : 0 ≡ rank = omega (arith, w.if-rank-gt0.false) in
          subst (IsRank 0 (index - 1) young) none (none_fewer young index c.requires.rising (subst (IsRank 0 index young) (sym none) c.requires.rank))
    ]
