use Rattle.std.proofs.Common.{◌≢◌, ◌-◌, ◌<◌, length, get_or, Some, ap, ◌∙◌, arith}
use Rattle.std.proofs.lemmas.Option.{slice_get-get_or}
use Rattle.stow_slots.proofs.Beside.{young_there, older_there, none_there}
use Rattle.stow_slots.proofs.Merged.{rank_within}
use Rattle.stow_slots.proofs.Parts.{zero_slot, other_there}
use Rattle.stow_slots.proofs.around.slot_at.Goals as goal
use Rattle.stow_slots.proofs.around.slot_at.Goals.{else-rank-young-via-then-rank-young+else-young-rank, else-rank-young-via-else-rank-young}

pub overflow_sub-past : goal.overflow_sub-past
overflow_sub-past g c = (rank_within 0 c.args.index c.args.young.now c.args.rank c.requires.rank).1

pub returns-then-young-rank : goal.returns-then-young-rank
returns-then-young-rank g c = young_there c.args.raw.now c.args.young.now c.requires.young c.args.index c.args.rank c.requires.rank (get_or c.args.young.now c.args.rank zero_slot) (slice_get-get_or c.args.young.now c.args.rank zero_slot c.if-rank-young.true) c.if-young-rank.true

pub returns-then-past-slot_count : goal.returns-then-past-slot_count
returns-then-past-slot_count g c =
    let young = c.args.young.now in let rank = c.args.rank in
    let none : rank < length young → (get_or young rank zero_slot).behind ≢ c.args.index - rank = (elim c.else-rank-young.branch as (λ _. rank < length young → (get_or young rank zero_slot).behind ≢ c.args.index - rank) [
      | else-rank-young-via-then-rank-young+else-young-rank w ↦ λ lt e. w.if-young-rank.false e
      | else-rank-young-via-else-rank-young w ↦ λ lt e. absurd (omega (arith, lt, w.if-rank-young.false))
    ]) in
    ap Some c.slot.ensures ∙ older_there c.args.raw.now young c.requires.young c.args.index rank c.requires.rank (other_there young c.args.index rank none) (omega (arith, c.if-past-slot_count.true, c.slot_count.ensures))

pub returns-else-past-slot_count : goal.returns-else-past-slot_count
returns-else-past-slot_count g c =
    let young = c.args.young.now in let rank = c.args.rank in
    let none : rank < length young → (get_or young rank zero_slot).behind ≢ c.args.index - rank = (elim c.else-rank-young.branch as (λ _. rank < length young → (get_or young rank zero_slot).behind ≢ c.args.index - rank) [
      | else-rank-young-via-then-rank-young+else-young-rank w ↦ λ lt e. w.if-young-rank.false e
      | else-rank-young-via-else-rank-young w ↦ λ lt e. absurd (omega (arith, lt, w.if-rank-young.false))
    ]) in
    none_there c.args.raw.now young c.requires.young c.args.index rank c.requires.rank (other_there young c.args.index rank none) (omega (arith, c.if-past-slot_count.false, c.slot_count.ensures))
