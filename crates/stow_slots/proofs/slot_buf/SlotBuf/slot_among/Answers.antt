use Rattle.std.proofs.Common.{◌≡◌, ◌≢◌, ◌+◌, ◌-◌, ◌<◌, length, get_or, Some, sym, subst, ◌∙◌, arith}
use Rattle.std.specs.Prelude.{slice_get}
use Rattle.std.proofs.lemmas.Option.{slice_get-get_or}
use Rattle.stow_slots.specs.Young.{IsRank}
use Rattle.stow_slots.specs.declared.young_slot.YoungSlot.{YoungSlot}
use Rattle.stow_slots.proofs.Merged.{rank_within}
use Rattle.stow_slots.proofs.Parts.{zero_slot, other_there, slot_of_young, slot_of_older, older_within}
use Rattle.stow_slots.proofs.slot_buf.SlotBuf.slot_among.Goals as goal
use Rattle.stow_slots.proofs.slot_buf.SlotBuf.slot_among.Goals.{else-rank-young-via-then-rank-young+else-young-rank, else-rank-young-via-else-rank-young}

pub overflow_sub-index : goal.overflow_sub-index
overflow_sub-index g c = (rank_within 0 c.args.index c.as_slice-young.result.now c.rank_of-rank.result c.rank_of-rank.ensures).1

pub overflow_sub-index-2 : goal.overflow_sub-index-2
overflow_sub-index-2 g c = (rank_within 0 c.args.index c.as_slice-young.result.now c.rank_of-rank.result c.rank_of-rank.ensures).1

pub returns-then-young-rank : goal.returns-then-young-rank
returns-then-young-rank g c =
    let young = c.as_slice-young.result.now in let rank = c.rank_of-rank.result in let items = c.self.inside.young.items in
    let within = rank_within 0 c.args.index young rank c.rank_of-rank.ensures in
    sym (slot_of_young c.self.inside.raw c.self.inside.young.items c.self.invariant c.args.self.now c.self.view_is c.args.index rank (get_or young rank zero_slot)
    (subst (λ ys. IsRank 0 c.args.index ys rank) c.as_slice-young.ensures.value c.rank_of-rank.ensures)
    (subst (λ ys. slice_get ys rank ≡ Some (get_or young rank zero_slot)) c.as_slice-young.ensures.value (slice_get-get_or young rank zero_slot c.if-rank-young.true))
    (omega (arith, c.if-young-rank.true, within.1)))

pub slot-requires : goal.slot-requires
slot-requires g c =
    let young = c.as_slice-young.result.now in let rank = c.rank_of-rank.result in let items = c.self.inside.young.items in
    let none : rank < length young → (get_or young rank zero_slot).behind ≢ c.args.index - rank = (elim c.else-rank-young.branch as (λ _. rank < length young → (get_or young rank zero_slot).behind ≢ c.args.index - rank) [
      | else-rank-young-via-then-rank-young+else-young-rank w ↦ λ lt e. w.if-young-rank.false e
      | else-rank-young-via-else-rank-young w ↦ λ lt e. absurd (omega (arith, lt, w.if-rank-young.false))
    ]) in
    older_within c.self.inside.raw c.self.inside.young.items c.self.invariant c.args.self.now c.self.view_is c.args.index rank (subst (λ ys. IsRank 0 c.args.index ys rank) c.as_slice-young.ensures.value c.rank_of-rank.ensures)
    (subst (λ ys. (y : YoungSlot) → slice_get ys rank ≡ Some y → y.behind + rank ≢ c.args.index) c.as_slice-young.ensures.value (other_there young c.args.index rank none)) c.requires

pub returns : goal.returns
returns g c =
    let young = c.as_slice-young.result.now in let rank = c.rank_of-rank.result in let items = c.self.inside.young.items in
    let none : rank < length young → (get_or young rank zero_slot).behind ≢ c.args.index - rank = (elim c.else-rank-young.branch as (λ _. rank < length young → (get_or young rank zero_slot).behind ≢ c.args.index - rank) [
      | else-rank-young-via-then-rank-young+else-young-rank w ↦ λ lt e. w.if-young-rank.false e
      | else-rank-young-via-else-rank-young w ↦ λ lt e. absurd (omega (arith, lt, w.if-rank-young.false))
    ]) in
    c.slot.ensures ∙ sym (slot_of_older c.self.inside.raw c.self.inside.young.items c.self.invariant c.args.self.now c.self.view_is c.args.index rank (subst (λ ys. IsRank 0 c.args.index ys rank) c.as_slice-young.ensures.value c.rank_of-rank.ensures)
    (subst (λ ys. (y : YoungSlot) → slice_get ys rank ≡ Some y → y.behind + rank ≢ c.args.index) c.as_slice-young.ensures.value (other_there young c.args.index rank none)))
