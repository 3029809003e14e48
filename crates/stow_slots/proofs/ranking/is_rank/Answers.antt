use Rattle.std.proofs.Common.{ℕ, ◌≡◌, ◌+◌, ◌-◌, ◌<◌, ◌≤◌, Some, length, get_or, arith, ap, sym, ◌∙◌}
use Rattle.std.specs.Prelude.{slice_get}
use Rattle.std.proofs.lemmas.Option.{slice_get-get_or, slice_get_within}
use mathlib.Core.Bool.{false≢true, not}
use Rattle.stow_slots.specs.declared.young_slot.YoungSlot.{YoungSlot}
use Rattle.stow_slots.proofs.Merged.{rank_found, all_before, all_after}
use Rattle.stow_slots.proofs.Parts.{zero_slot}
use Rattle.stow_slots.proofs.ranking.is_rank.Goals as goal
use Rattle.stow_slots.proofs.ranking.is_rank.Goals.{then-rank-eq0, else-rank-eq0, then-rank-young-2, else-rank-young-2}

pub returns-then-reaches : goal.returns-then-reaches
returns-then-reaches c =
    let young = c.args.young.now in let rank = c.args.rank in let index = c.args.index in
    let within : rank ≤ length young = omega (arith, c.if-rank-young.false) in
    let before : (j : ℕ) (y : YoungSlot) → j < rank → slice_get young j ≡ Some y → y.behind + j < index + 0 = (elim c.if-rank-eq0.branch as (λ _. (j : ℕ) (y : YoungSlot) → j < rank → slice_get young j ≡ Some y → y.behind + j < index + 0) [
      | then-rank-eq0 w ↦ λ j y lt at. absurd (omega (arith, lt, w.if-rank-eq0.true))
      | else-rank-eq0 w ↦ λ j y lt at.
          let some : rank - 1 < length young = omega (arith, w.if-rank-eq0.false, within) in
          let b = all_before young index (rank - 1) (get_or young (rank - 1) zero_slot) c.requires (slice_get-get_or young (rank - 1) zero_slot some) (w.is_before-reaches.ensures.0 (sym w.reaches-is ∙ c.if-reaches.true)) j y (omega (arith, lt)) at in omega (arith, b)
    ]) in
    λ ends. rank_found 0 index young rank c.requires within before
    (elim c.if-rank-young-2.branch as (λ _. (j : ℕ) (y : YoungSlot) → rank ≤ j → slice_get young j ≡ Some y → index + 0 ≤ y.behind + j) [
      | then-rank-young-2 w ↦ λ j y le at. absurd (omega (arith, le, w.if-rank-young-2.true, slice_get_within young j y at))
      | else-rank-young-2 w ↦ λ j y le at.
          let some : rank < length young = omega (arith, w.if-rank-young-2.false, within) in
          let a = all_after young index rank (get_or young rank zero_slot) c.requires (slice_get-get_or young rank zero_slot some) (λ below. false≢true (sym (w.ends-is ∙ ap not (w.is_before.ensures.1 below)) ∙ ends)) j y le at in omega (arith, a)
    ])
