use Rattle.std.proofs.Common.{ℕ, ◌≡◌, ◌+◌, ◌-◌, ◌<◌, ◌≤◌, Some, length}
use Rattle.std.specs.Prelude.{slice_get}
use Rattle.stow_slots.specs.declared.young_slot.YoungSlot.{YoungSlot}
use Rattle.stow_slots.proofs.ranking.searched_rank.Given as goal

abbrev pub invariant-loop-low : goal.invariant-loop-low
invariant-loop-low l = record {
  within : (l.low ≤ l.high) × (l.high ≤ length l.young);
  before : (j : ℕ) (y : YoungSlot) → j < l.low → slice_get l.young j ≡ Some y → y.behind + j < l.index;
  after : (j : ℕ) (y : YoungSlot) → l.high ≤ j → slice_get l.young j ≡ Some y → l.index ≤ y.behind + j;
}

abbrev pub decreases-loop-low : goal.decreases-loop-low
decreases-loop-low l = l.high - l.low
