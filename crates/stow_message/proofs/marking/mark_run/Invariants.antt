use Rattle.std.proofs.Common.{◌≡◌, ℕ, List, true, take}
use Rattle.stow_filter.specs.Filter.{may_have}
use Rattle.stow_message.specs.Filter.{Covers}
use Rattle.stow_message.proofs.marking.mark_run.Given as goal

abbrev pub invariant-loop-i : goal.invariant-loop-i
invariant-loop-i g l = record {
  covers : Covers l.filter (take l.i l.run);
  stay : (other : List ℕ) → may_have l.fn.filter other ≡ true → may_have l.filter other ≡ true;
}
