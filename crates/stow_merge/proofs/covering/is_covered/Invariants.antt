use Rattle.std.proofs.Common.{ℕ, ◌<◌, ◌≤◌, ◌⊎◌, get_or}
use Rattle.std.specs.Prelude.{Contains}
use Rattle.stow_merge.proofs.covering.is_covered.Given as goal

abbrev pub invariant-loop-i : goal.invariant-loop-i
invariant-loop-i l = (k d : ℕ) → k < l.i → Contains l.used (get_or l.present k d) ⊎ l.number ≤ get_or l.present k d
