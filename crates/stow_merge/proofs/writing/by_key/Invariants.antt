use Rattle.std.proofs.Common.{◌-◌, ◌≤◌, List, ◌++◌, length, map, drop}
use Rattle.stow_merge.specs.Writing.{AreRuns}
use Rattle.stow_merge.specs.declared.kept_version.KeptVersion as coded
use Rattle.stow_merge.proofs.writing.by_key.Given as goal

abbrev pub invariant-loop-at : goal.invariant-loop-at
invariant-loop-at g l = (l.at ≤ length l.kept) × ((later : List (List coded.KeptVersion)) → AreRuns (drop l.at l.kept) later → AreRuns l.kept (map (λ key. key.now) l.keys.items ++ later))

abbrev pub decreases-loop-at : goal.decreases-loop-at
decreases-loop-at g l = length l.kept - l.at
