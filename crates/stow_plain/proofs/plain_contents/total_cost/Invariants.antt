use Rattle.std.proofs.Common.{◌≡◌, ◌+◌, ◌<◌, ◌^◌, ◌++◌, length}
use Rattle.std.specs.FinMap as map
use Rattle.stow_ledger.specs.Shown.{cost_of_all}
use Rattle.stow_plain.specs.Contents.{shown_in}
use Rattle.stow_plain.proofs.plain_contents.total_cost.Given as goal

abbrev pub invariant-loop-copy : goal.invariant-loop-copy
invariant-loop-copy g l = record {
  fits : l.total < 2 ^ 64;
  costs : l.total + cost_of_all (shown_in l.left) ≡ cost_of_all (map.entries l.rows ++ shown_in l.copies);
}

abbrev pub decreases-loop-copy : goal.decreases-loop-copy
decreases-loop-copy g l = length l.left
