use Rattle.std.proofs.Common.{◌≡◌, ◌≤◌, drop, length}
use Rattle.stow_read.specs.Way.{key_in, least_of}
use Rattle.stow_read.proofs.way.least.Given as goal

abbrev pub invariant-loop-at : goal.invariant-loop-at
invariant-loop-at g l = record {
  within : l.at ≤ length l.levels;
  so_far : key_in l.least ≡ least_of (drop l.at l.levels) (key_in l.next_row);
}

abbrev pub decreases-loop-at : goal.decreases-loop-at
decreases-loop-at g l = l.at
