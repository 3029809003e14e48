use Rattle.std.proofs.Common.{◌≡◌, ◌+◌, ◌^◌, ◌<◌, drop, length}
use Rattle.std.specs.Prelude.{sum_by}
use Rattle.stow_read.specs.Suffixes.{bytes_lent}
use Rattle.stow_read.proofs.suffixes.Suffixes.size.Given as goal

abbrev pub invariant-loop-i : goal.invariant-loop-i
invariant-loop-i g l = sum_by length (bytes_lent l.self.suffixes.items) < 2 ^ 64 → l.size + sum_by length (drop l.i (bytes_lent l.self.suffixes.items)) ≡ sum_by length (bytes_lent l.self.suffixes.items)
