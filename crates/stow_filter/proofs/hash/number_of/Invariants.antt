use Rattle.std.proofs.Common.{◌≡◌, drop}
use Rattle.stow_filter.specs.Filter.{number_from}
use Rattle.stow_filter.proofs.hash.number_of.Given as goal

abbrev pub invariant-loop-i : goal.invariant-loop-i
invariant-loop-i l = number_from l.number (drop l.i l.bytes) ≡ number_from 0 l.bytes
