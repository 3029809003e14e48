use Rattle.std.proofs.Common.{◌≡◌, drop}
use Rattle.std.specs.Ordering.{nat_cmp}
use Rattle.std.specs.FinMap.{find}
use Rattle.stow_plain.specs.Contents.{pairs_of}
use Rattle.stow_plain.proofs.plain_contents.copy_of.Given as goal

abbrev pub invariant-loop-copy : goal.invariant-loop-copy
invariant-loop-copy g l = find nat_cmp l.id (pairs_of (drop l.copy-index l.copies)) ≡ find nat_cmp l.id (pairs_of l.copies)
