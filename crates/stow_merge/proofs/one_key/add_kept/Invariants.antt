use Rattle.std.proofs.Common.{◌≡◌, ◌++◌, take}
use Rattle.stow_merge.specs.Writing.{versions_in}
use Rattle.stow_merge.proofs.one_key.add_kept.Given as goal

abbrev pub invariant-loop-i : goal.invariant-loop-i
invariant-loop-i g l = l.packed ≡ l.initial.packed ++ versions_in l.survey (take l.i l.kept)
