use Rattle.std.proofs.Common.{◌≡◌, take}
use Rattle.std.specs.List.{AllByRecursion}
use Rattle.stow_merge.specs.declared.kept_version.KeptVersion as coded
use Rattle.stow_merge.proofs.writing.run_length.Given as goal

abbrev pub invariant-loop-i : goal.invariant-loop-i
invariant-loop-i l = AllByRecursion (λ (k : coded.KeptVersion). k.key.bytes.now ≡ l.key.bytes.now) (take l.i l.kept)
