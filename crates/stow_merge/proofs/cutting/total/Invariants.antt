use Rattle.std.proofs.Common.{◌≡◌, min}
use Rattle.stow_merge.specs.Cuts.{size_between}
use Rattle.stow_merge.proofs.cutting.total.Given as goal

abbrev pub invariant-loop-i : goal.invariant-loop-i
invariant-loop-i l = l.total ≡ min (size_between l.sizes 0 l.i) 18446744073709551615
