use Rattle.std.proofs.Common.{◌≡◌, ◌++◌, drop, length}
use Rattle.std.specs.List.{AllByRecursion}
use Rattle.stow_merge.specs.Cuts.{ArePages}
use Rattle.stow_merge.specs.Parts.{parts_at}
use Rattle.stow_merge.specs.Writing.{CanPack}
use Rattle.stow_merge.proofs.parts.parts.Given as goal

abbrev pub invariant-loop-i : goal.invariant-loop-i
invariant-loop-i g l = record {
  are : l.pages.items ++ parts_at l.block l.from (drop l.i l.ends) ≡ parts_at l.block 0 l.ends;
  ends : ArePages l.sizes l.room l.from (drop l.i l.ends) (length l.sizes);
  pack : AllByRecursion CanPack (parts_at l.block l.from (drop l.i l.ends));
}
