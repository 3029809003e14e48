use Rattle.std.proofs.Common.{map, take}
use Rattle.stow_page.specs.Format.{format_of}
use Rattle.stow_merge.specs.Parts.{alone}
use Rattle.stow_merge.specs.Writing.{AreSizes}
use Rattle.stow_merge.proofs.parts.entry_sizes.Given as goal

abbrev pub invariant-loop-i : goal.invariant-loop-i
invariant-loop-i g l = AreSizes (format_of l.block) (map alone (take l.i l.block)) l.sizes.items
