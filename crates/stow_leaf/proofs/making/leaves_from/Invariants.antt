use Rattle.std.proofs.Common.{◌≡◌, map, take}
use Rattle.stow_leaf.specs.LeafRows.{leaf_rows}
use Rattle.stow_leaf.specs.Making.{leaves_from}
use Rattle.stow_leaf.proofs.making.leaves_from.Given as goal

abbrev pub invariant-loop-i : goal.invariant-loop-i
invariant-loop-i g l = map leaf_rows l.leaves.items ≡ leaves_from l.fn.low.bytes.now (take l.i l.pages)
