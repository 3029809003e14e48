use Rattle.std.proofs.Common.{map}
use Rattle.stow_tree_model.specs.Order.{version_place}
use Rattle.stow_tree_model.specs.Version.{version_of}
use Rattle.stow_tree_model.proofs.Rising.{StepsUp}
use Rattle.stow_tree_model.proofs.plain.rising.versions_rise.Given as goal

abbrev pub invariant-loop-i : goal.invariant-loop-i
invariant-loop-i l = StepsUp (map version_place (map version_of l.versions)) l.i
