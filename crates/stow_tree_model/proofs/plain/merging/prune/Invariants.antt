use Rattle.std.proofs.Common.{take, map, reverse}
use Rattle.std.specs.Prelude.{slice_get}
use Rattle.stow_tree_model.specs.Pin.{pins_of}
use Rattle.stow_tree_model.specs.TreeMessage.{message_of}
use Rattle.stow_tree_model.specs.VersionBuf.{version_of_buf}
use Rattle.stow_tree_model.proofs.Folds.{Folded}
use Rattle.stow_tree_model.proofs.plain.merging.prune.Given as goal

abbrev pub invariant-loop-i : goal.invariant-loop-i
invariant-loop-i g l = Folded (pins_of l.pins) (slice_get (map message_of l.joined) l.i) (reverse (take l.i (map message_of l.joined))) l.value l.has_older (map version_of_buf l.versions.items)
