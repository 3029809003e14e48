use Rattle.std.proofs.Common.{◌≡◌, Some, take, map, reverse}
use Rattle.std.specs.Prelude.{slice_get}
use Rattle.stow_page.specs.StowTreeModel.Merged.{begins_with}
use Rattle.stow_page.specs.StowTreeModel.TreeMessage.{TreeMessage, message_of}
use Rattle.stow_page.proofs.StowTreeModel.Folds.{Folded}
use Rattle.stow_merge.specs.KeptVersion.{value_between, kept_version}
use Rattle.stow_merge.specs.Pins.{pins_in}
use Rattle.stow_merge.proofs.Pieces.{IsBehind}
use Rattle.stow_merge.proofs.keeping.keep.Given as goal

abbrev pub invariant-loop-i : goal.invariant-loop-i
invariant-loop-i g l = Folded (pins_in l.pins) (slice_get (map message_of l.joined) l.i) (reverse (take l.i (map message_of l.joined))) (value_between (map message_of l.joined) l.start l.i) l.has_older (map (kept_version (map message_of l.joined)) l.kept.items) × IsBehind l.start l.i × ((m : TreeMessage) → slice_get (map message_of l.joined) l.i ≡ Some m → l.follows ≡ begins_with m.key (reverse (take l.i (map message_of l.joined))))
