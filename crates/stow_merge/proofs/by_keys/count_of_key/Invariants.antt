use Rattle.std.proofs.Common.{◌≡◌, ℕ, ◌<◌, Some, map}
use Rattle.std.specs.Prelude.{slice_get}
use Rattle.stow_page.specs.StowTreeModel.TreeMessage.{TreeMessage, message_of}
use Rattle.stow_merge.proofs.by_keys.count_of_key.Given as goal

abbrev pub invariant-loop-i : goal.invariant-loop-i
invariant-loop-i l = (k : ℕ) (m : TreeMessage) → k < l.i → slice_get (map message_of l.batch) k ≡ Some m → m.key ≡ l.key.bytes.now
