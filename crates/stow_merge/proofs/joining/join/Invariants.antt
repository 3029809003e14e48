use Rattle.std.proofs.Common.{◌≡◌, ◌+◌, ◌-◌, ◌≤◌, ◌++◌, length, drop, map}
use Rattle.stow_page.specs.StowTreeModel.Merged.{row_message}
use Rattle.stow_page.specs.StowTreeModel.TreeMessage.{message_of}
use Rattle.stow_page.specs.StowTreeModel.Version.{version_of}
use Rattle.stow_page.specs.StowTreeModel.Zipped.{zipped}
use Rattle.stow_merge.proofs.joining.join.Given as goal

abbrev pub invariant-loop-i : goal.invariant-loop-i
invariant-loop-i g l = (l.i ≤ length l.rows) × (l.j ≤ length l.batch) × (map message_of l.joined.items ++ zipped (map row_message (map version_of (drop l.i l.rows))) (map message_of (drop l.j l.batch)) ≡ zipped (map row_message (map version_of l.rows)) (map message_of l.batch))

abbrev pub decreases-loop-i : goal.decreases-loop-i
decreases-loop-i g l = (length l.rows - l.i) + (length l.batch - l.j)
