use Rattle.std.proofs.Common.{ℕ, ◌<◌, get_or, map}
use Rattle.stow_message.specs.Rising.{IsNew}
use Rattle.stow_page.specs.StowTreeModel.Merged.{row_message}
use Rattle.stow_page.specs.StowTreeModel.TreeMessage.{TreeMessage}
use Rattle.stow_merge.proofs.fitting.are_new.Given as goal

abbrev pub invariant-loop-i : goal.invariant-loop-i
invariant-loop-i g l = (k : ℕ) (d : TreeMessage) → k < l.i → IsNew (get_or l.batch.messages k d) (map row_message l.rows)
