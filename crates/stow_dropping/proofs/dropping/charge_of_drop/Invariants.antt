use Rattle.std.proofs.Common.{◌+◌, []}
use Rattle.std.specs.FinMap as finite
use Rattle.stow_tree_model.specs.Keys.{packed}
use Rattle.stow_tree.specs.TreeState.{tree_messages}
use Rattle.stow_dropping.proofs.SoFar.{IsDropSoFar, count_left}
use Rattle.stow_dropping.proofs.dropping.charge_of_drop.Given as goal

abbrev pub invariant-loop-from : goal.invariant-loop-from
invariant-loop-from g l = IsDropSoFar g.row.A.Denot (tree_messages l.tree) (packed l.tenant []) (packed (l.tenant + 1) []) l.number l.account l.pins l.from l.after l.left

abbrev pub decreases-loop-from : goal.decreases-loop-from
decreases-loop-from g l = count_left (finite.entries (tree_messages l.tree)) l.from l.after
