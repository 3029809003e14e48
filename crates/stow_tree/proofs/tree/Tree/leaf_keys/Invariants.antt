use Rattle.std.proofs.Common.{◌-◌, length}
use Rattle.stow_tree.proofs.tree.Tree.leaf_keys.Given as goal

abbrev pub decreases-loop-first : goal.decreases-loop-first
decreases-loop-first g l = length l.rows - l.first
