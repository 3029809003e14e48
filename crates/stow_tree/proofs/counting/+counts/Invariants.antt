use Rattle.stow_tree.proofs.Counted.{IsCounting}
use Rattle.stow_tree.proofs.counting.+counts.Given as goal

abbrev pub invariant-loop-i : goal.invariant-loop-i
invariant-loop-i g l = IsCounting l.node l.children l.i l.counts

abbrev pub decreases-counts_of : goal.decreases-counts_of
decreases-counts_of g l = goal.size-counts_of g l
