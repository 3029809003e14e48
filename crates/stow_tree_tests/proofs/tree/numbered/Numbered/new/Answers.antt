use Rattle.std.proofs.Common.{ap, arith}
use Rattle.stow_dropping.specs.StowTree.TreeState.{TreeState}
use Rattle.stow_tree_tests.proofs.Numbering.{bound_of_none}
use Rattle.stow_tree_tests.proofs.tree.numbered.Numbered.new.Goals as goal

pub invariant_of-result : goal.invariant_of-result
invariant_of-result g c = record {
  below = bound_of_none c.in-Ok.tree c.in-Ok.ensures.empty;
  room = (let made = ap (λ (t : TreeState). t.root.shape.buffer) c.in-Ok.ensures.made in let least = c.if-shape-lt-LEAST_BUFFER.false in omega (arith, made, least));
}
