use Rattle.std.proofs.Common.{ap, arith}
use Rattle.stow_merge.specs.Pins.{pins_in}
use Rattle.stow_dropping.specs.StowNode.declared.shape.Shape.{Shape}
use Rattle.stow_dropping.specs.StowTree.TreeState.{tree_messages}
use Rattle.stow_tree_tests.proofs.Numbering.{bound_under}
use Rattle.stow_tree_tests.proofs.tree.numbered.Numbered.install.Goals as goal

pub invariant_of-self : goal.invariant_of-self
invariant_of-self g c = record {
  below = bound_under (pins_in c.args.pins.now) (tree_messages c.args.self.now.tree) (tree_messages c.install.new.self) c.args.self.now.last c.install.ensures.agrees c.args.self.now.below;
  room = (let shape = ap (λ (s : Shape). s.buffer) c.install.ensures.shape in let room = c.args.self.now.room in omega (arith, shape, room));
}
