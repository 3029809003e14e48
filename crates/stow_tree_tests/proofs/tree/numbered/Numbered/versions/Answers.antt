use Rattle.stow_tree_tests.proofs.Numbering.{bound_stays, room_stays}
use Rattle.stow_tree_tests.proofs.tree.numbered.Numbered.versions.Goals as goal

pub invariant_of-self : goal.invariant_of-self
invariant_of-self g c = record {
  below = bound_stays c.args.self.now.tree c.versions.new.self c.args.self.now.last c.versions.ensures.same.root c.args.self.now.below;
  room = room_stays c.args.self.now.tree c.versions.new.self c.versions.ensures.same.root c.args.self.now.room;
}
