use Rattle.std.proofs.Common.{◌≡◌, ◌<◌, [], ◌∷◌, refl, ap, arith}
use Rattle.stow_merge.specs.Pins.{pins_in}
use Rattle.stow_dropping.specs.StowNode.declared.shape.Shape.{Shape}
use Rattle.stow_tree_model.specs.TreeMessage.{TreeMessage, message_of}
use Rattle.stow_dropping.specs.StowTree.TreeState.{tree_messages}
use Rattle.stow_tree_tests.proofs.Numbering.{bound_under, bound_after}
use Rattle.stow_tree_tests.proofs.tree.numbered.Numbered.put.Goals as goal

pub invariant_of-self : goal.invariant_of-self
invariant_of-self g c = record {
  below = bound_under (pins_in c.args.pins.now) (tree_messages c.args.self.now.tree) (tree_messages c.reserve_near.new.self) c.args.self.now.last c.reserve_near.ensures.agrees c.args.self.now.below;
  room = (let shape = ap (λ (s : Shape). s.buffer) c.reserve_near.ensures.shape in let room = c.args.self.now.room in omega (arith, shape, room));
}

pub invariant_of-self-2 : goal.invariant_of-self-2
invariant_of-self-2 g c = record {
  below = bound_after c.reserve_near.new.self c.put_near.new.self c.in-Some.made.number (message_of c.in-Some.made ∷ []) c.args.self.now.last (refl, tt) c.put_near.ensures newer
      (bound_under (pins_in c.args.pins.now) (tree_messages c.args.self.now.tree) (tree_messages c.reserve_near.new.self) c.args.self.now.last c.reserve_near.ensures.agrees c.args.self.now.below);
  room = (let after = ap (λ (s : Shape). s.buffer) c.put_near.ensures.shape in let shape = ap (λ (s : Shape). s.buffer) c.reserve_near.ensures.shape in let room = c.args.self.now.room in omega (arith, after, shape, room));
}
  where
    newer : c.args.self.now.last < c.in-Some.made.number
    newer =
        let made = ap (λ (m : TreeMessage). m.number) c.in-Some.ensures.made in
        let most = c.in-Some.made.is_numbered.1 in
        let next = c.saturating_add.ensures in
        omega (arith, made, most, next)
