use Rattle.std.proofs.Common.{◌≡◌, ◌<◌, refl, map, ap, sym, ◌∙◌, subst, arith}
use Rattle.std.specs.List.{AllByRecursion}
use Rattle.stow_merge.specs.Pins.{pins_in}
use Rattle.stow_dropping.specs.StowNode.declared.shape.Shape.{Shape}
use Rattle.stow_tree_model.specs.TreeMessage.{TreeMessage, message_of}
use Rattle.stow_dropping.specs.StowTree.Putting.{CanReserve}
use Rattle.stow_dropping.specs.StowTree.TreeState.{tree_messages}
use Rattle.stow_tree_tests.proofs.Numbering.{bound_under, bound_after, can_remove_both, other_keys}
use Rattle.stow_tree_tests.proofs.tree.numbered.Numbered.remove_both.Goals as goal

pub reserve-requires : goal.reserve-requires
reserve-requires g c = record {
  can =
      subst (λ ms. CanReserve c.args.self.now.tree (map message_of ms)) (sym c.as_slice.ensures)
      (can_remove_both c.args.self.now.tree (message_of c.in-Some-Some.first) (message_of c.in-Some-Some.second) c.args.self.now.last
      c.args.self.now.below c.args.self.now.room
      (let made = ap (λ (m : TreeMessage). m.number) c.in-Some-Some.ensures.made in
      let most = c.in-Some-Some.first.is_numbered.1 in
      let next = c.saturating_add-number.ensures in
      omega (arith, made, most, next))
      (let made = ap (λ (m : TreeMessage). m.number) c.in-Some-Some.ensures'.made in
      let most = c.in-Some-Some.second.is_numbered.1 in
      let next = c.saturating_add-number.ensures in
      omega (arith, made, most, next))
      (ap (λ (m : TreeMessage). m.op) c.in-Some-Some.ensures.made)
      (ap (λ (m : TreeMessage). m.op) c.in-Some-Some.ensures'.made)
      (λ e. other_keys c.args.first.bytes.now c.args.second.bytes.now (sym c.is_same.ensures ∙ c.if-is_same.false)
      (sym (ap (λ (m : TreeMessage). m.key) c.in-Some-Some.ensures'.made) ∙ e ∙ ap (λ (m : TreeMessage). m.key) c.in-Some-Some.ensures.made))
      c.in-Some-Some.first.key.is_key.is_short
      c.in-Some-Some.second.key.is_key.is_short);
}

pub invariant_of-self : goal.invariant_of-self
invariant_of-self g c = record {
  below = bound_under (pins_in c.args.pins.now) (tree_messages c.args.self.now.tree) (tree_messages c.reserve.new.self) c.args.self.now.last c.reserve.ensures.agrees c.args.self.now.below;
  room = (let shape = ap (λ (s : Shape). s.buffer) c.reserve.ensures.shape in let room = c.args.self.now.room in omega (arith, shape, room));
}

pub invariant_of-self-2 : goal.invariant_of-self-2
invariant_of-self-2 g c = record {
  below = bound_after c.reserve.new.self c.put_all.new.self c.in-Some-Some.first.number (map message_of c.as_slice-2.result.now) c.args.self.now.last
      (subst (λ ms. AllByRecursion (λ (m : TreeMessage). m.number ≡ c.in-Some-Some.first.number) (map message_of ms)) (sym c.as_slice-2.ensures) (refl, (alike, tt)))
      c.put_all.ensures newer
      (bound_under (pins_in c.args.pins.now) (tree_messages c.args.self.now.tree) (tree_messages c.reserve.new.self) c.args.self.now.last c.reserve.ensures.agrees c.args.self.now.below);
  room = (let after = ap (λ (s : Shape). s.buffer) c.put_all.ensures.shape in let shape = ap (λ (s : Shape). s.buffer) c.reserve.ensures.shape in let room = c.args.self.now.room in omega (arith, after, shape, room));
}
  where
    newer : c.args.self.now.last < c.in-Some-Some.first.number
    newer =
        let made = ap (λ (m : TreeMessage). m.number) c.in-Some-Some.ensures.made in
        let most = c.in-Some-Some.first.is_numbered.1 in
        let next = c.saturating_add-number.ensures in
        omega (arith, made, most, next)

    alike : c.in-Some-Some.second.number ≡ c.in-Some-Some.first.number
    alike = ap (λ (m : TreeMessage). m.number) c.in-Some-Some.ensures'.made ∙ sym (ap (λ (m : TreeMessage). m.number) c.in-Some-Some.ensures.made)
