use Rattle.std.proofs.Common.{◌∷◌, [], subst, arith}
use Rattle.std.proofs.lemmas.List.Sums.{sum_by-cons}
use Rattle.stow_flush.specs.Rooms.{RootStands}
use Rattle.stow_flush.proofs.Making.{stands_then}
use Rattle.stow_flush.specs.StowLeaves.Forgets.{Forgets}
use Rattle.stow_flush.specs.StowMerge.Pins.{pins_in}
use Rattle.stow_flush.specs.StowMessage.Packed.{message_size}
use Rattle.stow_flush.specs.StowNode.Superseded.{MayLoseHidden}
use Rattle.stow_tree_model.specs.TreeMessage.{message_of}
use Rattle.stow_tree.proofs.Lost.{may_lose, keeps_place, lost_stands, KeepsPlace}
use Rattle.stow_tree.proofs.Made.{room_kept, room_reserved, room_agrees}
use Rattle.stow_tree.proofs.tree.Tree.reserve_near.Given as given
use Rattle.stow_tree.proofs.tree.Tree.reserve_near.Goals as goal
use Rattle.stow_tree.proofs.tree.Tree.reserve_near.Goals.{After-drop_hidden}

lost : (g : given.Over) (c : After-drop_hidden g) → MayLoseHidden (pins_in c.args.pins.now) c.self.inside.root c.drop_hidden.new.self
lost g c = may_lose (pins_in c.args.pins.now) c.self.inside.root c.drop_hidden.new.self c.drop_hidden.result c.drop_hidden.ensures.dropped c.drop_hidden.ensures.none

stands : (g : given.Over) (c : After-drop_hidden g) → RootStands (pins_in c.args.pins.now) c.self.inside.root c.drop_hidden.new.self
stands g c = lost_stands (pins_in c.args.pins.now) c.self.inside.root c.drop_hidden.new.self (lost g c) c.drop_hidden.ensures.means

place : (g : given.Over) (c : After-drop_hidden g) → KeepsPlace c.self.inside.root c.drop_hidden.new.self
place g c = keeps_place (pins_in c.args.pins.now) c.self.inside.root c.drop_hidden.new.self (lost g c)

pub make_room-requires-clause-short : goal.make_room-requires-clause-short
make_room-requires-clause-short g c = λ key. ((stands g (goal.at.make_room-requires-clause-short g c).After-drop_hidden).means key).short (c.self.invariant.short key)

pub invariant_of-self : goal.invariant_of-self
invariant_of-self g c =
    let k = place g (goal.at.invariant_of-self g c).After-drop_hidden in
    room_kept c.self.inside (record { root = c.make_room.new.root; spare = c.make_room.new.spare; cache = c.make_room.new.cache }) (pins_in c.args.pins.now) c.self.invariant (stands_then (pins_in c.args.pins.now) c.self.inside.root c.drop_hidden.new.self c.make_room.new.root (stands g (goal.at.invariant_of-self g c).After-drop_hidden) c.make_room.ensures.stands)
    (subst (λ ls. Forgets ls c.make_room.new.root.leaves c.self.inside.cache c.make_room.new.cache) k.leaves c.make_room.ensures.cache) c.make_room.ensures.spare c.make_room.ensures.few

pub returns-clause-reserved : goal.returns-clause-reserved
returns-clause-reserved g c = room_reserved c.make_room.result c.args.self.now c.self.inside (record { root = c.make_room.new.root; spare = c.make_room.new.spare; cache = c.make_room.new.cache }) (pins_in c.args.pins.now) c.size.result (message_of c.args.message ∷ []) c.self.view_is c.requires.can (omega (arith, c.size.ensures, sum_by-cons message_size (message_of c.args.message) [])) (stands_then (pins_in c.args.pins.now) c.self.inside.root c.drop_hidden.new.self c.make_room.new.root (stands g (goal.at.returns-clause-reserved g c).After-drop_hidden) c.make_room.ensures.stands) c.make_room.ensures.room

pub returns-clause-agrees : goal.returns-clause-agrees
returns-clause-agrees g c = room_agrees c.args.self.now c.self.inside (record { root = c.make_room.new.root; spare = c.make_room.new.spare; cache = c.make_room.new.cache }) (pins_in c.args.pins.now) c.self.view_is (stands_then (pins_in c.args.pins.now) c.self.inside.root c.drop_hidden.new.self c.make_room.new.root (stands g (goal.at.returns-clause-agrees g c).After-drop_hidden) c.make_room.ensures.stands)
