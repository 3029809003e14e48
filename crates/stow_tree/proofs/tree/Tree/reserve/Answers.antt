use Rattle.std.proofs.Common.{map, ap, arith}
use Rattle.stow_flush.specs.StowMerge.Pins.{pins_in}
use Rattle.stow_tree_model.specs.TreeMessage.{message_of}
use Rattle.stow_tree.specs.TreeState.{TreeState}
use Rattle.stow_tree.proofs.Made.{room_kept, room_reserved, room_agrees}
use Rattle.stow_tree.proofs.tree.Tree.reserve.Goals as goal

pub total-requires : goal.total-requires
total-requires g c =
    let most = c.self.invariant.sizes.buffer.1 in
    let fit = c.requires.can.fit in
    let same = ap (λ (t : TreeState). t.root.shape.buffer) c.self.view_is in
    omega (arith, most, fit, same)

pub make_room-requires-clause-shape : goal.make_room-requires-clause-shape
make_room-requires-clause-shape g c = c.self.invariant.sizes.fan_out.0

pub make_room-requires-clause-spare : goal.make_room-requires-clause-spare
make_room-requires-clause-spare g c = c.self.invariant.block

pub make_room-requires-clause-block : goal.make_room-requires-clause-block
make_room-requires-clause-block g c = c.self.invariant.root_block

pub invariant_of-self : goal.invariant_of-self
invariant_of-self g c = room_kept c.self.inside (record { root = c.make_room.new.root; spare = c.make_room.new.spare; cache = c.make_room.new.cache }) (pins_in c.args.pins.now) c.self.invariant c.make_room.ensures.stands c.make_room.ensures.cache c.make_room.ensures.spare c.make_room.ensures.few

pub returns-clause-reserved : goal.returns-clause-reserved
returns-clause-reserved g c = room_reserved c.make_room.result c.args.self.now c.self.inside (record { root = c.make_room.new.root; spare = c.make_room.new.spare; cache = c.make_room.new.cache }) (pins_in c.args.pins.now) c.total.result (map message_of c.args.messages.now) c.self.view_is c.requires.can c.total.ensures c.make_room.ensures.stands c.make_room.ensures.room

pub returns-clause-agrees : goal.returns-clause-agrees
returns-clause-agrees g c = room_agrees c.args.self.now c.self.inside (record { root = c.make_room.new.root; spare = c.make_room.new.spare; cache = c.make_room.new.cache }) (pins_in c.args.pins.now) c.self.view_is c.make_room.ensures.stands

pub make_room-requires-clause-few : goal.make_room-requires-clause-few
make_room-requires-clause-few g c = c.self.invariant.few
