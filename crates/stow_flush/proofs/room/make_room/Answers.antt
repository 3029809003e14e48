use Rattle.stow_node.specs.StowMerge.Pins.{pins_in}
use Rattle.stow_node.specs.Subtree.{Subtree}
use Rattle.std.proofs.Common.{◌≡◌, ◌≤◌, sym, subst}
use Rattle.stow_flush.specs.Rooms.{RootStands}
use Rattle.stow_flush.proofs.Making.{squeezed_stands, stands_then, dropped_stands, dropped_few, dropped_block, room_made}
use Rattle.stow_node.proofs.Stepping.{ok_then}
use Rattle.stow_flush.proofs.room.make_room.Given as given
use Rattle.stow_flush.proofs.room.make_room.Goals as goal
use Rattle.stow_flush.proofs.room.make_room.Goals.{After-drop_superseded}

-- superseded messages may have been dropped
stands : (g : given.Over) (c : After-drop_superseded g) → RootStands (pins_in c.args.pins.now) c.args.root.now c.drop_superseded.new.self
stands g c = stands_then (pins_in c.args.pins.now) c.args.root.now c.makes_room.new.self c.drop_superseded.new.self (squeezed_stands (pins_in c.args.pins.now) c.args.root.now c.makes_room.new.self c.makes_room.ensures.same)
    (dropped_stands (pins_in c.args.pins.now) c.makes_room.new.self c.drop_superseded.new.self c.drop_superseded.ensures.dropped c.drop_superseded.ensures.means)

pub flush-requires-clause-short : goal.flush-requires-clause-short
flush-requires-clause-short g c = λ key. ((stands g (goal.at.flush-requires-clause-short g c).After-drop_superseded).means key).short (c.requires.short key)

pub returns-clause-stands : goal.returns-clause-stands
returns-clause-stands g c = stands_then (pins_in c.args.pins.now) c.args.root.now c.drop_superseded.new.self c.flush.new.root (stands g (goal.at.returns-clause-stands g c).After-drop_superseded) c.flush.ensures.stands

pub flush-requires-clause-few : goal.flush-requires-clause-few
flush-requires-clause-few g c = dropped_few (pins_in c.args.pins.now) c.makes_room.new.self c.drop_superseded.new.self c.drop_superseded.ensures.dropped (subst (λ (t : Subtree). t.width ≤ t.shape.fan_out) (sym c.makes_room.ensures.same.is) c.requires.few)

pub returns-clause-made : goal.returns-clause-made
returns-clause-made g c = ok_then c.flush.result (λ m. room_made g.row.A.Denot c.args.bytes (pins_in c.args.pins.now) c.args.root.now c.makes_room.new.self c.drop_superseded.new.self c.flush.new.root c.args.cache.now c.flush.new.cache c.makes_room.ensures.same (c.makes_room.ensures.full c.if-makes_room.false) c.drop_superseded.ensures.dropped m) c.flush.ensures.made

pub flush-requires-clause-block : goal.flush-requires-clause-block
flush-requires-clause-block g c = dropped_block (pins_in c.args.pins.now) c.makes_room.new.self c.drop_superseded.new.self c.drop_superseded.ensures.dropped (subst (λ (t : Subtree). t.buffer.capacity ≡ t.shape.buffer) (sym c.makes_room.ensures.same.is) c.requires.block)
