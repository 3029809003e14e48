use Rattle.std.proofs.Common.{arith}
use Rattle.stow_slots.proofs.Parts.{used, capacity}
use Rattle.stow_slots.proofs.slot_buf.SlotBuf.room.Goals as goal

pub returns-clause-room : goal.returns-clause-room
returns-clause-room g c = omega (arith, c.room.ensures.exact, c.len.ensures, c.self.invariant.room, used c.self.inside.raw c.self.inside.young.items c.self.invariant c.args.self.now c.self.view_is, capacity c.self.inside.raw c.self.inside.young.items c.self.invariant c.args.self.now c.self.view_is)

pub returns-clause-exact : goal.returns-clause-exact
returns-clause-exact g c = omega (arith, c.room.ensures.exact, c.len.ensures, c.self.invariant.room, used c.self.inside.raw c.self.inside.young.items c.self.invariant c.args.self.now c.self.view_is, capacity c.self.inside.raw c.self.inside.young.items c.self.invariant c.args.self.now c.self.view_is)
