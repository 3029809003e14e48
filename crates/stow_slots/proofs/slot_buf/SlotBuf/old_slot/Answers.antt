use Rattle.stow_slots.proofs.Parts.{old_contained}
use Rattle.std.proofs.Common.{arith}
use Rattle.stow_slots.proofs.slot_buf.SlotBuf.old_slot.Goals as goal

pub returns-then-place-slot_count : goal.returns-then-place-slot_count
returns-then-place-slot_count g c = old_contained c.self.inside.raw c.self.inside.young.items c.self.invariant c.args.self.now c.self.view_is c.args.place (omega (arith, c.slot_count.ensures, c.if-place-slot_count.true)) c.slot.result c.slot.ensures
