use Rattle.std.proofs.Common.{arith}
use Rattle.stow_slots.proofs.Parts.{count}
use Rattle.stow_slots.proofs.slot_buf.SlotBuf.slot_count.Goals as goal

pub returns : goal.returns
returns g c = omega (arith, c.slot_count.ensures, c.len.ensures, count c.self.inside.raw c.self.inside.young.items c.self.invariant c.args.self.now c.self.view_is)
