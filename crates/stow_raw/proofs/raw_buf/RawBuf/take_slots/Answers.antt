use Rattle.std.proofs.Common.{arith}
use Rattle.stow_raw.proofs.Blocks.{front_size, slots_size, capacity_is}
use Rattle.stow_raw.proofs.raw_buf.RawBuf.take_slots.Goals as goal

pub put_slots-requires : goal.put_slots-requires
put_slots-requires g c =
    let b = c.self.inside.block in let v = c.args.self.now in let h = c.self.invariant in let from = c.from.inside.block in
    (h, c.slot_row.ensures.0, omega (arith, c.requires, front_size b v h c.self.view_is, capacity_is b v h c.self.view_is, slots_size from c.args.from.now c.from.invariant c.from.view_is))
