use Rattle.std.proofs.Common.{◌≡◌, suc, length, ap, sym, ◌∙◌, arith}
use Rattle.stow_raw.proofs.Blocks.{length-slots_of, front_size, slots_size, capacity_is}
use Rattle.stow_raw.proofs.raw_buf.RawBuf.insert_slot.Goals as goal

pub add_slot-requires : goal.add_slot-requires
add_slot-requires g c = let b = c.self.inside.block in let v = c.args.self.now in let h = c.self.invariant in let f = front_size b v h c.self.view_is in let s = slots_size b v h c.self.view_is in let n = capacity_is b v h c.self.view_is in
    (h, omega arith)

pub shift_in-requires : goal.shift_in-requires
shift_in-requires g c = let b = c.self.inside.block in let v = c.args.self.now in let h = c.self.invariant in let f = front_size b v h c.self.view_is in let s = slots_size b v h c.self.view_is in let n = capacity_is b v h c.self.view_is in
    let more : c.add_slot.new.self.slots ≡ suc b.slots = sym (length-slots_of c.add_slot.new.self) ∙ ap length c.add_slot.ensures.3 ∙ ap suc (length-slots_of b) in
    (c.add_slot.ensures.0, omega arith)
