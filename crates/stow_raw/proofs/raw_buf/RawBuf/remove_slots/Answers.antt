use Rattle.std.proofs.Common.{◌≡◌, ◌+◌, ◌++◌, length, take, drop, ap, sym, ◌∙◌, arith, length-append, length-take, length-drop}
use Rattle.stow_raw.specs.Laid.{slots_of}
use Rattle.stow_raw.proofs.Blocks.{length-slots_of, front_size, slots_size, capacity_is}
use Rattle.stow_raw.proofs.raw_buf.RawBuf.remove_slots.Goals as goal

pub move_slots-requires : goal.move_slots-requires
move_slots-requires g c = let b = c.self.inside.block in let v = c.args.self.now in let h = c.self.invariant in let f = front_size b v h c.self.view_is in let s = slots_size b v h c.self.view_is in let n = capacity_is b v h c.self.view_is in
    (h, omega arith, omega arith)

pub drop_slots-requires : goal.drop_slots-requires
drop_slots-requires g c = let b = c.self.inside.block in let v = c.args.self.now in let h = c.self.invariant in let f = front_size b v h c.self.view_is in let s = slots_size b v h c.self.view_is in let n = capacity_is b v h c.self.view_is in
    let e = c.move_slots.new.self in let i = c.args.from in let k = c.args.count in let xs = slots_of b in
    let long : length xs ≡ b.slots = length-slots_of b in
    let now : e.slots ≡ length (take k xs ++ (take i xs ++ drop (k + i) xs)) = sym (length-slots_of e) ∙ ap length c.move_slots.ensures.3 in
    (c.move_slots.ensures.0, omega (arith, c.requires, length-append (take k xs) (take i xs ++ drop (k + i) xs), length-append (take i xs) (drop (k + i) xs), length-take k xs, length-take i xs, length-drop (k + i) xs))
