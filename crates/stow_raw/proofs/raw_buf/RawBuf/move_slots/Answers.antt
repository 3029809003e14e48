use Rattle.std.proofs.Common.{◌≡◌, ℕ, ◌+◌, ◌≤◌, List, ◌++◌, append_assoc, length, take, drop, ap, sym, ◌∙◌, arith, length-take}
use Rattle.std.proofs.Math.Seq.{take-append-add}
use Rattle.std.specs.List.{remove_range}
use Rattle.stow_raw.specs.Laid.{slots_of}
use Rattle.stow_raw.specs.RawBuf.{RawLists, raw_lists}
use Rattle.stow_raw.proofs.Blocks.{front_size, slots_size, capacity_is}
use Rattle.stow_raw.proofs.raw_buf.RawBuf.move_slots.Goals as goal

-- the slots in their new places, and those behind them
in_place : (xs : List ℕ) (t f c : ℕ) → t ≤ length xs → take t xs ++ (take c (drop f xs) ++ drop (t + c) xs) ≡ take (t + c) (remove_range xs t f) ++ drop (t + c) xs
in_place xs t f c le = let at : length (take t xs) + c ≡ t + c = omega (arith, length-take t xs, le) in
    sym (append_assoc (take t xs) (take c (drop f xs)) (drop (t + c) xs))
    ∙ ap (λ l. l ++ drop (t + c) xs) (sym (take-append-add (take t xs) (drop f xs) c) ∙ ap (λ k. take k (take t xs ++ drop f xs)) at)

pub move_slots-requires : goal.move_slots-requires
move_slots-requires g c = let b = c.self.inside.block in let v = c.args.self.now in let h = c.self.invariant in let f = front_size b v h c.self.view_is in let s = slots_size b v h c.self.view_is in let n = capacity_is b v h c.self.view_is in
    (h, omega (arith, c.requires, s), omega (arith, c.requires, s))

pub returns : goal.returns
returns g c = let b = c.self.inside.block in let xs = slots_of b in let to = c.args.to in let count = c.args.count in let now = c.move_slots.ensures in
    let le : to ≤ length xs = omega (arith, c.requires, ap (λ (r : RawLists). length r.slots) c.self.view_is) in
    (λ i. raw_lists (now.2 i) ((now.3 ∙ in_place xs to c.args.from count le) i) (now.1 i))
    ∙ ap (λ (r : RawLists). raw_lists r.front (take (to + count) (remove_range r.slots to c.args.from) ++ drop (to + count) r.slots) r.capacity) c.self.view_is
