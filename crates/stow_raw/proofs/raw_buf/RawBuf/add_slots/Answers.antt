use Rattle.std.proofs.Common.{◌≡◌, ℕ, ◌++◌, length, ap, sym, ◌∙◌, arith, length-append}
use Rattle.std.proofs.Math.ListN.{replicate}
use Rattle.std.proofs.lemmas.List.{length-replicate}
use Rattle.stow_raw.proofs.Blocks.{length-front_of, length-slots_of}
use Rattle.stow_raw.proofs.raw_buf.RawBuf.add_slots.Goals as goal

pub add_slot-requires : goal.add_slot-requires
add_slot-requires g c =
    let b = c.loop.self-inside.block in let v = c.args.self.now in let at = c.loop.invariant in let k = c.loop.counter in
    let f : b.front ≡ length v.front = sym (length-front_of b at.laid) ∙ ap length at.front in
    let s : b.slots ≡ length (replicate k 0 ++ v.slots) = sym (length-slots_of b) ∙ ap length at.slots in
    (at.laid, omega (arith, c.requires, length-append (replicate k 0) v.slots, length-replicate {A = ℕ} k 0, at.capacity))
