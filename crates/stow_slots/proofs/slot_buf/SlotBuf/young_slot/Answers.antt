use Rattle.std.proofs.Common.{arith, length}
use Rattle.std.proofs.lemmas.Option.{slice_get_read}
use Rattle.stow_slots.proofs.Parts.{young_contained}
use Rattle.stow_slots.proofs.slot_buf.SlotBuf.young_slot.Goals as goal

pub returns-then-place-len : goal.returns-then-place-len
returns-then-place-len g c = let young = c.self.inside.young.items in
    young_contained c.self.inside.raw c.self.inside.young.items c.self.invariant c.args.self.now c.self.view_is c.args.place c.index.result.now (slice_get_read young (length young) c.args.place c.index.result.now (omega arith) (omega (arith, c.len.ensures, c.if-place-len.true)) c.index.ensures)
