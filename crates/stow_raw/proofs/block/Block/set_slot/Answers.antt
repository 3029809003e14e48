use Rattle.std.proofs.Common.{◌^◌, ◌<◌, refl, ap, ◌∙◌, arith}
use Rattle.stow_raw.specs.Cells.{written}
use Rattle.stow_raw.specs.Laid.{slot_cells}
use Rattle.stow_raw.specs.declared.cells.Cells.{Cells}
use Rattle.stow_raw.proofs.Blocks.{IsSameBlock, row_becomes, row_length, word_set, length-set_row}
use Rattle.stow_raw.proofs.block.Block.set_slot.Goals as goal

pub set_in-requires : goal.set_in-requires
set_in-requires g c =
    let h = c.requires.0 in let within = h.within in let places = h.places in
    (omega arith, h.slots, omega (arith, c.requires.1))

pub returns : goal.returns
returns g c =
    let b = c.args.self.now in let h = c.requires.0 in let row = written (slot_cells b) in
    let low : c.args.slot < 2 ^ 32 = let fits = c.ranges.slot in omega arith in
    let same : IsSameBlock b _ = record { capacity = refl; lease = refl; alloc = refl; place = ap (λ (w : Cells). w.ptr) c.set_in.ensures } in
    let long = row_length b h in
    let made = row_becomes b _ h same _ _ refl refl refl (length-set_row b.slots row long c.args.index c.args.slot c.requires.1) (ap (λ (w : Cells). w.bytes) c.set_in.ensures) in
    (made.0, made.1, made.2, made.3 ∙ word_set b.slots row long c.args.index c.args.slot c.requires.1 low)
