use Rattle.std.proofs.Common.{refl, ap, ◌∙◌, arith}
use Rattle.stow_raw.specs.Cells.{written}
use Rattle.stow_raw.specs.Laid.{slot_cells}
use Rattle.stow_raw.specs.declared.cells.Cells.{Cells}
use Rattle.stow_raw.proofs.Blocks.{IsSameBlock, row_becomes, row_length, words_moved, length-moved_row}
use Rattle.stow_raw.proofs.block.Block.move_slots.Goals as goal

pub move_in-requires : goal.move_in-requires
move_in-requires g c =
    let h = c.requires.0 in let within = h.within in let places = h.places in
    record {
      row = (omega arith, h.slots);
      within = (omega (arith, c.requires.1), omega (arith, c.requires.1));
    }

pub returns : goal.returns
returns g c =
    let b = c.args.self.now in let h = c.requires.0 in let row = written (slot_cells b) in
    let to = c.args.to in let from = c.args.from in let count = c.args.count in
    let same : IsSameBlock b _ = record { capacity = refl; lease = refl; alloc = refl; place = ap (λ (w : Cells). w.ptr) c.move_in.ensures } in
    let long = row_length b h in
    let made = row_becomes b _ h same _ _ refl refl refl (length-moved_row b.slots row long to from count c.requires.1 c.requires.2) (ap (λ (w : Cells). w.bytes) c.move_in.ensures) in
    (made.0, made.1, made.2, made.3 ∙ words_moved b.slots row long to from count c.requires.1 c.requires.2)
