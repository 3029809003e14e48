use Rattle.std.proofs.Common.{length, refl, sym, subst, ap, ◌∙◌, arith}
use Rattle.stow_raw.specs.Cells.{written, IsWritten}
use Rattle.stow_raw.specs.Words.{words}
use Rattle.stow_raw.proofs.Blocks.{row_run, row_length}
use Rattle.stow_raw.proofs.block.Block.slot_row.Goals as goal

pub slice-requires : goal.slice-requires
slice-requires g c =
    let h = c.requires in let places = h.places in let within = h.within in
    (omega arith, subst IsWritten (sym (row_run c.args.self.now h _ refl)) h.slots)

pub returns : goal.returns
returns g c =
    let b = c.args.self.now in let h = c.requires in
    let row = c.slice.ensures ∙ ap written (row_run b h _ refl) in
    (ap length row ∙ row_length b h, ap (words b.slots) row)
