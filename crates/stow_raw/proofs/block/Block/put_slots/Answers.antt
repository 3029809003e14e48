use Rattle.std.proofs.Common.{refl, ap}
use Rattle.stow_raw.specs.declared.cells.Cells.{Cells}
use Rattle.stow_raw.proofs.Blocks.{IsSameBlock, row_put}
use Rattle.stow_raw.proofs.block.Block.put_slots.Goals as goal

pub returns : goal.returns
returns g c =
    let same : IsSameBlock c.args.self.now _ = record { capacity = refl; lease = refl; alloc = refl; place = ap (λ (w : Cells). w.ptr) c.write_all.ensures } in
    row_put c.args.self.now _ c.requires.0 same c.args.row.now c.requires.2 refl c.requires.1 (ap (λ (w : Cells). w.bytes) c.write_all.ensures)
