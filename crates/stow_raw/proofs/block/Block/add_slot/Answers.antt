use Rattle.std.proofs.Common.{refl, ap}
use Rattle.stow_raw.specs.declared.cells.Cells.{Cells}
use Rattle.stow_raw.proofs.Blocks.{IsSameBlock, slot_added}
use Rattle.stow_raw.proofs.block.Block.add_slot.Goals as goal

pub returns : goal.returns
returns g c =
    let same : IsSameBlock c.args.self.now _ = record { capacity = refl; lease = refl; alloc = refl; place = ap (λ (w : Cells). w.ptr) c.write_all.ensures } in
    slot_added c.args.self.now _ c.requires.0 same _ c.requires.1 refl refl refl (ap (λ (w : Cells). w.bytes) c.write_all.ensures)
