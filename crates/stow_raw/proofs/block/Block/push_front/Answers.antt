use Rattle.std.proofs.Common.{refl, ap}
use Rattle.stow_raw.specs.declared.cells.Cells.{Cells}
use Rattle.stow_raw.proofs.Blocks.{IsSameBlock, front_pushed}
use Rattle.stow_raw.proofs.block.Block.push_front.Goals as goal

pub returns : goal.returns
returns g c =
    let same : IsSameBlock c.args.self.now _ = record { capacity = refl; lease = refl; alloc = refl; place = ap (λ (w : Cells). w.ptr) c.write_all.ensures } in
    front_pushed c.args.self.now _ c.requires.0 same c.args.bytes.now c.requires.1 refl refl (ap (λ (w : Cells). w.bytes) c.write_all.ensures)
