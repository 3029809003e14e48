use Rattle.std.proofs.Common.{refl}
use Rattle.stow_raw.proofs.Blocks.{made_empty}
use Rattle.stow_raw.proofs.block.Block.with_capacity.Goals as goal

pub returns : goal.returns
returns g c =
    let made = c.in_ok-cells.ensures in
    let laid = made_empty _ made.0 refl refl made.1 in
    (laid.0, refl, laid.1, laid.2)
