use Rattle.std.proofs.Common.{refl}
use Rattle.stow_raw.proofs.Blocks.{IsSameBlock, emptied}
use Rattle.stow_raw.proofs.block.Block.reset.Goals as goal

pub returns : goal.returns
returns g c =
    let same : IsSameBlock c.args.self.now _ = record { capacity = refl; lease = refl; alloc = refl; place = refl } in
    emptied c.args.self.now _ c.requires same refl refl refl
