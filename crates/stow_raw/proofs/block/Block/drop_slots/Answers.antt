use Rattle.std.proofs.Common.{refl}
use Rattle.stow_raw.proofs.Blocks.{IsSameBlock, slots_dropped}
use Rattle.stow_raw.proofs.block.Block.drop_slots.Goals as goal

pub returns : goal.returns
returns g c =
    let same : IsSameBlock c.args.self.now _ = record { capacity = refl; lease = refl; alloc = refl; place = refl } in
    slots_dropped c.args.self.now _ c.requires.0 same c.args.count c.requires.1 refl refl refl
