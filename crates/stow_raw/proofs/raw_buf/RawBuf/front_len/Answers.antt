use Rattle.stow_raw.proofs.Blocks.{front_size, slots_size, capacity_is}
use Rattle.stow_raw.proofs.raw_buf.RawBuf.front_len.Goals as goal

pub returns : goal.returns
returns g c = let b = c.self.inside.block in let v = c.args.self.now in let h = c.self.invariant in let f = front_size b v h c.self.view_is in let s = slots_size b v h c.self.view_is in let n = capacity_is b v h c.self.view_is in
    f
