use Rattle.std.proofs.Common.{arith}
use Rattle.stow_raw.proofs.Blocks.{front_size, slots_size, capacity_is}
use Rattle.stow_raw.proofs.raw_buf.RawBuf.room.Goals as goal

pub returns-clause-room : goal.returns-clause-room
returns-clause-room g c =
    let b = c.self.inside.block in let v = c.args.self.now in let h = c.self.invariant in
    omega (arith, c.room.ensures, front_size b v h c.self.view_is, slots_size b v h c.self.view_is, capacity_is b v h c.self.view_is)

pub returns-clause-exact : goal.returns-clause-exact
returns-clause-exact g c =
    let b = c.self.inside.block in let v = c.args.self.now in let h = c.self.invariant in
    omega (arith, c.room.ensures, front_size b v h c.self.view_is, slots_size b v h c.self.view_is, capacity_is b v h c.self.view_is)
