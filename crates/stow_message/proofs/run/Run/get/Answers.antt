use Rattle.std.proofs.Common.{◌-◌, length, drop, ap, arith, length-take}
use Rattle.stow_message.proofs.run.Run.get.Goals as goal

pub overflow_add-self-inside : goal.overflow_add-self-inside
overflow_add-self-inside g c =
    let r = c.self.inside in let at = c.self.invariant in record { fits = omega (arith, c.requires, ap length c.self.view_is, length-take (r.to - r.from) (drop r.from r.buf.now.messages), at) }
