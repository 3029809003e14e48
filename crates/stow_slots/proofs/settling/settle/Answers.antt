use Rattle.std.proofs.Common.{sym, arith}
use Rattle.stow_slots.proofs.Parts.{nothing, settled_all}
use Rattle.stow_slots.proofs.settling.settle.Goals as goal

pub returns-else-len-gt0-clause-all : goal.returns-else-len-gt0-clause-all
returns-else-len-gt0-clause-all g c =
    sym (settled_all c.args.raw.now c.args.young.now.items (nothing c.args.young.now.items (omega (arith, c.len.ensures, c.if-len-gt0.false))))
