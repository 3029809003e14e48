use Rattle.stow_core.proofs.Charges.{given_here, removed_charge, removed_within}
use Rattle.stow_core.proofs.Core.charge_without.Goals as goal

pub after_write-requires-clause-given : goal.after_write-requires-clause-given
after_write-requires-clause-given g c =
    given_here c.args.self.now c.args.tenant c.tenancy-tenancy.result.now c.tenancy-tenancy.ensures.own c.tenancy-tenancy.ensures.sound c.tenancy-tenancy.ensures.account c.args.so_far c.requires.within.given

pub returns-clause-within : goal.returns-clause-within
returns-clause-within g c =
    removed_within c.args.self.now c.args.tenant c.tenancy-tenancy.result.now c.tenancy-tenancy.ensures.own c.tenancy-tenancy.ensures.sound c.tenancy-tenancy.ensures.account c.args.key c.args.before c.pins.result.now c.args.so_far c.after_write.result
    c.requires.within c.after_write.ensures.given c.after_write.ensures.charge

pub returns-clause-charged : goal.returns-clause-charged
returns-clause-charged g c = λ keys own row is.
    removed_charge c.args.self.now c.args.tenant c.tenancy-tenancy.result.now c.tenancy-tenancy.ensures.own c.tenancy-tenancy.ensures.sound c.tenancy-tenancy.ensures.account keys own c.args.key c.args.before c.pins.result.now c.args.so_far c.after_write.result
    c.pins.ensures.members row is c.after_write.ensures.charge
