use Rattle.stow_core.proofs.Charges.{present_within, priced_in, written_charge}
use Rattle.stow_core.proofs.Core.charge_of_write.Goals as goal

pub after_write-requires-clause-rows_within : goal.after_write-requires-clause-rows_within
after_write-requires-clause-rows_within g c =
    (present_within c.args.self.now c.args.tenant c.tenancy-tenancy.result.now c.tenancy-tenancy.ensures.own c.tenancy-tenancy.ensures.sound c.tenancy-tenancy.ensures.account c.present.result c.present.ensures.present c.present.ensures.within c.present.ensures.given).rows_within

pub returns : goal.returns
returns g c = λ key op changed.
    let core = c.args.self.now in
    let t = c.args.tenant in
    let x = c.tenancy-tenancy.result.now in
    let is = c.tenancy-tenancy.ensures in
    priced_in core t x is.own is.sound is.account _ c.after_write.result
    (written_charge core t x is.own is.sound is.account key op c.args.change.now c.pins.result.now c.present.result c.after_write.result c.pins.ensures.members c.present.ensures.present changed c.after_write.ensures.charge)
    c.after_write.ensures.given
