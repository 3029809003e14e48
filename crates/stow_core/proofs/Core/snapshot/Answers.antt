use Rattle.std.proofs.Common.{ap, sym, ◌∙◌, subst, w64}
use Rattle.std.proofs.lemmas.Int.{to_z-of_z}
use Rattle.stow_model.specs.Store.{number_in}
use Rattle.stow_core.specs.State.{IsSnapshotOf}
use Rattle.stow_core.proofs.Live.{absent, live}
use Rattle.stow_core.proofs.Core.snapshot.Goals as goal

pub returns-in_err-number : goal.returns-in_err-number
returns-in_err-number g c = subst (IsSnapshotOf c.args.self.now c.args.tenant c.args.id) (sym c.from_residual-in_err-number.ensures)
    (absent c.args.self.now c.args.tenant c.tenancy.result.now c.tenancy.ensures.own c.args.id c.in_ok-id.id (sym c.in_ok-id.was ∙ c.number_in.ensures ∙ ap number_in (to_z-of_z w64 c.args.id c.ranges.id)) (sym c.number_of.ensures ∙ c.in_err-number.was))

pub returns : goal.returns
returns g c = live c.args.self.now c.args.tenant c.tenancy.result.now c.tenancy.ensures.own c.args.id c.in_ok-id.id c.in_ok-number.number (sym c.in_ok-id.was ∙ c.number_in.ensures ∙ ap number_in (to_z-of_z w64 c.args.id c.ranges.id)) (sym c.number_of.ensures ∙ c.in_ok-number.was)
