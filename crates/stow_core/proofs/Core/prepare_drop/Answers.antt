use Rattle.std.proofs.Common.{ap, sym, ◌∙◌, subst, w64, refl}
use Rattle.std.proofs.lemmas.Int.{to_z-of_z}
use Rattle.std.specs.Prelude.{IsSome}
use Rattle.stow_core.specs.Prepared.{IsCharged, after_drop}
use Rattle.stow_core.specs.State.{store_of, rows_in}
use Rattle.stow_core.proofs.Answered.{error_prepared, only_counted_prepared}
use Rattle.stow_core.proofs.Kept.{keeps_itself}
use Rattle.stow_core.proofs.Shown.{drops_none, drops_one}
use Rattle.stow_model.specs.Store.{snapshot_rows}
use Rattle.stow_core.proofs.Core.prepare_drop.Goals as goal

pub returns-in-None : goal.returns-in-None
returns-in-None g c =
    let core = c.args.self.now in
    let store = store_of core c.args.tenant in
    only_counted_prepared core core c.args.tenant _ _ c.no_such_snapshot.result c.no_such_snapshot.ensures (keeps_itself core c.requires.sound) c.requires.is_tenant
    (drops_none store c.args.id (ap (snapshot_rows store) (sym (to_z-of_z w64 c.args.id c.ranges.id)) ∙ c.in-None.ensures))

pub returns-in_err-charge-in-Some : goal.returns-in_err-charge-in-Some
returns-in_err-charge-in-Some g c = error_prepared c.args.self.now c.args.self.now c.args.tenant _ c.from_residual.result c.from_residual.ensures.0 (keeps_itself c.args.self.now c.requires.sound)

pub returns-in_ok-charge-in-Some : goal.returns-in_ok-charge-in-Some
returns-in_ok-charge-in-Some g c =
    let core = c.args.self.now in
    let t = c.args.tenant in
    let store = store_of core t in
    let snapshot = c.in-Some.snapshot in
    let id = sym (to_z-of_z w64 c.args.id c.ranges.id) ∙ c.in-Some.ensures.id_is in
    let some = ap (snapshot_rows store) (sym (to_z-of_z w64 c.args.id c.ranges.id)) ∙ c.in-Some.ensures.rows in
    record {
      keeps = keeps_itself core c.requires.sound;
      room = record {
        is_tenant = c.requires.is_tenant;
        live = subst IsSome (sym (ap (snapshot_rows store) (sym id) ∙ some)) refl;
        charged = subst (λ u. IsCharged core u c.in_ok-charge-in-Some.charge (after_drop snapshot.id (store_of core u))) c.in-Some.ensures.tenant_is c.in_ok-charge-in-Some.ensures;
      };
      tenant_is = refl;
      answers = drops_one store c.args.id snapshot.id (rows_in core snapshot.rows) id some;
    }
