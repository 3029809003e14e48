use Rattle.std.proofs.Common.{Option, ap, refl, sym, subst}
use Rattle.std.specs.Prelude.{IfSome}
use Rattle.stow_core.specs.State.{CoreState, store_of}
use Rattle.stow_core.specs.Tenancies.{TenancyState, tenancy_at, versions_of}
use Rattle.stow_core.proofs.Answered.{error_prepared}
use Rattle.stow_core.proofs.Kept.{kept_sound, keeps_repinned, keeps_then}
use Rattle.stow_core.proofs.Shown.{takes_one}
use Rattle.stow_model.specs.Login.{IsTenant}
use Rattle.stow_versions.specs.VersionsState.{IsReady}
use Rattle.stow_core.proofs.Core.prepare_take.Goals as goal

pub returns-in_err-make_pin_room-in-Ok : goal.returns-in_err-make_pin_room-in-Ok
returns-in_err-make_pin_room-in-Ok g c =
    let old = c.args.self.now in
    let mid = c.make_snapshot_room.new.self in
    let new = c.make_pin_room.new.self in
    let kept = c.make_snapshot_room.ensures.keeps in
    error_prepared old new c.args.tenant _ c.from_residual.result c.from_residual.ensures.0 (keeps_then old mid new kept (keeps_repinned mid new new.pin_room (kept_sound old mid kept) c.make_pin_room.ensures.same))

pub returns-in_ok-make_pin_room-in-Ok : goal.returns-in_ok-make_pin_room-in-Ok
returns-in_ok-make_pin_room-in-Ok g c =
    let old = c.args.self.now in
    let t = c.args.tenant in
    let mid = c.make_snapshot_room.new.self in
    let new = c.make_pin_room.new.self in
    let kept = c.make_snapshot_room.ensures.keeps in
    let keeps = keeps_then old mid new kept (keeps_repinned mid new new.pin_room (kept_sound old mid kept) c.make_pin_room.ensures.same) in
    let ready = subst (λ (o : Option TenancyState). IfSome o (λ own. IsReady (versions_of own))) (sym (ap (λ (s : CoreState). tenancy_at t s.tenancies) c.make_pin_room.ensures.same)) c.in-Ok.ensures.ready in
    record {
      keeps = keeps;
      room = record {
        is_tenant = subst (λ entries. IsTenant entries t) (sym keeps.entries) c.requires.is_tenant;
        ready = ready;
        pin_room = c.in_ok-make_pin_room-in-Ok.ensures.room;
      };
      tenant_is = refl;
      answers = takes_one new t c.tenancy.result.now c.tenancy.ensures.own ready (store_of old t) c.next-id.result (keeps.stores t) c.next-id.ensures;
    }
