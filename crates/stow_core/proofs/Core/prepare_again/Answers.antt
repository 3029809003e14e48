use Rattle.stow_core.proofs.Kept.{kept_sound}
use Rattle.stow_core.proofs.Later.{prepared_refused, prepared_then, tenant_then}
use Rattle.stow_core.proofs.Core.prepare_again.Goals as goal

pub returns-then-not-makes_way : goal.returns-then-not-makes_way
returns-then-not-makes_way g c = prepared_refused _ _ c.args.tenant _ c.makes_way.ensures.keeps

pub returns-then-not-is_ready : goal.returns-then-not-is_ready
returns-then-not-is_ready g c = prepared_then _ _ _ c.args.tenant _ _ c.makes_way.ensures.keeps (prepared_refused _ _ c.args.tenant _ c.is_ready.ensures.keeps)

pub prepare_once-requires-clause-is_tenant : goal.prepare_once-requires-clause-is_tenant
prepare_once-requires-clause-is_tenant g c = tenant_then _ _ c.args.tenant c.is_ready.ensures.keeps (tenant_then _ _ c.args.tenant c.makes_way.ensures.keeps c.requires.is_tenant)

pub prepare_once-requires-clause-sound : goal.prepare_once-requires-clause-sound
prepare_once-requires-clause-sound g c = kept_sound _ _ c.is_ready.ensures.keeps

pub returns : goal.returns
returns g c = prepared_then _ _ _ c.args.tenant _ _ c.makes_way.ensures.keeps (prepared_then _ _ _ c.args.tenant _ _ c.is_ready.ensures.keeps c.prepare_once.ensures.prepared)
