use Rattle.std.proofs.Common.{rules, ◌≡◌, false, sym, ◌∙◌}
use Rattle.std.proofs.Math.Bool.{false≢true}
use Rattle.std.specs.Prelude.{is_ok}
use Rattle.stow_commands.specs.Commands.{command_of}
use Rattle.stow_core.proofs.Kept.{kept_sound}
use Rattle.stow_core.proofs.ReadOnly.{ping_reads, read_is_no_growth}
use Rattle.stow_core.proofs.Later.{prepared_then, tenant_then}
use Rattle.stow_core.proofs.Core.prepare_command.Goals as goal

pub prepare_again-requires-clause-is_tenant : goal.prepare_again-requires-clause-is_tenant
prepare_again-requires-clause-is_tenant g c = tenant_then _ _ c.args.tenant c.is_ready.ensures.keeps c.requires.is_tenant

pub prepare_again-requires-clause-sound : goal.prepare_again-requires-clause-sound
prepare_again-requires-clause-sound g c = kept_sound _ _ c.is_ready.ensures.keeps

pub returns-then-not-is_ready-clause-prepared : goal.returns-then-not-is_ready-clause-prepared
returns-then-not-is_ready-clause-prepared g c = prepared_then _ _ _ c.args.tenant _ _ c.is_ready.ensures.keeps c.prepare_again.ensures

pub prepare_once-prepared-requires-clause-is_tenant : goal.prepare_once-prepared-requires-clause-is_tenant
prepare_once-prepared-requires-clause-is_tenant g c = tenant_then _ _ c.args.tenant c.is_ready.ensures.keeps c.requires.is_tenant

pub prepare_once-prepared-requires-clause-sound : goal.prepare_once-prepared-requires-clause-sound
prepare_once-prepared-requires-clause-sound g c = kept_sound _ _ c.is_ready.ensures.keeps

pub returns-then-is_ok-clause-prepared : goal.returns-then-is_ok-clause-prepared
returns-then-is_ok-clause-prepared g c = prepared_then _ _ _ c.args.tenant _ _ c.is_ready.ensures.keeps c.prepare_once-prepared.ensures.prepared

pub prepare_again-requires-2-clause-is_tenant : goal.prepare_again-requires-2-clause-is_tenant
prepare_again-requires-2-clause-is_tenant g c = tenant_then _ _ c.args.tenant c.prepare_once-prepared.ensures.prepared.keeps (tenant_then _ _ c.args.tenant c.is_ready.ensures.keeps c.requires.is_tenant)

pub prepare_again-requires-2-clause-sound : goal.prepare_again-requires-2-clause-sound
prepare_again-requires-2-clause-sound g c = kept_sound _ _ c.prepare_once-prepared.ensures.prepared.keeps

pub returns-clause-prepared : goal.returns-clause-prepared
returns-clause-prepared g c = prepared_then _ _ _ c.args.tenant _ _ c.is_ready.ensures.keeps (prepared_then _ _ _ c.args.tenant _ _ c.prepare_once-prepared.ensures.prepared.keeps c.prepare_again-2.ensures)

pub returns-then-not-is_ready-clause-needless : goal.returns-then-not-is_ready-clause-needless
returns-then-not-is_ready-clause-needless g c = λ ping.
    let refused : c.is_ready.result ≡ false = search rules in
    let read = ping_reads (command_of c.args.command) c.kind_of.result c.kind_of.ensures.kind ping in
    absurd (false≢true (sym refused ∙ c.is_ready.ensures.ready (read_is_no_growth c.kind_of.result read)))

pub returns-clause-needless : goal.returns-clause-needless
returns-clause-needless g c = λ ping.
    let refused : is_ok c.prepare_once-prepared.result ≡ false = search rules in
    absurd (false≢true (sym refused ∙ c.prepare_once-prepared.ensures.needless ping))
