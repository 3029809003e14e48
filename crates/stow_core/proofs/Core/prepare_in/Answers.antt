use Rattle.std.proofs.Common.{Ok, map, pos, refl, subst, sym}
use Rattle.std.specs.FinMap as finite
use Rattle.stow_commands.specs.Commands.{command_of}
use Rattle.stow_commands.specs.declared.command.Command.TheVariants as command
use Rattle.stow_core.specs.Prepared.{IsPrepared, serves}
use Rattle.stow_core.specs.State.{store_of, row_at, rows_in}
use Rattle.stow_core.proofs.Answered.{command_prepared, only_counted_prepared}
use Rattle.stow_core.proofs.Kept.{keeps_itself}
use Rattle.stow_core.proofs.ReadOnly.{other_than_ping}
use Rattle.stow_model.specs.LentWords.{words_in}
use Rattle.stow_model.specs.Reply as reply
use Rattle.stow_model.specs.Store.{count_rows, counted, get_reply, id_items, item_or_null, length_or_zero, usage, usage_items}
use Rattle.stow_core.proofs.Core.prepare_in.Goals as goal

pub returns-in-Ping-clause-prepared : goal.returns-in-Ping-clause-prepared
returns-in-Ping-clause-prepared g c =
    let core = c.args.self.now in
    subst (λ k. IsPrepared core c.args.tenant (serves (command_of k)) core (Ok c.only_counted.result)) (sym c.in-Ping.is)
    (only_counted_prepared core core c.args.tenant _ _ c.only_counted.result c.only_counted.ensures (keeps_itself core c.requires.sound) c.requires.is_tenant refl)

pub returns-in-Echo-clause-prepared : goal.returns-in-Echo-clause-prepared
returns-in-Echo-clause-prepared g c =
    command_prepared c.args.self.now c.args.tenant c.args.command (command.Echo c.in-Echo.text) c.echo.result c.counted.result (reply.Bulk c.in-Echo.text.now) c.in-Echo.is c.counted.ensures c.requires.sound c.requires.is_tenant c.echo.ensures refl

pub returns-in-Get-clause-prepared : goal.returns-in-Get-clause-prepared
returns-in-Get-clause-prepared g c =
    let core = c.args.self.now in
    let store = store_of core c.args.tenant in
    let key = c.in-Get.key.now in
    command_prepared core c.args.tenant c.args.command (command.Get c.in-Get.key) c.value.result c.counted-in-Get.result (get_reply key (rows_in core c.present-rows.result)) c.in-Get.is c.counted-in-Get.ensures c.requires.sound c.requires.is_tenant c.value.ensures
    (λ i. (counted store, get_reply key (c.present-rows.ensures.rows i)))

pub returns-in-GetMany-clause-prepared : goal.returns-in-GetMany-clause-prepared
returns-in-GetMany-clause-prepared g c =
    let core = c.args.self.now in
    let store = store_of core c.args.tenant in
    let keys = words_in c.in-GetMany.keys in
    command_prepared core c.args.tenant c.args.command (command.GetMany c.in-GetMany.keys) c.values.result c.counted-in-GetMany.result (reply.Array (map (λ key. item_or_null (finite.get (rows_in core c.present-rows.result) key)) keys)) c.in-GetMany.is c.counted-in-GetMany.ensures
    c.requires.sound c.requires.is_tenant c.values.ensures
    (λ i. (counted store, reply.Array (map (λ key. item_or_null (finite.get (c.present-rows.ensures.rows i) key)) keys)))

pub returns-in-Exists-clause-prepared : goal.returns-in-Exists-clause-prepared
returns-in-Exists-clause-prepared g c =
    let core = c.args.self.now in
    let store = store_of core c.args.tenant in
    let keys = words_in c.in-Exists.keys in
    command_prepared core c.args.tenant c.args.command (command.Exists c.in-Exists.keys) c.count_rows.result c.counted-in-Exists.result (reply.Integer (pos (count_rows (rows_in core c.present-rows.result) keys))) c.in-Exists.is c.counted-in-Exists.ensures
    c.requires.sound c.requires.is_tenant c.count_rows.ensures
    (λ i. (counted store, reply.Integer (pos (count_rows (c.present-rows.ensures.rows i) keys))))

pub returns-in-Length-clause-prepared : goal.returns-in-Length-clause-prepared
returns-in-Length-clause-prepared g c =
    let core = c.args.self.now in
    let key = c.in-Length.key.now in
    command_prepared core c.args.tenant c.args.command (command.Length c.in-Length.key) c.value_length.result c.counted-in-Length.result (reply.Integer (pos (length_or_zero (row_at core c.args.tenant key)))) c.in-Length.is c.counted-in-Length.ensures
    c.requires.sound c.requires.is_tenant c.value_length.ensures refl

pub returns-in-ListSnapshots-clause-prepared : goal.returns-in-ListSnapshots-clause-prepared
returns-in-ListSnapshots-clause-prepared g c =
    command_prepared c.args.self.now c.args.tenant c.args.command command.ListSnapshots c.snapshot_ids.result c.counted-in-ListSnapshots.result (reply.Array (id_items (store_of c.args.self.now c.args.tenant))) c.in-ListSnapshots.is c.counted-in-ListSnapshots.ensures
    c.requires.sound c.requires.is_tenant c.snapshot_ids.ensures refl

pub returns-in-ReportUsage-clause-prepared : goal.returns-in-ReportUsage-clause-prepared
returns-in-ReportUsage-clause-prepared g c =
    command_prepared c.args.self.now c.args.tenant c.args.command command.ReportUsage c.usage_reply.result c.counted-in-ReportUsage.result (reply.Array (usage_items (usage (counted (store_of c.args.self.now c.args.tenant))))) c.in-ReportUsage.is c.counted-in-ReportUsage.ensures
    c.requires.sound c.requires.is_tenant c.usage_reply.ensures refl

pub returns-in-Echo-clause-needless : goal.returns-in-Echo-clause-needless
returns-in-Echo-clause-needless g c = other_than_ping _ _ c.in-Echo.is refl

pub returns-in-Get-clause-needless : goal.returns-in-Get-clause-needless
returns-in-Get-clause-needless g c = other_than_ping _ _ c.in-Get.is refl

pub returns-in-GetMany-clause-needless : goal.returns-in-GetMany-clause-needless
returns-in-GetMany-clause-needless g c = other_than_ping _ _ c.in-GetMany.is refl

pub returns-in-Exists-clause-needless : goal.returns-in-Exists-clause-needless
returns-in-Exists-clause-needless g c = other_than_ping _ _ c.in-Exists.is refl

pub returns-in-Length-clause-needless : goal.returns-in-Length-clause-needless
returns-in-Length-clause-needless g c = other_than_ping _ _ c.in-Length.is refl

pub returns-in-Range-clause-needless : goal.returns-in-Range-clause-needless
returns-in-Range-clause-needless g c = other_than_ping _ _ c.in-Range.is refl

pub returns-in-Del-clause-needless : goal.returns-in-Del-clause-needless
returns-in-Del-clause-needless g c = other_than_ping _ _ c.in-Del.is refl

pub returns-in-TakeSnapshot-clause-needless : goal.returns-in-TakeSnapshot-clause-needless
returns-in-TakeSnapshot-clause-needless g c = other_than_ping _ _ c.in-TakeSnapshot.is refl

pub returns-in-ListSnapshots-clause-needless : goal.returns-in-ListSnapshots-clause-needless
returns-in-ListSnapshots-clause-needless g c = other_than_ping _ _ c.in-ListSnapshots.is refl

pub returns-in-DropSnapshot-clause-needless : goal.returns-in-DropSnapshot-clause-needless
returns-in-DropSnapshot-clause-needless g c = other_than_ping _ _ c.in-DropSnapshot.is refl

pub returns-in-GetInSnapshot-clause-needless : goal.returns-in-GetInSnapshot-clause-needless
returns-in-GetInSnapshot-clause-needless g c = other_than_ping _ _ c.in-GetInSnapshot.is refl

pub returns-in-RangeInSnapshot-clause-needless : goal.returns-in-RangeInSnapshot-clause-needless
returns-in-RangeInSnapshot-clause-needless g c = other_than_ping _ _ c.in-RangeInSnapshot.is refl

pub returns-in-ReportUsage-clause-needless : goal.returns-in-ReportUsage-clause-needless
returns-in-ReportUsage-clause-needless g c = other_than_ping _ _ c.in-ReportUsage.is refl

pub returns-in-Change-clause-needless : goal.returns-in-Change-clause-needless
returns-in-Change-clause-needless g c = other_than_ping _ _ c.in-Change.is refl
