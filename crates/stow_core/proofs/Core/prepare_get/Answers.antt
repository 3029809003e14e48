use Rattle.std.proofs.Common.{ap, sym, ◌∙◌, w64}
use Rattle.std.proofs.lemmas.Int.{to_z-of_z}
use Rattle.stow_core.specs.State.{store_of, rows_in}
use Rattle.stow_core.proofs.Answered.{counts_prepared, if_ok, only_counted_prepared}
use Rattle.stow_core.proofs.Kept.{keeps_itself}
use Rattle.stow_core.proofs.Shown.{shows_none, shows_rows}
use Rattle.stow_model.specs.Reply.{reply_of}
use Rattle.stow_model.specs.Store.{get_reply, snapshot_rows}
use Rattle.stow_core.proofs.Core.prepare_get.Goals as goal

pub returns-in-None : goal.returns-in-None
returns-in-None g c =
    let core = c.args.self.now in
    let store = store_of core c.args.tenant in
    only_counted_prepared core core c.args.tenant _ _ c.no_such_snapshot.result c.no_such_snapshot.ensures (keeps_itself core c.requires.sound) c.requires.is_tenant
    (shows_none store c.args.id (get_reply c.args.key.now) (ap (snapshot_rows store) (sym (to_z-of_z w64 c.args.id c.ranges.id)) ∙ c.in-None.ensures))

pub returns-in-Some : goal.returns-in-Some
returns-in-Some g c =
    let core = c.args.self.now in
    let store = store_of core c.args.tenant in
    counts_prepared core core c.args.tenant _ c.value.result c.counted.result c.counted.ensures (keeps_itself core c.requires.sound) c.requires.is_tenant
    (if_ok c.value.result _ _ (λ r h.
    shows_rows store c.args.id (get_reply c.args.key.now) (rows_in core c.in-Some.snapshot.rows) (reply_of r) (ap (snapshot_rows store) (sym (to_z-of_z w64 c.args.id c.ranges.id)) ∙ c.in-Some.ensures.rows) h)
    c.value.ensures)
