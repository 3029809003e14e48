use Rattle.std.proofs.Common.{◌≡◌, List, [], ap, ◌∙◌, sym, subst, reverse, map}
use Rattle.std.proofs.lemmas.Result.{IfOk-weaker}
use Rattle.stow_tree_model.specs.Order.{MessagesRise}
use Rattle.stow_tree_model.specs.Merged.{merged_history, rows_set}
use Rattle.stow_tree_model.specs.Messages.{Messages, set_of, with_all, in_order}
use Rattle.stow_tree_model.specs.Pin.{pins_of}
use Rattle.stow_tree_model.specs.TreeMessage.{TreeMessage, message_of}
use Rattle.stow_tree_model.specs.Version.{version_of}
use Rattle.stow_tree_model.proofs.Readings.{rises_nothing, rises-in_order}
use Rattle.stow_tree_model.proofs.Zipped.{set_of-in_order}
use Rattle.stow_tree_model.proofs.plain.merging.merge.Goals as goal

pub with_messages-requires : goal.with_messages-requires
with_messages-requires g c = subst (λ xs. MessagesRise (map message_of xs)) (sym c.new.ensures.items) rises_nothing

pub with_messages-requires-2 : goal.with_messages-requires-2
with_messages-requires-2 g c = rises-in_order _ _ c.in_ok-sorted.ensures

pub prune-requires : goal.prune-requires
prune-requires g c = rises-in_order _ _ (ap (map message_of) c.as_slice-2.ensures.value ∙ c.in_ok-joined.ensures)

pub returns : goal.returns
returns g c =
    let rows = map version_of c.args.rows.now in
    let batch = map message_of c.args.batch.now in
    let sorted : set_of (map message_of c.in_ok-sorted.sorted.items) ≡ rows_set rows =
    ap set_of (c.in_ok-sorted.ensures
    ∙ ap (λ xs. in_order (with_all (set_of (map message_of xs)) (map message_of c.as_slice.result.now))) c.new.ensures.items
    ∙ ap (λ (ms : List TreeMessage). in_order (with_all (set_of []) ms)) (ap (map message_of) c.as_slice.ensures.value ∙ c.in_ok-row_messages.ensures))
    ∙ set_of-in_order (rows_set rows) in
    let joined : map message_of c.as_slice-2.result.now ≡ in_order (with_all (rows_set rows) batch) =
    ap (map message_of) c.as_slice-2.ensures.value ∙ c.in_ok-joined.ensures ∙ ap (λ (s : Messages). in_order (with_all s batch)) sorted in
    IfOk-weaker c.prune.result _ _ (λ vs e. e ∙ ap (λ (ms : List TreeMessage). reverse (merged_history (pins_of c.args.pins.now) (reverse ms))) joined) c.prune.ensures
