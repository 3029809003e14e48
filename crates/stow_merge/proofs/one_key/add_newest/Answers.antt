use Rattle.std.proofs.Common.{◌≡◌, ◌∙◌, ◌++◌, IfOk, IsTrue, None, Some, map, ap, sym, subst}
use Rattle.std.proofs.lemmas.List.{append-nil}
use Rattle.stow_page.specs.StowTreeModel.Op.{op_of}
use Rattle.stow_page.specs.StowTreeModel.Operations.{bytes_or_none, outcome}
use Rattle.stow_page.specs.StowTreeModel.Order.{VersionsRise}
use Rattle.stow_page.specs.StowTreeModel.TreeMessage.{message_of}
use Rattle.stow_merge.specs.OneKey.{folded, left_by, rows_of, version_with}
use Rattle.stow_merge.proofs.OneKeyLemmas.{newest_makes}
use Rattle.stow_merge.proofs.one_key.add_newest.Given as given
use Rattle.stow_merge.proofs.one_key.add_newest.Goals as goal
use Rattle.stow_merge.proofs.one_key.add_newest.Goals.{In-Put, In-Gone, After-as_slice}

put_made : (g : given.Over) (c : In-Put g) → folded (left_by (rows_of c.args.row)) (map message_of c.args.messages.now) ≡ Some c.in-Put.value.now
put_made g c =
    let value = left_by (rows_of c.args.row) in
    newest_makes value (map message_of c.args.messages.now) (message_of c.args.newest) c.requires.newest ∙ ap (λ o. outcome (op_of o) (folded value c.requires.newest.older)) c.in-Put.is

gone_made : (g : given.Over) (c : In-Gone g) → folded (left_by (rows_of c.args.row)) (map message_of c.args.messages.now) ≡ None
gone_made g c =
    let value = left_by (rows_of c.args.row) in
    newest_makes value (map message_of c.args.messages.now) (message_of c.args.newest) c.requires.newest ∙ ap (λ o. outcome (op_of o) (folded value c.requires.newest.older)) c.in-Gone.is

append_made : (g : given.Over) (c : After-as_slice g) → folded (left_by (rows_of c.args.row)) (map message_of c.args.messages.now) ≡ Some c.as_slice.result.now
append_made g c =
    let value = left_by (rows_of c.args.row) in
    let made = newest_makes value (map message_of c.args.messages.now) (message_of c.args.newest) c.requires.newest ∙ ap (λ o. outcome (op_of o) (folded value c.requires.newest.older)) c.in-Append.is in
    made ∙ ap Some (sym (c.as_slice.ensures.value ∙ c.in_ok-fold_all-in-Append.ensures ∙ ap bytes_or_none made))

pub add_value-requires-clause-rise : goal.add_value-requires-clause-rise
add_value-requires-clause-rise g c = subst (λ v. VersionsRise (c.args.packed.now ++ version_with (message_of c.args.newest) v)) (put_made g (goal.at.add_value-requires-clause-rise g c).In-Put) c.requires.rise

pub add_value-requires-in-Append-clause-rise : goal.add_value-requires-in-Append-clause-rise
add_value-requires-in-Append-clause-rise g c = subst (λ v. VersionsRise (c.args.packed.now ++ version_with (message_of c.args.newest) v)) (append_made g c) c.requires.rise

pub returns-in-Put : goal.returns-in-Put
returns-in-Put g c =
    subst (λ v. IfOk c.add_value.result (λ added. IsTrue added → c.add_value.new.packed ≡ c.args.packed.now ++ version_with (message_of c.args.newest) v)) (sym (put_made g (goal.at.returns-in-Put g c).In-Put)) c.add_value.ensures

pub returns-in-Gone : goal.returns-in-Gone
returns-in-Gone g c = λ t. sym (ap (λ v. c.args.packed.now ++ version_with (message_of c.args.newest) v) (gone_made g c) ∙ append-nil c.args.packed.now)

pub returns-in_ok-fold_all-in-Append : goal.returns-in_ok-fold_all-in-Append
returns-in_ok-fold_all-in-Append g c =
    subst (λ v. IfOk c.add_value-in-Append.result (λ added. IsTrue added → c.add_value-in-Append.new.packed ≡ c.args.packed.now ++ version_with (message_of c.args.newest) v)) (sym (append_made g (goal.at.returns-in_ok-fold_all-in-Append g c).After-as_slice)) c.add_value-in-Append.ensures
