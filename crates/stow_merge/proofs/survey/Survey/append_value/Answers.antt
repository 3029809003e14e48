use Rattle.std.proofs.Common.{◌≡◌, ◌∙◌, ◌++◌, List, OnOk, take, drop, sym, ap, subst, map}
use Rattle.std.specs.List.{flat_map}
use Rattle.std.proofs.lemmas.List.{take-map, drop-map}
use Rattle.stow_page.specs.StowTreeModel.Op.{bytes_in}
use Rattle.stow_page.specs.StowTreeModel.Operations.{bytes_or_none}
use Rattle.stow_page.specs.StowTreeModel.TreeMessage.{TreeMessage, message_of}
use Rattle.stow_merge.specs.KeptVersion.{value_between}
use Rattle.stow_merge.proofs.survey.Survey.append_value.Goals as goal

pub returns-in-Some : goal.returns-in-Some
returns-in-Some g c =
    let items = c.args.self.now.joined.items in
    let to = c.args.version.to in
    let from = c.in-Some.from in
    let lent : map message_of c.between.result.now ≡ drop from (take to (map message_of items)) =
    ap (map message_of) (c.between.ensures ∙ ap (λ xs. drop from (take to xs)) c.as_slice.ensures.value)
    ∙ sym (ap (drop from) (take-map message_of to items) ∙ drop-map message_of from (take to items)) in
    subst (λ xs. OnOk c.append_all.result (c.append_all.new.bytes.items ≡ c.args.bytes.now.items ++ xs))
    (ap (λ (ms : List TreeMessage). flat_map (λ m. bytes_in m.op) ms) lent ∙ sym (ap (λ f. bytes_or_none (value_between (map message_of items) f to)) c.in-Some.is))
    c.append_all.ensures
