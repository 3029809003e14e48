use Rattle.std.proofs.Common.{◌≡◌, ◌∙◌, ap, sym, map, length, drop, take, Some}
use Rattle.stow_page.specs.StowTreeModel.TreeMessage.{message_of}
use Rattle.stow_merge.specs.KeptVersion.{value_between}
use Rattle.stow_merge.proofs.WritingLemmas.{between_bytes}
use Rattle.stow_merge.proofs.writing.value_of.Goals as goal

pub carried_or-requires : goal.carried_or-requires
carried_or-requires g c =
    let items = c.args.survey.now.joined.items in
    let from = c.in-Some.from in
    let to = c.args.version.to in
    let part : c.between.result.now ≡ drop from (take to items) = c.between.ensures ∙ ap (λ xs. drop from (take to xs)) c.as_slice.ensures.value in
    λ ne. c.requires.are from c.in-Some.is (λ z. ne (ap length part ∙ z)) ∙ sym (between_bytes items c.between.result.now from to part)

pub returns-in-Some : goal.returns-in-Some
returns-in-Some g c =
    let items = c.args.survey.now.joined.items in
    let from = c.in-Some.from in
    let to = c.args.version.to in
    let part : c.between.result.now ≡ drop from (take to items) = c.between.ensures ∙ ap (λ xs. drop from (take to xs)) c.as_slice.ensures.value in
    ap Some (c.carried_or.ensures ∙ between_bytes items c.between.result.now from to part) ∙ sym (ap (λ f. value_between (map message_of items) f to) c.in-Some.is)
