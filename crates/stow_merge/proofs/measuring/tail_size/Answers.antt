use Rattle.std.proofs.Common.{◌∙◌, ap, arith, drop, length, map, take}
use Rattle.stow_page.specs.Format.{tail}
use Rattle.stow_page.specs.StowTreeModel.TreeMessage.{message_of}
use Rattle.stow_merge.proofs.WritingLemmas.{carried, carried_value}
use Rattle.stow_merge.proofs.measuring.tail_size.Goals as goal

pub carried_size-requires : goal.carried_size-requires
carried_size-requires g c =
    (carried_value c.args.survey.now.joined.items c.between-value.result.now c.in-Some.from c.args.version.to c.args.version.from c.in-Some.is (c.between-value.ensures ∙ ap (λ xs. drop c.in-Some.from (take c.args.version.to xs)) c.as_slice.ensures.value) c.requires).is_short

pub returns-in-Some-clause-size : goal.returns-in-Some-clause-size
returns-in-Some-clause-size g c =
    let value = carried_value c.args.survey.now.joined.items c.between-value.result.now c.in-Some.from c.args.version.to c.args.version.from c.in-Some.is (c.between-value.ensures ∙ ap (λ xs. drop c.in-Some.from (take c.args.version.to xs)) c.as_slice.ensures.value) c.requires in
    let whole = ap (λ v. length (tail c.args.format v)) value.is in
    let before = c.before_value.ensures.size (carried (map message_of c.between-value.result.now)) in
    let size = c.carried_size.ensures.size in
    omega arith
