use Rattle.std.proofs.Common.{◌∙◌, ap, drop, sym, take}
use Rattle.std.specs.Prelude.{nat_lt}
use Rattle.stow_page.specs.Format.{is_long, short_limit}
use Rattle.stow_merge.proofs.WritingLemmas.{carried_value}
use Rattle.stow_merge.proofs.measuring.is_long.Goals as goal

pub carried_size-requires : goal.carried_size-requires
carried_size-requires g c =
    (carried_value c.args.survey.now.joined.items c.between.result.now c.in-Some.from c.args.version.to c.args.version.from c.in-Some.is (c.between.ensures ∙ ap (λ xs. drop c.in-Some.from (take c.args.version.to xs)) c.as_slice.ensures.value) c.requires).is_short

pub returns-in-Some : goal.returns-in-Some
returns-in-Some g c =
    let value = carried_value c.args.survey.now.joined.items c.between.result.now c.in-Some.from c.args.version.to c.args.version.from c.in-Some.is (c.between.ensures ∙ ap (λ xs. drop c.in-Some.from (take c.args.version.to xs)) c.as_slice.ensures.value) c.requires in
    ap (nat_lt short_limit) c.carried_size.ensures.size ∙ sym (ap is_long value.is)
