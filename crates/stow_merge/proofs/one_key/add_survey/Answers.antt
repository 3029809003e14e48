use Rattle.std.proofs.Common.{◌≡◌, ◌∙◌, ◌++◌, IfOk, IsTrue, ap, subst}
use Rattle.stow_merge.specs.Writing.{versions_in}
use Rattle.stow_merge.proofs.one_key.add_survey.Goals as goal

pub returns : goal.returns
returns g c =
    let survey = c.in_ok-survey.survey in
    subst (λ vs. IfOk c.add_kept.result (λ added. IsTrue added → c.add_kept.new.packed ≡ c.args.packed.now ++ vs)) (ap (versions_in survey) c.as_slice.ensures.value ∙ c.in_ok-survey.ensures) c.add_kept.ensures
