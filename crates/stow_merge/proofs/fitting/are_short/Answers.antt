use Rattle.std.proofs.lemmas.Grind.{common_steps}
use Rattle.std.proofs.Common.{◌≡◌, ◌∙◌, sym, subst, true, false, rules, arith}
use Rattle.stow_page.specs.StowTreeModel.Value.{IsValue}
use Rattle.stow_page.specs.StowTreeModel.Version.{Version}
use Rattle.stow_merge.specs.Pages.{HaveShortValues}
use Rattle.stow_merge.specs.Writing.{version_in, versions_in}
use Rattle.stow_merge.proofs.Lists.{all_mapped_at}
use Rattle.stow_merge.proofs.fitting.are_short.Goals as goal

pub returns-then-not-is_short : goal.returns-then-not-is_short
returns-then-not-is_short g c =
    let survey = c.args.survey.now in
    let kept = c.as_slice-kept.result.now in
    let long : c.is_short.result ≡ false = search rules in (
      (λ e. let z : false ≡ true = e in absurd (cc)),
      λ all.
          let short = all_mapped_at (λ (v : Version). IsValue v.value) (version_in survey) kept c.loop-i.i c.index-kept-i.result
          (subst (λ ks. HaveShortValues (versions_in survey ks)) (sym c.as_slice-kept.ensures.value) all) c.loop-i-test.true c.index-kept-i.is in
          let z : false ≡ true = sym long ∙ c.is_short.ensures.1 short in absurd (cc),
    )

pub loop-i-preserved : goal.loop-i-preserved
loop-i-preserved g c = grind (arith, common_steps)

pub returns : goal.returns
returns g c = grind (arith, common_steps)
