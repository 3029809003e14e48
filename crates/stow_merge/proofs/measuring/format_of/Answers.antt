use Rattle.std.proofs.Common.{◌≡◌, ◌∙◌, arith, sym, subst, true, false}
use Rattle.std.proofs.lemmas.Grind.{common_steps}
use Rattle.stow_page.proofs.Formats.{format_of-long, format_of-short}
use Rattle.stow_page.specs.Format.{is_long, has_long}
use Rattle.stow_page.specs.StowTreeModel.Value.{IsValue}
use Rattle.stow_page.specs.StowTreeModel.Version.{Version}
use Rattle.stow_merge.specs.Pages.{HaveShortValues}
use Rattle.stow_merge.specs.Writing.{version_in, versions_in}
use Rattle.stow_merge.proofs.Lists.{all_mapped_at}
use Rattle.stow_merge.proofs.WritingLemmas.{long_at, long_more}
use Rattle.stow_merge.proofs.measuring.format_of.Goals as goal

pub is_long-requires : goal.is_long-requires
is_long-requires g c =
    all_mapped_at (λ (v : Version). IsValue v.value) (version_in c.args.survey.now) c.as_slice-kept.result.now c.loop-i.i c.index-kept-i.result
    (subst (λ ks. HaveShortValues (versions_in c.args.survey.now ks)) (sym c.as_slice-kept.ensures.value) c.requires) c.loop-i-test.true c.index-kept-i.is

pub returns-then-is_long : goal.returns-then-is_long
returns-then-is_long g c =
    let survey = c.args.survey.now in
    let here : is_long (version_in survey c.index-kept-i.result).value ≡ true = sym c.is_long.ensures ∙ c.if-is_long.true in
    sym (format_of-long (versions_in survey survey.kept.items) (subst (λ ks. has_long (versions_in survey ks) ≡ true) c.as_slice-kept.ensures.value
    (long_at (version_in survey) c.as_slice-kept.result.now c.loop-i.i c.index-kept-i.result c.loop-i-test.true c.index-kept-i.is here)))

pub loop-i-preserved : goal.loop-i-preserved
loop-i-preserved g c =
    let survey = c.args.survey.now in
    let here : is_long (version_in survey c.index-kept-i.result).value ≡ false = sym c.is_long.ensures ∙ c.if-is_long.false in
    long_more (version_in survey) c.as_slice-kept.result.now c.loop-i.i c.index-kept-i.result c.loop-i-test.true c.index-kept-i.is c.loop-i.invariant here

pub returns : goal.returns
returns g c =
    let survey = c.args.survey.now in
    let none : has_long (versions_in survey survey.kept.items) ≡ false = grind (arith, common_steps) in
    sym (format_of-short (versions_in survey survey.kept.items) none)
