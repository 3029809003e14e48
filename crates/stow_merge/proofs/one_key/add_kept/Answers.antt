use Rattle.std.proofs.Common.{◌++◌, ◌∷◌, [], map, take, sym, subst}
use Rattle.stow_page.specs.StowTreeModel.Order.{VersionsRise}
use Rattle.stow_page.specs.StowTreeModel.Value.{IsValue}
use Rattle.stow_page.specs.StowTreeModel.Version.{Version, version_of}
use Rattle.stow_merge.specs.Writing.{version_in}
use Rattle.stow_merge.proofs.Lists.{all_mapped_at}
use Rattle.stow_merge.proofs.WritingLemmas.{rise_next}
use Rattle.stow_merge.proofs.one_key.add_kept.Goals as goal

pub lent_version-version-requires-clause-value : goal.lent_version-version-requires-clause-value
lent_version-version-requires-clause-value g c = all_mapped_at (λ (v : Version). IsValue v.value) (version_in c.args.survey.now) c.args.kept.now c.loop-i.i c.index-kept-i.result c.requires.values c.loop-i-test.true c.index-kept-i.is

pub add_version-requires : goal.add_version-requires
add_version-requires g c =
    let next = version_in c.args.survey.now in
    subst (λ vs. VersionsRise (vs ++ version_of c.lent_version-version.result ∷ [])) (sym c.loop-i.invariant)
    (subst (λ v. VersionsRise ((c.args.packed.now ++ map next (take c.loop-i.i c.args.kept.now)) ++ v ∷ [])) (sym c.lent_version-version.ensures)
    (rise_next next c.args.packed.now c.args.kept.now c.loop-i.i c.index-kept-i.result c.requires.rise c.loop-i-test.true c.index-kept-i.is))
