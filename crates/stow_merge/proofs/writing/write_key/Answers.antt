use Rattle.std.proofs.lemmas.Grind.{common_steps}
use Rattle.std.proofs.Common.{◌++◌, ◌∷◌, [], sym, subst, arith}
use Rattle.stow_page.specs.StowTreeModel.Value.{IsValue}
use Rattle.stow_page.specs.StowTreeModel.Version.{Version}
use Rattle.stow_merge.specs.Writing.{CanPack, version_in, versions_in}
use Rattle.stow_merge.proofs.Lists.{all_mapped_at, all_split}
use Rattle.stow_merge.proofs.WritingLemmas.{pack_next}
use Rattle.stow_merge.proofs.writing.write_key.Goals as goal

pub write_version-requires-clause-pack : goal.write_version-requires-clause-pack
write_version-requires-clause-pack g c =
    subst (λ vs. CanPack (vs ++ version_in c.args.survey.now c.index-key-i.result ∷ [])) (sym c.loop-i.invariant)
    (pack_next (version_in c.args.survey.now) c.args.packed.now c.args.key.now c.loop-i.i c.index-key-i.result c.requires c.loop-i-test.true c.index-key-i.is)

pub write_version-requires-clause-value : goal.write_version-requires-clause-value
write_version-requires-clause-value g c =
    all_mapped_at (λ (v : Version). IsValue v.value) (version_in c.args.survey.now) c.args.key.now c.loop-i.i c.index-key-i.result
    (all_split _ c.args.packed.now (versions_in c.args.survey.now c.args.key.now) c.requires.are_short).1 c.loop-i-test.true c.index-key-i.is

pub loop-i-preserved : goal.loop-i-preserved
loop-i-preserved g c = grind (arith, common_steps)

pub returns : goal.returns
returns g c = grind (arith, common_steps)
