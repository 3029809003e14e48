use Rattle.std.proofs.lemmas.Grind.{common_steps}
use Rattle.std.proofs.Common.{◌++◌, sym, subst, arith}
use Rattle.stow_merge.specs.Writing.{CanPack, versions_in}
use Rattle.stow_merge.proofs.WritingLemmas.{page_next}
use Rattle.stow_merge.proofs.writing.write_page.Goals as goal

pub write_key-requires : goal.write_key-requires
write_key-requires g c =
    subst (λ vs. CanPack (vs ++ versions_in c.args.survey.now c.index-keys-i.result.now)) (sym c.loop-i.invariant)
    (page_next (λ key. versions_in c.args.survey.now key.now) c.args.keys.now c.loop-i.i c.index-keys-i.result c.requires c.loop-i-test.true c.index-keys-i.is)

pub loop-i-preserved : goal.loop-i-preserved
loop-i-preserved g c = grind (arith, common_steps)

pub returns : goal.returns
returns g c = grind (arith, common_steps)
