use Rattle.std.proofs.Common.{arith}
use Rattle.std.proofs.lemmas.Grind.{common_steps}
use Rattle.stow_merge.specs.Writing.{versions_in, AreFewAndShort}
use Rattle.stow_merge.proofs.Lists.{all_mapped_at}
use Rattle.stow_merge.proofs.measuring.sizes_of.Goals as goal

pub key_size-requires : goal.key_size-requires
key_size-requires g c = all_mapped_at AreFewAndShort (λ key. versions_in c.args.survey.now key.now) c.args.keys.now c.loop-i.i c.index-keys-i.result c.requires c.loop-i-test.true c.index-keys-i.is

pub loop-i-preserved : goal.loop-i-preserved
loop-i-preserved g c = grind (arith, common_steps)

pub returns : goal.returns
returns g c = grind (arith, common_steps)
