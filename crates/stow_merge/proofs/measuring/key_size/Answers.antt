use Rattle.std.proofs.Common.{arith}
use Rattle.std.proofs.lemmas.Grind.{common_steps}
use Rattle.stow_page.specs.StowTreeModel.Value.{IsValue}
use Rattle.stow_page.specs.StowTreeModel.Version.{Version}
use Rattle.stow_merge.specs.Writing.{version_in}
use Rattle.stow_merge.proofs.Lists.{all_mapped_at}
use Rattle.stow_merge.proofs.measuring.key_size.Goals as goal

pub size_of-size-requires : goal.size_of-size-requires
size_of-size-requires g c = all_mapped_at (λ (v : Version). IsValue v.value) (version_in c.args.survey.now) c.args.key.now c.loop-i.i c.index-key-i.result c.requires.are_short c.loop-i-test.true c.index-key-i.is

pub overflow_add-size : goal.overflow_add-size
overflow_add-size g c = grind (arith, common_steps)

pub loop-i-preserved : goal.loop-i-preserved
loop-i-preserved g c = grind (arith, common_steps)

pub returns-clause-size : goal.returns-clause-size
returns-clause-size g c = grind (arith, common_steps)

pub returns-clause-small : goal.returns-clause-small
returns-clause-small g c = grind (arith, common_steps)
