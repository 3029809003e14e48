use Rattle.std.proofs.Common.{refl}
use Rattle.stow_dropping.proofs.StowTree.Read.{read_then}
use Rattle.stow_core.proofs.ranging.first_rows.Goals as goal

pub loop-index-init : goal.loop-index-init
loop-index-init g c = record { root = refl; limit = refl }

pub loop-index-preserved : goal.loop-index-preserved
loop-index-preserved g c = read_then c.args.tree.now c.loop-index.tree c.offer.new.self c.loop-index.invariant c.offer.ensures
