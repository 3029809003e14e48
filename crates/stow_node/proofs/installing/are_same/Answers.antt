use Rattle.stow_node.proofs.Batches.{take_next}
use Rattle.stow_node.proofs.installing.are_same.Goals as goal

pub loop-i-preserved : goal.loop-i-preserved
loop-i-preserved g c = take_next c.args.a.now c.args.b.now c.loop-i.i _ _ c.get.ensures.version c.get-in-loop-i.ensures.version (c.is_same_version.ensures.0 c.if-not-is_same_version.false) c.loop-i.invariant
