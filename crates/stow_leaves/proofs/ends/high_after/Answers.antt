use Rattle.std.proofs.Common.{◌+◌, ◌∙◌, arith}
use Rattle.std.proofs.lemmas.Bool.Decides.{nat_tests}
use Rattle.stow_leaves.proofs.Fences.{fence_here, fence_behind}
use Rattle.stow_leaves.proofs.ends.high_after.Goals as goal

pub returns-in-Some : goal.returns-in-Some
returns-in-Some g c = c.as_key.ensures ∙ fence_here c.args.leaves.now (c.args.index + 1) c.in-Some.leaf.now (grind (arith, nat_tests, c.in-Some.ensures.lookup.0)) c.in-Some.ensures.lookup.1

pub returns-in-None : goal.returns-in-None
returns-in-None g c = c.top_key.ensures ∙ fence_behind c.args.leaves.now (c.args.index + 1) (grind (arith, nat_tests, c.in-None.ensures.lookup.0))
