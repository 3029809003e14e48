use Rattle.std.proofs.Common.{◌∙◌, arith}
use Rattle.std.proofs.lemmas.Bool.Decides.{nat_tests}
use Rattle.stow_node.proofs.Places.{low_of_first, low_of_none}
use Rattle.stow_node.proofs.child.first_low.Goals as goal

pub returns-in-Some : goal.returns-in-Some
returns-in-Some g c =
    c.low.ensures ∙ low_of_first c.args.children.now c.in-Some.child.now (grind (arith, nat_tests, c.in-Some.ensures.item.0)) c.in-Some.ensures.item.1

pub returns-in-None : goal.returns-in-None
returns-in-None g c = c.top_key.ensures ∙ low_of_none c.args.children.now (grind (arith, nat_tests, c.in-None.ensures.item.0))
