use Rattle.std.proofs.Common.{◌∙◌, sym, arith}
use Rattle.std.proofs.lemmas.Bool.Decides.{nat_tests}
use Rattle.stow_node.proofs.Places.{high_before, high_at_last}
use Rattle.stow_node.proofs.child.high_after.Goals as goal

pub returns-in-Some : goal.returns-in-Some
returns-in-Some g c =
    c.low.ensures
    ∙ sym (high_before c.args.children.now c.args.index c.in-Some.child.now (grind (arith, nat_tests, c.in-Some.ensures.lookup.0)) c.in-Some.ensures.lookup.1)

pub returns-in-None : goal.returns-in-None
returns-in-None g c =
    c.top_key.ensures
    ∙ sym (high_at_last c.args.children.now c.args.index (grind (arith, nat_tests, c.in-None.ensures.lookup.0)))
