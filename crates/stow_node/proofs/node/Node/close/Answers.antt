use Rattle.std.proofs.Common.{refl, arith, inr}
use Rattle.stow_node.proofs.Reallocated.{OtherBlock, emptied, reallocated_itself}
use Rattle.stow_node.proofs.node.Node.close.Given as given
use Rattle.stow_node.proofs.node.Node.close.Goals as goal
use Rattle.stow_node.proofs.node.Node.close.Goals.{In-Ok}

without : (g : given.Over) (c : In-Ok g) → OtherBlock c.self.inside c.in-Ok.none
without g c = emptied c.self.inside c.in-Ok.none 0 c.self.invariant (let l = c.if-len-gt0.false in let e = c.len.ensures.len in omega (arith, l, e)) c.in-Ok.ensures (inr refl)

pub returns-then-len-gt0 : goal.returns-then-len-gt0
returns-then-len-gt0 g c = reallocated_itself c.args.self.now

pub invariant_of-self : goal.invariant_of-self
invariant_of-self g c = (without g (goal.at.invariant_of-self g c).In-Ok).is_node

pub returns-in-Ok : goal.returns-in-Ok
returns-in-Ok g c = rw (← c.self.view_is) (without g (goal.at.returns-in-Ok g c).In-Ok).reallocated

pub returns-in_default : goal.returns-in_default
returns-in_default g c = reallocated_itself c.args.self.now
