use Rattle.std.proofs.Common.{◌≡◌, ⊎_elim, arith, inr}
use Rattle.stow_leaves.specs.StowMerge.Pins.{pins_in}
use Rattle.stow_node.proofs.Superseded.{Dropped, dropped}
use Rattle.stow_node.proofs.node.Node.drop_superseded.Given as given
use Rattle.stow_node.proofs.node.Node.drop_superseded.Goals as goal
use Rattle.stow_node.proofs.node.Node.drop_superseded.Goals.{In-Some}

fewer : (g : given.Over) (c : In-Some g) → Dropped c.self.inside (pins_in c.args.pins.now) c.in-Some.fewer
fewer g c = dropped c.self.inside (pins_in c.args.pins.now) c.in-Some.fewer c.self.invariant c.len.ensures.rising c.in-Some.ensures.fewer c.in-Some.ensures.ample

pub without_superseded-requires : goal.without_superseded-requires
without_superseded-requires g c = record {
  small = ⊎_elim
      (λ (e : c.self.inside.buffer.capacity ≡ c.self.inside.shape.buffer). let r = c.self.ranges in omega (arith, e, r))
      (λ (z : c.self.inside.buffer.capacity ≡ 0). omega (arith, z))
      c.self.invariant.block;
}

pub invariant_of-self : goal.invariant_of-self
invariant_of-self g c = (fewer g (goal.at.invariant_of-self g c).In-Some).is_node

pub returns-in-Some-clause-dropped : goal.returns-in-Some-clause-dropped
returns-in-Some-clause-dropped g c = inr (rw (← c.self.view_is) (fewer g (goal.at.returns-in-Some-clause-dropped g c).In-Some).drops)

pub returns-in-Some-clause-means : goal.returns-in-Some-clause-means
returns-in-Some-clause-means g c = rw (← c.self.view_is) (fewer g (goal.at.returns-in-Some-clause-means g c).In-Some).means
