use Rattle.stow_tree.proofs.Held.{used_tree, offered_tree}
use Rattle.stow_tree.proofs.tree.Tree.offer.Goals as goal

pub invariant_of-self : goal.invariant_of-self
invariant_of-self g c = used_tree c.self.inside c.find.follows.lender-at-none c.as_key-low.result.bytes.now c.self.invariant c.find.follows.holds-at-none

pub invariant_of-self-in-Ok : goal.invariant_of-self-in-Ok
invariant_of-self-in-Ok g c = offered_tree c.self.inside c.find.follows.lender-at-none c.keep.new.self c.as_key-low.result.bytes.now c.in-Ok.rows c.in-Some.leaf.now c.self.invariant c.find.follows.holds-at-none c.in-Some.ensures c.as_key-low.ensures c.in-Ok.ensures c.keep.ensures.leaves
