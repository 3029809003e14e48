use Rattle.std.proofs.Common.{◌≡◌, subst}
use Rattle.stow_flush.specs.StowNode.Moves.{StaysInMeaning}
use Rattle.stow_tree.specs.TreeState.{TreeState, tree_messages}
use Rattle.stow_tree.proofs.Planned.{moved_messages, moved_tree}
use Rattle.stow_tree.proofs.Putting.{state_of}
use Rattle.stow_tree.proofs.tree.Tree.plan.Goals as goal

pub plan-requires-clause-short : goal.plan-requires-clause-short
plan-requires-clause-short g c = c.self.invariant.short

pub plan-requires-clause-target : goal.plan-requires-clause-target
plan-requires-clause-target g c = c.self.invariant.sizes.leaf

pub invariant_of-self : goal.invariant_of-self
invariant_of-self g c = moved_tree c.self.inside c.plan.new.self c.self.invariant c.plan.ensures.same

pub returns-clause-same : goal.returns-clause-same
returns-clause-same g c = subst (λ (t : TreeState). tree_messages (record { root = c.plan.new.self; cache = c.self.inside.cache }) ≡ tree_messages t) c.self.view_is
    (moved_messages (state_of c.self.inside) (record { root = c.plan.new.self; cache = c.self.inside.cache }) c.plan.ensures.same)

pub returns-clause-moves : goal.returns-clause-moves
returns-clause-moves g c = subst (λ (t : TreeState). StaysInMeaning t.root c.plan.new.self) c.self.view_is c.plan.ensures.same
