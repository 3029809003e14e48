use Rattle.std.proofs.Common.{ap, subst, ◌∙◌}
use Rattle.stow_core.specs.State.{CoreState, Keeps}
use Rattle.stow_core.proofs.Carried.{core_of}
use Rattle.stow_core.proofs.Jobs.{plan_told}
use Rattle.stow_core.proofs.Kept.{core_same, keeps_same}
use Rattle.stow_core.proofs.RowLengths.{kept_lengths}
use Rattle.stow_dropping.specs.StowTree.TreeState.{tree_messages}
use Rattle.stow_core.proofs.Core.plan.Goals as goal

pub invariant_of-self : goal.invariant_of-self
invariant_of-self g c = (core_same _ c.self.inside.pins c.self.invariant.0 c.plan.new.self c.plan.ensures.same c.plan.ensures.moves.shape, kept_lengths _ _ c.self.inside.lengths (keeps_same _ c.self.inside.pins c.self.invariant.0 c.plan.new.self c.plan.ensures.same) c.self.invariant.1)

pub returns-clause-keeps : goal.returns-clause-keeps
returns-clause-keeps g c = subst (λ s. Keeps s (core_of c.self.inside.tenants.value c.self.inside.tenancies.items c.self.inside.pin_room c.plan.new.self)) c.self.view_is
    (keeps_same _ c.self.inside.pins c.self.invariant.0 c.plan.new.self c.plan.ensures.same)

pub returns-clause-same : goal.returns-clause-same
returns-clause-same g c = c.plan.ensures.same ∙ ap (λ (s : CoreState). tree_messages s.tree) c.self.view_is

pub returns-clause-job : goal.returns-clause-job
returns-clause-job g c = plan_told _ c.self.inside.pins (core_same _ c.self.inside.pins c.self.invariant.0 c.plan.new.self c.plan.ensures.same c.plan.ensures.moves.shape) c.plan.result c.plan.ensures.job
