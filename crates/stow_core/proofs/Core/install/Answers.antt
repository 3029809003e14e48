use Rattle.std.proofs.Common.{◌≡◌, ◌↔◌, ap, ◌∙◌, subst}
use Rattle.std.specs.Prelude.{IfErr, IfOk}
use Rattle.stow_core.specs.Flushing.{TakesResultOf}
use Rattle.stow_core.specs.State.{CoreState, Keeps}
use Rattle.stow_core.proofs.Answered.{if_ok}
use Rattle.stow_core.proofs.Carried.{core_of}
use Rattle.stow_core.proofs.Jobs.{install_told}
use Rattle.stow_core.proofs.Kept.{core_agrees, keeps_agreed}
use Rattle.stow_dropping.specs.StowNode.declared.installed.Installed.TheVariants as installed
use Rattle.stow_dropping.specs.StowTree.TreeState.{IsRead}
use Rattle.stow_core.proofs.RowLengths.{kept_lengths}
use Rattle.stow_core.proofs.Core.install.Goals as goal

pub invariant_of-self : goal.invariant_of-self
invariant_of-self g c = (core_agrees _ c.self.inside.pins c.self.invariant.0 c.install.new.self c.install.ensures.agrees c.install.ensures.shape, kept_lengths _ _ c.self.inside.lengths (keeps_agreed _ c.self.inside.pins c.self.invariant.0 c.install.new.self c.install.ensures.agrees) c.self.invariant.1)

pub returns-clause-keeps : goal.returns-clause-keeps
returns-clause-keeps g c = subst (λ s. Keeps s (core_of c.self.inside.tenants.value c.self.inside.tenancies.items c.self.inside.pin_room c.install.new.self)) c.self.view_is
    (keeps_agreed _ c.self.inside.pins c.self.invariant.0 c.install.new.self c.install.ensures.agrees)

pub returns-clause-stale : goal.returns-clause-stale
returns-clause-stale g c = subst (λ s. IfOk c.install.result (λ r. r ≡ installed.Stale ↔ ¬ (TakesResultOf s c.args.merge.job))) c.self.view_is
    (install_told _ c.self.inside.pins c.self.invariant.0 c.install.result c.args.merge.job c.install.ensures.stale)

pub returns-clause-unmoved : goal.returns-clause-unmoved
returns-clause-unmoved g c =
    let core = core_of c.self.inside.tenants.value c.self.inside.tenancies.items c.self.inside.pin_room in
    if_ok c.install.result (λ r. r ≡ installed.Stale → c.install.new.self ≡ c.self.inside.tree) (λ r. r ≡ installed.Stale → core c.install.new.self ≡ c.args.self.now)
    (λ r unmoved stale. ap core (unmoved stale) ∙ c.self.view_is) c.install.ensures.unmoved

pub returns-clause-err : goal.returns-clause-err
returns-clause-err g c = subst (λ (s : CoreState). IfErr c.install.result (λ e. (e.0 ≡ c.args.merge) × IsRead s.tree c.install.new.self)) c.self.view_is c.install.ensures.err
