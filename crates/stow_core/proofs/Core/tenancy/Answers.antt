use Rattle.std.proofs.Common.{◌≡◌, Some, refl, subst}
use Rattle.stow_core.specs.State.{CoreState, shared_of, store_of}
use Rattle.stow_ledger.specs.StowState.State.{IsSound}
use Rattle.stow_core.specs.Tenancies.{tenancy_at, tenancy_of}
use Rattle.stow_ledger.specs.Accounts.{IsAccountOf}
use Rattle.stow_core.proofs.Stores.{found_own, found_account}
use Rattle.stow_core.proofs.Core.tenancy.Goals as goal

pub returns-clause-own : goal.returns-clause-own
returns-clause-own g c = subst (λ (s : CoreState). tenancy_at c.args.tenant s.tenancies ≡ Some (tenancy_of c.index.result.now)) c.self.view_is
    (found_own _ c.args.self.now c.self.inside.pins c.self.inside.tenancies.items c.args.tenant c.self.view_is c.self.invariant.0 refl c.requires c.index.result.now c.index.ensures)

pub returns-clause-account : goal.returns-clause-account
returns-clause-account g c = subst (λ (s : CoreState). IsAccountOf (store_of s c.args.tenant) c.index.result.now.account) c.self.view_is
    (found_account _ c.args.self.now c.self.inside.pins c.self.inside.tenancies.items c.args.tenant c.self.view_is c.self.invariant.0 refl c.requires c.index.result.now c.index.ensures)

pub returns-clause-sound : goal.returns-clause-sound
returns-clause-sound g c = subst (λ (s : CoreState). IsSound (shared_of s)) c.self.view_is c.self.invariant.0.sound
