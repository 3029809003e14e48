use Rattle.std.proofs.Common.{subst}
use Rattle.stow_core.specs.State.{CoreState, shared_of}
use Rattle.stow_ledger.specs.StowState.State.{IsSound}
use Rattle.stow_core.proofs.Core.is_tenant.Goals as goal

pub returns-then-tenant-ne0-clause-sound : goal.returns-then-tenant-ne0-clause-sound
returns-then-tenant-ne0-clause-sound g c = subst (λ (s : CoreState). IsSound (shared_of s)) c.self.view_is c.self.invariant.0.sound

pub returns-else-tenant-ne0-clause-sound : goal.returns-else-tenant-ne0-clause-sound
returns-else-tenant-ne0-clause-sound g c = subst (λ (s : CoreState). IsSound (shared_of s)) c.self.view_is c.self.invariant.0.sound
