-- Answers that are prepared once the core gave way to another that means the same.
use Rattle.std.proofs.Common.{◌≡◌, ℕ, List, subst, sym}
use Rattle.std.specs.Prelude.{IfOk, Result, Err}
use Rattle.std.specs.declared.alloc.AllocError.{AllocError}
use Rattle.stow_core.specs.Prepared.{IsPrepared, prepared_answer}
use Rattle.stow_core.specs.State.{CoreState, Keeps}
use Rattle.stow_core.specs.declared.prepared.Prepared.{Prepared}
use Rattle.stow_core.proofs.Kept.{keeps_then}
use Rattle.stow_model.specs.Login.{Entry, IsTenant}
use Rattle.stow_model.specs.Store.{Answer, Store}

-- what is prepared then is prepared
pub prepared_then : {A : Type 0} (old mid new : CoreState) (tenant : ℕ) (answer : Store → Answer) (result : Result (Prepared A) AllocError) → Keeps old mid → IsPrepared mid tenant answer new result → IsPrepared old tenant answer new result
prepared_then old mid new tenant answer result first later = record {
  keeps = keeps_then old mid new first later.keeps;
  room = later.room;
  tenant_is = later.tenant_is;
  answers = subst (λ (s : Store). IfOk result (λ p. prepared_answer p s ≡ answer s)) (first.stores tenant) later.answers;
}

-- where memory was refused nothing is
pub prepared_refused : {A : Type 0} (old new : CoreState) (tenant : ℕ) (answer : Store → Answer) {refused : AllocError} → Keeps old new → IsPrepared {A = A} old tenant answer new (Err refused)
prepared_refused old new tenant answer keeps = record { keeps = keeps; room = tt; tenant_is = tt; answers = tt }

-- who is a tenant stays one
pub tenant_then : (old mid : CoreState) (tenant : ℕ) → Keeps old mid → IsTenant old.entries tenant → IsTenant mid.entries tenant
tenant_then old mid tenant first is_tenant = subst (λ (entries : List Entry). IsTenant entries tenant) (sym first.entries) is_tenant
