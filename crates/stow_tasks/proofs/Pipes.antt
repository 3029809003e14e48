-- How the end of a connection is told.
use Rattle.std.proofs.Common.{◌≡◌, ℕ, List, Option, Result, Ok, Err, ◌⊎◌, inl, inr, refl, subst, sym}
use Rattle.std.specs.Prelude.{IsOk, MatchResult}
use Rattle.std.specs.Io.KnownBytes.{Keeps}
use Rattle.std.specs.declared.io.Error.{Error}
use Rattle.stow_model.specs.Login.{Entry}
use Rattle.stow_workers.specs.StowCore.State.{CoreState}
use Rattle.stow_model.specs.declared.stream_fault.StreamFault.{StreamFault}
use Rattle.stow_workers.specs.declared.served.Served.{Served}
use Rattle.stow_workers.specs.declared.served.Served.TheVariants as how
use Rattle.stow_workers.specs.Failures.{CountsFailure}
use Rattle.stow_workers.specs.Sent.{Written}
use Rattle.stow_run.specs.declared.failure.Failure.{Failure}
use Rattle.stow_run.specs.declared.failure.Endpoint.TheVariants as endpoint
use Rattle.stow_run.specs.Statuses.{failure_at}
use Rattle.stow_tasks.specs.Pipes.{IsEndTold, IsFlushed, IsPiped}

-- a good end is told as what came of the flush
pub told_as_flushed : (flush : Result (Unit {0}) Error) (r : Result (Unit {0}) Failure) (old new : Written)
    → MatchResult flush (λ v. ◌≡◌ {A = Result (Unit {0}) Failure} r (Ok v)) (λ error. ◌≡◌ {A = Result (Unit {0}) Failure} r (Err (failure_at endpoint.Output error)))
    → Keeps old.contents new.contents → CountsFailure flush old.failures new.failures → IsFlushed r old new
told_as_flushed (Ok done) r old new is kept same = (kept, inl (subst IsOk (sym is) refl, same))
told_as_flushed (Err error) r old new is kept failed = (kept, inr ((error, is), failed))

-- the client quit, or its input ended or has a fault
pub ends_well : (served : Served) (r : Result (Unit {0}) Failure) (old new : Written) → (served ≡ how.Quit) ⊎ (served ≡ how.Ended) ⊎ ((fault : StreamFault) × (served ≡ how.Faulted fault)) → IsFlushed r old new → IsEndTold served r old new
ends_well served r old new (inl is) end = subst (λ s. IsEndTold s r old new) (sym is) end
ends_well served r old new (inr (inl is)) end = subst (λ s. IsEndTold s r old new) (sym is) end
ends_well served r old new (inr (inr (fault, is))) end = subst (λ s. IsEndTold s r old new) (sym is) end

-- the same of equal tenants
pub of_equal_tenants : (entries own : List Entry) (unread left : Option (List ℕ)) (old new : CoreState) (before after : Written) (r : Result (Unit {0}) Failure)
    → entries ≡ own → IsPiped entries unread left old new before after r → IsPiped own unread left old new before after r
of_equal_tenants entries own unread left old new before after r same piped = subst (λ es. IsPiped es unread left old new before after r) same piped
