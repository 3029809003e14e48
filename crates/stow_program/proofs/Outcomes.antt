-- Which failures an outcome can have.
use Rattle.std.proofs.Common.{◌≡◌, ℕ, List, Result, Ok, Err, subst, sym}
use Rattle.std.specs.Prelude.{IfErr, MatchResult}
use Rattle.std.specs.Result.{IsErrAnd}
use Rattle.std.specs.declared.io.Error.{Error}
use Rattle.std.specs.declared.io.ErrorKind.{ErrorKind}
use Rattle.std.specs.declared.io.ErrorKind.TheVariants as kind
use Rattle.std.specs.IoError.{error_kind}
use Rattle.stow_tasks.specs.StowWorkers.Failures.{HasFailed}
use Rattle.stow_tasks.specs.StowWorkers.Sent.{WritesAll, Written}
use Rattle.stow_run.specs.declared.failure.Failure.{Failure}
use Rattle.stow_run.specs.declared.failure.Failure.TheVariants as failure
use Rattle.stow_run.specs.declared.failure.Endpoint.{Endpoint}
use Rattle.stow_run.specs.declared.failure.Endpoint.TheVariants as endpoint
use Rattle.stow_tasks.specs.Ends.{IsOfOutput}
use Rattle.stow_run.specs.Statuses.{failure_at, failure_of_kind}
use Rattle.stow_program.specs.Outcomes.{EndsServing}

-- the failure is one of there
pub failed_there : {T : Type 0} (Is : Failure → Type 0) (at : Endpoint) (outcome : Result T Error) (f : Failure)
    → MatchResult outcome (λ v. ◌≡◌ {A = Result T Failure} (Err f) (Ok v)) (λ error. ◌≡◌ {A = Result T Failure} (Err f) (Err (failure_at at error)))
    → ((error : Error) → Is (failure_at at error)) → Is f
failed_there Is at (Ok v) f is can = cc is
failed_there Is at (Err error) f is can = let same : f ≡ failure_at at error = cc is in subst Is (sym same) (can error)

pub handed_on : {T : Type 0} (Is : Failure → Type 0) (r : Result T Failure) (f : Failure) → IsErrAnd r (λ e. e ≡ f) → Is f → IfErr r Is
handed_on Is (Ok v) f is ends = absurd is
handed_on Is (Err e) f is ends = subst Is (sym is) ends

network_of_kind : (old new : ℕ) (k : ErrorKind) (error : Error) → EndsServing old new (failure_of_kind k endpoint.Network error)
network_of_kind old new kind.OutOfMemory error = tt
network_of_kind old new _ error = tt

pub ends_at_network : (old new : ℕ) (error : Error) → EndsServing old new (failure_at endpoint.Network error)
ends_at_network old new error = network_of_kind old new (error_kind error) error

ends_at_output : (f : Failure) (old new : ℕ) → IsOfOutput f → HasFailed old new → EndsServing old new f
ends_at_output (failure.InputOutput endpoint.Output error) old new is failed = failed
ends_at_output failure.Memory old new is failed = tt
ends_at_output _ old new is failed = absurd is

-- a line that can't be written ends the serving
pub ends_at_line : (line : List ℕ) (old new : Written) (r : Result (Unit {0}) Failure) → WritesAll r line old new → IfErr r IsOfOutput → IfErr r (EndsServing old.failures new.failures)
ends_at_line line old new (Ok done) w is = tt
ends_at_line line old new (Err f) w is = ends_at_output f old.failures new.failures is w.failures
