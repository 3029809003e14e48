-- What comes of a reader's bytes as one connection.
use Rattle.std.specs.Prelude.{◌≡◌, ◌⊎◌, ℕ, List, Option, Result, Err, IsOk}
use Rattle.std.specs.Io.KnownBytes.{Keeps}
use Rattle.std.specs.declared.io.Error.{Error}
use Rattle.stow_model.specs.Login.{Entry}
use Rattle.stow_workers.specs.StowCore.State.{CoreState, Calls}
use Rattle.stow_workers.specs.declared.served.Served.{Served}
use Rattle.stow_workers.specs.declared.served.Served.TheVariants as served
use Rattle.stow_workers.specs.Failures.{HasFailed}
use Rattle.stow_workers.specs.Sent.{Written}
use Rattle.stow_workers.specs.Talks.{ServesConnection}
use Rattle.stow_run.specs.declared.failure.Failure.{Failure}
use Rattle.stow_run.specs.declared.failure.Failure.TheVariants.{Memory}
use Rattle.stow_run.specs.declared.failure.Endpoint.{Endpoint}
use Rattle.stow_run.specs.declared.failure.Endpoint.TheVariants as endpoint
use Rattle.stow_run.specs.Statuses.{failure_at}

-- reading or writing failed there, for some reason
abbrev pub FailsAt : Endpoint → Result (Unit {0}) Failure → Type 0
FailsAt at r = (error : Error) × (r ≡ Err (failure_at at error))

-- the writer was flushed; it failed in that where it is told so, and nowhere else
abbrev pub IsFlushed : Result (Unit {0}) Failure → Written → Written → Type 0
IsFlushed r old new = Keeps old.contents new.contents
    × ((IsOk r × (new.failures ≡ old.failures))
    ⊎ (FailsAt endpoint.Output r × HasFailed old.failures new.failures))

-- what is told of a connection's end; where it ended well, its last bytes may not have been flushed
abbrev pub IsEndTold : Served → Result (Unit {0}) Failure → Written → Written → Type 0
IsEndTold served.ReadFailed r old new = FailsAt endpoint.Input r × (new ≡ old)
IsEndTold served.WriteFailed r old new = FailsAt endpoint.Output r × (new ≡ old)
IsEndTold served.NoMemory r old new = (r ≡ Err Memory) × (new ≡ old)
IsEndTold _ r old new = IsFlushed r old new

-- The bytes were read, served through the core and answered, as one connection, until it ended so.
pub record IsPiped (entries : List Entry) (unread left : Option (List ℕ)) (old new : CoreState)
    (before after : Written) (result : Result (Unit {0}) Failure) : Type 0 where
  pub served : Served
  pub answered : Written
  pub serves : ServesConnection Calls entries served unread left old new before answered
  pub end : IsEndTold served result answered after
