-- The two ends of the program: what is read from, and what is written to.
use Rattle.std.specs.Prelude.{◌≡◌, ℕ, List, Option, Result, Err, ◌⊎◌}
use Rattle.stow_workers.specs.declared.counted.Counted.{Counted}
use Rattle.stow_workers.specs.Counted.{inner_of, failures_of}
use Rattle.stow_workers.specs.Failures.{HasFailed}
use Rattle.stow_workers.specs.Sent.{Written, written_of}
use Rattle.stow_run.specs.declared.failure.Failure.{Failure}
use Rattle.stow_run.specs.declared.failure.Failure.TheVariants.{InputOutput, Memory}
use Rattle.stow_run.specs.declared.failure.Endpoint.TheVariants as endpoint

-- what a reader still gives, where that is known, and how many of its reads have failed
pub record Unread : Type 0 where
  pub bytes : Option (List ℕ)
  pub failures : ℕ

-- a reader that is counted, by the bytes that it still gives
abbrev pub unread_of : {T : Type 0} → (T → Option (List ℕ)) → Counted T → Unread
unread_of remaining counted =
    record { bytes = remaining (inner_of counted); failures = failures_of counted }

-- a writer that is counted, by the bytes that it holds
abbrev pub held_by : {T : Type 0} → (T → Option (List ℕ)) → Counted T → Written
held_by contents counted = written_of (contents (inner_of counted)) (failures_of counted)

-- a failure of the input; want of memory that it tells is one too
abbrev pub IsOfInput : Failure → Type 0
IsOfInput (InputOutput endpoint.Input error) = Unit {0}
IsOfInput Memory = Unit {0}
IsOfInput _ = ⊥

-- the same of the output
abbrev pub IsOfOutput : Failure → Type 0
IsOfOutput (InputOutput endpoint.Output error) = Unit {0}
IsOfOutput Memory = Unit {0}
IsOfOutput _ = ⊥

-- a read failed where it is told so, and else none; where memory was refused one may have
abbrev pub InputFails : Result (Unit {0}) Failure → ℕ → ℕ → Type 0
InputFails (Err (InputOutput endpoint.Input error)) old new = HasFailed old new
InputFails (Err Memory) old new = (new ≡ old) ⊎ HasFailed old new
InputFails _ old new = new ≡ old
