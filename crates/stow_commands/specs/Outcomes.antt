-- What a change of a row leads to, as this crate's types say it.
use Rattle.std.specs.Prelude.{◌≡◌, ℕ, ℤ, Option, Some, None, Result, Ok, Err, List, [], ◌++◌}
use Rattle.std.specs.Borrow.{Bor}
use Rattle.std.specs.Fmt.{signed_decimal}
use Rattle.std.specs.Option.{unwrap_or}
use Rattle.stow_model.specs.declared.refusal.Refusal.{Refusal}
use Rattle.stow_model.specs.declared.reply.Reply.{Reply}
use Rattle.stow_model.specs.Reply.{reply_of}
use Rattle.stow_model.specs.Reply as reply
use Rattle.stow_model.specs.Store as meant
use Rattle.stow_commands.specs.declared.outcome.Outcome.{Outcome}
use Rattle.stow_commands.specs.declared.outcome.Outcome.TheVariants as outcome
use Rattle.stow_commands.specs.declared.outcome_fault.OutcomeFault.{OutcomeFault}
use Rattle.stow_commands.specs.declared.outcome_fault.OutcomeFault.TheVariants as fault

-- a row's present value, lent
abbrev pub value_of : Option (Bor (List ℕ)) → Option (List ℕ)
value_of None = None
value_of (Some value) = Some value.now

-- the outcome was found, but for memory
abbrev pub IsOutcome : {A : Type 0} → Result (Outcome A) OutcomeFault → meant.Outcome → Type 0
IsOutcome (Ok (outcome.Written value reply)) o = o ≡ meant.Written value (reply_of reply)
IsOutcome (Ok (outcome.Unchanged reply)) o = o ≡ meant.Unchanged (reply_of reply)
IsOutcome (Err (fault.Refused refusal)) o = o ≡ meant.Failed refusal
IsOutcome (Err fault.OutOfMemory) o = Unit {0}

-- what an APPEND of the suffix is told, or why it is refused
abbrev pub IsAppendReply : {A : Type 0} → Result (Reply A) Refusal → List ℕ → Option (List ℕ)
    → Type 0
IsAppendReply (Ok reply) suffix present = meant.append_outcome suffix present
    ≡ meant.Written (unwrap_or present [] ++ suffix) (reply_of reply)
IsAppendReply (Err refusal) suffix present =
    meant.append_outcome suffix present ≡ meant.Failed refusal

-- an addition comes to this sum, or is refused
abbrev pub IsSum : Result ℤ Refusal → meant.Outcome → Type 0
IsSum (Ok sum) o = o ≡ meant.Written (signed_decimal sum) (reply.Integer sum)
IsSum (Err refusal) o = o ≡ meant.Failed refusal
