-- The texts of refusals and of protocol errors, which are this product's own.
use Rattle.std.specs.Prelude.{ℕ, List, codes}
use Rattle.stow_model.specs.declared.refusal.Refusal.{Refusal}
use Rattle.stow_model.specs.declared.refusal.Refusal.TheVariants as refusal
use Rattle.stow_model.specs.declared.stream_fault.StreamFault.{StreamFault}
use Rattle.stow_model.specs.declared.stream_fault.StreamFault.TheVariants as fault

abbrev pub refusal_text : Refusal → List ℕ
refusal_text refusal.NotAuthenticated = codes "NOAUTH Authentication required."
refusal_text refusal.WrongPassword = codes "WRONGPASS invalid name or password"
refusal_text refusal.UnknownCommand = codes "ERR unknown command"
refusal_text refusal.WrongArgumentCount = codes "ERR wrong number of arguments"
refusal_text refusal.SyntaxError = codes "ERR syntax error"
refusal_text refusal.NotAnInteger = codes "ERR value is not an integer or out of range"
refusal_text refusal.Overflow = codes "ERR increment or decrement would overflow"
refusal_text refusal.KeyTooLong = codes "ERR key is too long"
refusal_text refusal.ValueTooLong = codes "ERR value is too long"
refusal_text refusal.TooManyKeys = codes "ERR too many keys"
refusal_text refusal.TooManySnapshots = codes "ERR too many snapshots"
refusal_text refusal.NoSuchSnapshot = codes "ERR no such snapshot"
refusal_text refusal.QuotaExceeded = codes "QUOTA byte quota exceeded"
refusal_text refusal.OutOfMemory = codes "OOM memory was refused"
refusal_text refusal.WriteNumbersUsedUp = codes "ERR write numbers are used up"
refusal_text refusal.QuotedInline = codes "ERR quotes in an inline request are not served"

abbrev pub fault_text : StreamFault → List ℕ
fault_text fault.InvalidArrayLength = codes "invalid multibulk length"
fault_text fault.ExpectedBulk = codes "expected '$'"
fault_text fault.InvalidBulkLength = codes "invalid bulk length"
fault_text fault.BulkNotEnded = codes "bulk not ended by CRLF"
fault_text fault.InlineTooLong = codes "inline request too long"
