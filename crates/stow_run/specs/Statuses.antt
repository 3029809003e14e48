-- Why the program ends early, with which status, and what it tells of it.
use Rattle.std.specs.Prelude.{ℕ, List, [], ◌∷◌, ◌++◌, Result, Ok, Err, codes}
use Rattle.std.specs.Fmt.{decimal}
use Rattle.std.specs.String.{string_bytes}
use Rattle.std.specs.IoError.{error_kind}
use Rattle.std.specs.declared.io.Error.{Error}
use Rattle.std.specs.declared.io.ErrorKind.{ErrorKind}
use Rattle.std.specs.declared.io.ErrorKind.TheVariants as kind
use Rattle.stow_script.specs.StowLogin.TenantFile.{fault_number}
use Rattle.stow_run.specs.declared.failure.Failure.{Failure}
use Rattle.stow_run.specs.declared.failure.Failure.TheVariants.{Arguments, BadAddress, Tenants, BadLine, InputOutput, Memory}
use Rattle.stow_run.specs.declared.failure.Endpoint.{Endpoint}

abbrev pub status_of : Failure → ℕ
status_of (Arguments text) = 2
status_of BadAddress = 2
status_of (BadLine number stumble) = 2
status_of (Tenants fault reason) = 3
status_of (InputOutput place error) = 4
status_of Memory = 5

-- want of memory is a failure of its own, wherever it was told
abbrev pub failure_of_kind : ErrorKind → Endpoint → Error → Failure
failure_of_kind kind.OutOfMemory place error = Memory
failure_of_kind _ place error = InputOutput place error

abbrev pub failure_at : Endpoint → Error → Failure
failure_at place error = failure_of_kind (error_kind error) place error

-- the line on standard error, or the text of the arguments' parser
abbrev pub text_of_failure : Failure → List ℕ
text_of_failure (Arguments text) = string_bytes text
text_of_failure BadAddress = codes "stow: bad address\n"
text_of_failure (BadLine number stumble) = codes "stow: bad line " ++ (decimal number ++ 10 ∷ [])
text_of_failure (Tenants f reason) = codes "stow: tenant file refused: fault "
    ++ (decimal (fault_number f) ++ 10 ∷ [])
text_of_failure (InputOutput place error) = codes "stow: input or output failed\n"
text_of_failure Memory = codes "stow: memory was refused\n"

-- 0 stands for an outcome without failure
abbrev pub status_after : Result (Unit {0}) Failure → ℕ
status_after (Ok done) = 0
status_after (Err failure) = status_of failure
