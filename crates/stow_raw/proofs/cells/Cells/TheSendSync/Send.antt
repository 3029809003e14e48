-- Neither a number nor room for one is bound to a thread.
use Rattle.std.proofs.Common.{ℕ, ◌+◌, List, [], ◌∷◌, Option, Some, None}
use base.Fraction.{full_share}
use base.Shift.{Keyless}
use types.SemTy.{cells}
use denote.Builtin.{u8}
use denote.Param.Send.{IsSend, owning_send, part_keyless, sendable}
use denote.RawPtr.{Ptr, block_ptr, null_ptr}
use Rattle.stow_raw.specs.Cells.{Byte, bytes_owned}
use Rattle.stow_raw.specs.contracts.cells.Cells.{the_row, the_type}

all_free : (bytes : List (Option ℕ)) (b o : ℕ) → Keyless (cells Byte bytes b o)
all_free [] b o = tt
all_free (None ∷ bytes) b o = (tt, all_free bytes b (o + 1))
all_free (Some x ∷ bytes) b o = (part_keyless u8 (search sendable) full_share x b o, all_free bytes b (o + 1))

block_free : (p : Ptr) (bytes : List (Option ℕ)) → Keyless (bytes_owned p bytes)
block_free null_ptr bytes = tt
block_free (block_ptr b o) bytes = (tt, all_free bytes b o)

pub send : IsSend the_row
send = owning_send the_type (search sendable, tt) (λ d. block_free d.ptr d.bytes) (λ k d w. tt)
