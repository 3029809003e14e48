-- Nor is what a `&` to the bytes shows.
use Rattle.std.proofs.Common.{ℕ, ◌+◌, ◌^◌, List, [], ◌∷◌, length, Option, Some, None}
use base.Fml.{flt}
use base.Shift.{Keyless}
use denote.Builtin.{u8}
use denote.Memory.{each_shared}
use denote.Param.Send.{Common, IsSync, sendable, struct_sync}
use denote.RawPtr.{Ptr, block_ptr, null_ptr, block_of, count_of, in_block}
use denote.Struct.Owning.{shape, to}
use Rattle.stow_raw.specs.Cells.{byte_lent}
use Rattle.stow_raw.specs.contracts.cells.Cells.{the_row, the_type}

number_shown : IsSync u8
number_shown = search sendable

all_shown : (bytes : List (Option ℕ)) (b o : ℕ) → Common (each_shared bytes byte_lent 1 b o)
all_shown [] b o κ = tt
all_shown (None ∷ bytes) b o κ = (tt, all_shown bytes b (o + 1) κ)
all_shown (Some x ∷ bytes) b o κ = (number_shown.shared x b o κ, all_shown bytes b (o + 1) κ)

count_shown : (p : Ptr) (n m : ℕ) → Keyless (in_block p (flt n m))
count_shown null_ptr n m = tt
count_shown (block_ptr b o) n m = tt

pub sync : IsSync the_row
sync = record {
  shared = λ d b o κ. (
    (struct_sync (shape the_type) (search sendable, tt)).shared (to the_type d) b o κ,
    (count_shown d.ptr (length d.bytes) (2 ^ 63), all_shown d.bytes (block_of d.ptr) (count_of d.ptr) κ),
  );
}
