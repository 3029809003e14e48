-- What the bytes of a block own and lend.
use Rattle.std.specs.Prelude.{◌≡◌, ℕ, ◌^◌, List, [], ◌∷◌, map, length, take, drop, Option, Some, None}
use Rattle.std.specs.Coded.{coded_ℕ, coded_option}
use base.Fraction.{full_share}
use base.Fml.{Lft, Fml, fsep, flt, froom}
use mir.Syntax.{w8, ty_int}
use types.SemTy.{SemTy, cells}
use denote.Builtin.{u8}
use denote.Memory.{each_shared, part_at, shared_of}
use denote.RawPtr.{Ptr, block_of, count_of, in_block}
use denote.Sharing.{beside, nothing, said}

-- the len bytes from the index from on
abbrev pub run : List (Option ℕ) → ℕ → ℕ → List (Option ℕ)
run bytes from len = take len (drop from bytes)

-- the bytes that are written
abbrev pub written : List (Option ℕ) → List ℕ
written [] = []
written (None ∷ bytes) = written bytes
written (Some x ∷ bytes) = x ∷ written bytes

-- each byte is
abbrev pub IsWritten : List (Option ℕ) → Type 0
IsWritten bytes = bytes ≡ map Some (written bytes)

-- a byte of its memory object b is a number, or room for one
abbrev pub byte_at : Option ℕ → ℕ → ℕ → Fml
byte_at (Some x) b o = part_at u8 full_share x b o
byte_at None b o = froom (ty_int w8) b o

abbrev pub Byte : SemTy
Byte = record { rep = Option ℕ; coded = coded_option coded_ℕ; size = 1; own_at = byte_at }

-- fewer bytes than 2 ^ 63, side by side from a pointer on
abbrev pub bytes_owned : Ptr → List (Option ℕ) → Fml
bytes_owned p bytes =
    in_block p (fsep (flt (length bytes) (2 ^ 63)) (cells Byte bytes (block_of p) (count_of p)))

-- a `&` shows a byte that is written
abbrev pub byte_lent : Option ℕ → ℕ → ℕ → Lft → Fml
byte_lent (Some x) b o = shared_of u8 x b o
byte_lent None b o = nothing

abbrev pub bytes_lent : Ptr → List (Option ℕ) → Lft → Fml
bytes_lent p bytes = beside (said (in_block p (flt (length bytes) (2 ^ 63))))
    (each_shared bytes byte_lent 1 (block_of p) (count_of p))
