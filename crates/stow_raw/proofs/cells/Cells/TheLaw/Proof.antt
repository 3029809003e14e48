-- A borrow of a block's bytes can be shared: what it then shows is each byte that is written. Assumes `Logic`.
use Rattle.std.proofs.Common.{ℕ, ◌+◌, ◌^◌, List, [], ◌∷◌, length, Option, Some, None}
use seplogic.Ra.Ura.{Ura}
use base.Fml.{ftrue, flt}
use types.Logic.{Logic}
use types.SemTy.{cells}
use denote.Memory.{each_shared, each_shr_laws}
use denote.RawPtr.{Ptr, block_ptr, null_ptr, block_of, count_of, in_block}
use denote.Shadow.{Pure}
use denote.Sharing.{ShrLaws, said}
use denote.SharingLaws.{beside_shr_laws, nothing_shr_laws, said_shr_laws}
use denote.Param.Shared.{copy_shared}
use denote.Struct.Field.{RawPtr-field, u8-field}
use denote.Struct.Laws.{RawPtr-copy, u8-copy}
use denote.Struct.Lending.{Lends, Lends-both, Lends-false, Lends-nothing, Lends-said, of_Lends}
use Rattle.stow_raw.specs.Cells.{Byte, byte_at, byte_lent, bytes_lent, bytes_owned}
use Rattle.stow_raw.specs.contracts.cells.Cells as this
use Rattle.stow_raw.proofs.cells.Cells.TheLaw.Statement.{statement}

-- what is said of the count of bytes owns nothing
counts : (p : Ptr) (n m : ℕ) → Pure (in_block p (flt n m))
counts (block_ptr b o) n m = tt
counts null_ptr n m = tt

copies : (c : Option ℕ) (b o : ℕ) → ShrLaws (byte_lent c b o)
copies None b o = nothing_shr_laws
copies (Some x) b o = (copy_shared u8-field u8-copy).shr_laws x b o

module _ {M : Type 1} {𝓤 : Ura M} (𝓛 : Logic 𝓤) where
  one_byte : (c : Option ℕ) (b o : ℕ) → Lends 𝓛 (byte_at c b o) (byte_lent c b o) []
  one_byte None b o = Lends-nothing 𝓛 (byte_at None b o) []
  one_byte (Some x) b o = λ κ ts. (copy_shared u8-field u8-copy).shares M 𝓤 𝓛 x κ ts b o

  side_by_side : (bytes : List (Option ℕ)) (b o : ℕ) → Lends 𝓛 (cells Byte bytes b o) (each_shared bytes byte_lent 1 b o) []
  side_by_side [] b o = Lends-nothing 𝓛 ftrue []
  side_by_side (c ∷ bytes) b o =
      Lends-both 𝓛 (byte_at c b o) (cells Byte bytes b (o + 1)) (byte_lent c b o) (each_shared bytes byte_lent 1 b (o + 1)) []
      (one_byte c b o) (side_by_side bytes b (o + 1))

  behind : (p : Ptr) (bytes : List (Option ℕ)) → Lends 𝓛 (bytes_owned p bytes) (bytes_lent p bytes) []
  behind null_ptr bytes = Lends-false 𝓛 (bytes_lent null_ptr bytes) []
  behind (block_ptr b o) bytes = let few = flt (length bytes) (2 ^ 63) in
      Lends-both 𝓛 few (cells Byte bytes b o) (said few) (each_shared bytes byte_lent 1 b o) []
      (Lends-said 𝓛 few tt []) (side_by_side bytes b o)

pub shares : statement
shares =
    of_Lends this.struct this.the_codes this.the_heap this.the_lent
    (λ d _. let few = in_block d.ptr (flt (length d.bytes) (2 ^ 63)) in let row = each_shared d.bytes byte_lent 1 (block_of d.ptr) (count_of d.ptr) in
    beside_shr_laws (said few) row (said_shr_laws few (counts d.ptr (length d.bytes) (2 ^ 63))) (each_shr_laws d.bytes byte_lent copies 1 (block_of d.ptr) (count_of d.ptr)))
    (copy_shared RawPtr-field RawPtr-copy, tt)
    (λ M 𝓤 𝓛 d _. behind 𝓛 d.ptr d.bytes)
