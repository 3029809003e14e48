-- A borrow of a lease can be shared: what it then shows is nothing. Assumes `Logic`.
use denote.RattleType.{RattleType}
use denote.RawPtr.{RawPtr}
use denote.Param.Laws.{Laws}
use denote.Param.Shared.{copy_shared}
use denote.SharingLaws.{nothing_shr_laws}
use denote.Struct.Laws.{field_copy}
use denote.Struct.Lending.{Lends-nothing, of_Lends}
use Rattle.std.specs.declared.alloc.Allocator.{Ghosts}
use Rattle.std.specs.contracts.marker.PhantomData.{the_field, the_row, the_type}
use Rattle.stow_raw.specs.contracts.lease.Lease as this
use Rattle.stow_raw.proofs.lease.Lease.TheLaw.Statement.{statement}

pub shares : (A : RattleType) (g : Ghosts A.Denot) (P : Laws A) → statement A g P
shares A g P =
    of_Lends (this.struct A g) (this.the_codes A.Denot A.coded (the_row RawPtr).coded) (this.the_heap A g) (this.the_lent A g)
    (λ _ _. nothing_shr_laws)
    (copy_shared (the_field RawPtr) (field_copy (the_type RawPtr) tt), tt)
    (λ M 𝓤 𝓛 d _. Lends-nothing 𝓛 (this.the_heap A g d) (this.the_row A g).lives)
