-- A `Cells` is looked into and put together: it is a pointer, beside the bytes behind it. Assumes `Logic`.
use Rattle.std.proofs.Common.{◌≡◌, ℕ, ◌^◌, ◌<◌, List, [], ◌∷◌, length, refl, sym, ap, ◌∙◌}
use seplogic.Ra.Ura.{Ura}
use base.Logic.{id⊢}
use mir.Val.{Val, vcons, vnil, vstruct}
use types.Kit.{Goal, Item, Seq, Step, ‵, ◌$◌, flt_i, flt_l, fjoin, fsplit, move, rewrite, step}
use types.Logic.{Logic}
use types.SemTy.{cells}
use denote.Laws.{shows}
use denote.RattleType.{RattleType}
use denote.RawPtr.{Ptr, block_ptr, in_a_block, ptr_val, rawptr_pure}
use denote.Steps.{owned, peeks}
use denote.Struct.Owning.{shape}
use denote.Struct.Struct.{Struct, Struct-Makes}
use Rattle.stow_raw.specs.Cells.{Byte, bytes_owned}
use Rattle.stow_raw.specs.contracts.cells.Cells.{the_row, the_type}
use Rattle.stow_raw.specs.contracts.lease.Lease as lease
use Rattle.stow_raw.specs.declared.cells.Cells.{Cells}
use Rattle.std.specs.declared.alloc.Allocator.{Ghosts}
use Rattle.stow_raw.proofs.cells.Cells.TheLaws.{lowers}

-- its fields
abbrev pub Fields : RattleType
Fields = Struct (shape the_type)

-- its machine value
abbrev pub pointing : Ptr → List Val
pointing p = lowers.lowered (record { ptr = p; bytes = [] }) ∷ []

module _ {M : Type 1} {𝓤 : Ura M} {𝓛 : Logic 𝓤} {K : Type 0} {Γ : List (Item 𝓤)} {G : Goal 𝓤 𝓛.H} where
  -- [the bytes; the fields]
  pub looks_in : K → (d : Cells) (us : List Val)
      → ((b o : ℕ) → d.ptr ≡ block_ptr b o → us ≡ pointing (block_ptr b o) → length d.bytes < 2 ^ 63 → Seq K 𝓛 (‵ (cells Byte d.bytes b o) ∷ ‵ (Fields.own_val (d.ptr, tt) us) ∷ Γ) G)
      → Seq K 𝓛 (‵ (the_row.own_val d us) ∷ Γ) G
  looks_in t d us k =
      peeks t the_row _ (shows 𝓛 the_row) d us (λ is. fsplit t $ move t (1 ∷ []) $
      in_a_block t d.ptr (λ p. bytes_owned p d.bytes) (id⊢ 𝓤 _) (λ b o at. fsplit t $ flt_l t (λ few.
      k b o at (lowers.val_is d us is ∙ ap pointing at) few)))

  pub holds : K → (d : Cells) (us : List Val) (b o : ℕ) → d.ptr ≡ block_ptr b o → length d.bytes < 2 ^ 63
      → Step K 𝓛 (‵ (the_row.own_val d us) ∷ Γ) G (‵ (cells Byte d.bytes b o) ∷ ‵ (Fields.own_val (d.ptr, tt) us) ∷ Γ) G
  holds t d us b o at few = step (λ s.
      flt_i t (length d.bytes) (2 ^ 63) few $ fjoin t $ rewrite t 0 (λ (p : Ptr). ‵ (bytes_owned p d.bytes)) (sym at) refl $ move t (1 ∷ []) $ fjoin t $ s)

  -- the field of a `Cells` that points to p
  pub pointed : K → (p : Ptr) → Step K 𝓛 (‵ (Fields.own_val (p, tt) (pointing p)) ∷ Γ) G Γ G
  pointed t p = step (λ s. owned t Fields _ (Struct-Makes 𝓛 (shape the_type) (rawptr_pure, tt)) (p, tt) (pointing p) ((ptr_val p ∷ [], tt), (refl, (refl, tt))) $ s)

-- a `Lease`, which takes no space, as the machine has it
abbrev pub mark : List Val
mark = vstruct (vcons (vstruct vnil) vnil) ∷ []

-- its fields
abbrev pub Marks : (A : RattleType) → Ghosts A.Denot → RattleType
Marks A g = Struct (shape (lease.the_type A g))

module _ {M : Type 1} {𝓤 : Ura M} {𝓛 : Logic 𝓤} {K : Type 0} {Γ : List (Item 𝓤)} {G : Goal 𝓤 𝓛.H} where
  pub marked : K → (A : RattleType) (g : Ghosts A.Denot) → Step K 𝓛 (‵ ((Marks A g).own_val (record {}, tt) mark) ∷ Γ) G Γ G
  marked t A g = step (λ s.
      owned t (Marks A g) _ (Struct-Makes 𝓛 (shape (lease.the_type A g)) ((λ _ _ _. (tt, tt)), tt)) (record {}, tt) mark ((vstruct vnil ∷ [], tt), (refl, ((tt, (refl, tt)), tt))) $ s)
