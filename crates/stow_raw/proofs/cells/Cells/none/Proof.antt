-- A row of no bytes lies at any local, as at one that takes none. Assumes `Logic`.
use Rattle.std.proofs.Common.{[], ◌∷◌, refl, lit<}
use Rattle.std.proofs.raw_atomic.Walks.{proved_at}
use types.Kit.{‵, raw, ◌⊛◌, ◌$◌, ◌∵◌, !, done, frame, keep, qed, split, suffices}
use types.Part.{agg}
use types.Run.{addr, and_then, enter, from, no_more, of_opd, returns, stop}
use types.ByLocal.{alloc_all, free_all, get, look_at, pass_all, sets}
use denote.RawPtr.{block_ptr}
use denote.Steps.{nothing}
use denote.Triple.Entry.{alive}
use denote.Triple.Walked.{ends_at, says}
use base.Fml.{ftrue}
use Rattle.stow_raw.specs.contracts.cells.Cells.none as this
use Rattle.stow_raw.specs.declared.cells.Cells.{Cells}
use Rattle.stow_raw.proofs.Steps.{holds, pointed, pointing}
use Rattle.stow_raw.proofs.cells.Cells.TheLaws.{lowers}
use Rattle.stow_raw.proofs.cells.Cells.none.Statement.{statement}
use Rattle.stow_raw.proofs.cells.Cells.none.Code as code

pub none_spec : {M : Type 1} → statement M
none_spec 𝓤 𝓛 𝓜 𝓡 wired =
    let c = this.clauses 𝓛 𝓜.mem 𝓡.returns in
    proved_at 𝓛 this.ended tt c 𝓜 𝓡 tt this.Key.name code.function (code.unfolded 𝓤 𝓛.H 𝓜 𝓡 wired) (λ y _.
    qed 𝓛 ((raw (alive 𝓛 this.signature y.0.0 y.0.1) ⊛ ‵ ftrue) ∷ ‵ ftrue ∷ []) ∵ split ! $ keep ! (0 ∷ []) $
    enter ! _ _ _ _ _ $ alloc_all ! (λ l. pass_all ! refl tt $
    let here = block_ptr (l 1) 0 in let empty : Cells = record { ptr = here; bytes = [] } in
    sets ! (agg ! (no_more !)) refl (tt, tt) $
    sets ! (addr ! (from ! (stop !))) refl (tt, tt) $
    sets ! (of_opd ! (get ! refl)) refl (tt, tt) $
    sets ! (agg ! (and_then ! (get ! refl) (no_more !))) refl (tt, (tt, tt)) $
    returns ! (look_at ! 0 refl) $ free_all ! refl $
    suffices ! _ (ends_at 𝓛 this.ended tt c y (lowers.lowered empty) empty tt tt) $ says ! refl $
    frame ! $ nothing ! $ frame ! $ pointed ! here $ nothing ! $ holds ! empty (pointing here) (l 1) 0 refl (lit< tt) $ done !))
