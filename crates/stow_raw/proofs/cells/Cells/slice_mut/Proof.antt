-- A written run is lent as a slice, and the bytes follow its last value. Assumes `Logic`.
use Rattle.std.proofs.Common.{◌≡◌, ℕ, ◌+◌, ◌^◌, ◌<◌, ◌≤◌, List, [], ◌∷◌, ◌++◌, map, length, take, drop as past, Option, Some, refl, sym, ap, ◌∙◌, subst, arith, length-append, length-take, length-drop, w64}
use Rattle.std.proofs.Math.Seq.{take_at}
use Rattle.std.proofs.lemmas.List.{length-map}
use Rattle.std.proofs.raw_atomic.Walks.{proved}
use Rattle.std.proofs.alloc.Shapes.{after}
use Rattle.std.specs.List.{refill}
use seplogic.Ra.Ura.{Ura}
use base.Fraction.{full_share}
use base.Fml.{Fml, GName, flft, fsep, ftrue}
use base.Logic.{SProp, ent, id⊢, sep}
use mir.Syntax.{named}
use mir.Val.{Val}
use contract.Monad.{fact}
use contract.Running.{tables}
use types.Kit.{‵, raw, ◌⊛◌, ◌$◌, ◌∵◌, !, at_ret, await, done, fjoin, fpack, frame, fsplit3, group, join, keep, later, move, pick, qed, rewrite, some, split, split3, suffices, use1, use2}
use types.Logic.{Logic, sem}
use types.Part.{agg, look_in, sub, whole}
use types.Run.{and_then, bin, blocks, enter, exec, first, fld, load, no_more, of_opd, returns, stop}
use types.ByLocal.{alloc_all, env, free_all, get, look_at, pass_all, sets, sets_last, through}
use types.SemTy.{cells}
use denote.Array.{Array}
use denote.Builtin.{u8, usize}
use denote.Exit.{yes}
use denote.Follow.{follows}
use denote.FollowSlice.{Elements, lends_Elements}
use denote.Memory.{cell_at, mem, part_of}
use denote.Plain.{uint_Tells, uint_vals}
use denote.RattleType.{owns}
use denote.RawPtr.{block_ptr}
use denote.Ref.{MutBor, MutRef, mut_Tells, mut_vals}
use denote.Signature.{plain}
use denote.Slice.{MutSlice, Room, slice_val}
use denote.Steps.{heard, nothing, opens}
use denote.Triple.Walked.{Goes-dropped, Goes-spent_ref, Stays, ends_at, says, stay_dropped, walk_of}
use Rattle.stow_raw.specs.Cells.{Byte, IsWritten, run, written}
use Rattle.stow_raw.specs.CellsLends.{spliced, with_bytes}
use Rattle.stow_raw.specs.contracts.cells.Cells.{the_row}
use Rattle.stow_raw.specs.contracts.cells.Cells.slice_mut as this
use Rattle.stow_raw.specs.declared.cells.Cells.{Cells}
use Rattle.stow_raw.proofs.Rows.{Waits, filled, numbers, over, over_is, run_out}
use Rattle.stow_raw.proofs.Steps.{Fields, holds, looks_in}
use Rattle.stow_raw.proofs.cells.Cells.slice_mut.Statement.{statement}
use Rattle.stow_raw.proofs.cells.Cells.slice_mut.Code as code

abbrev at_exit : Stays this.ended.signature.params this.ended.kept
at_exit = (stay_dropped _ this.ended.kept.0, (stay_dropped _ yes, (stay_dropped _ yes, tt)))

-- d once the slice has ended at ws
abbrev ended_at : Cells → ℕ → ℕ → List ℕ → Cells
ended_at d i len ws = with_bytes d (spliced d.bytes i len (refill len (written (run d.bytes i len)) ws))

as_long : (bytes : List (Option ℕ)) (i len : ℕ) (ws : List ℕ) → i + len ≤ length bytes → length ws ≡ len → length (spliced bytes i len ws) ≡ length bytes
as_long bytes i len ws le same = omega (arith, le, same, length-append (take i bytes) (map Some ws ++ past (i + len) bytes), length-append (map Some ws) (past (i + len) bytes), length-map ws Some, length-take i bytes, length-drop (i + len) bytes)

module _ {M : Type 1} {𝓤 : Ura M} (𝓛 : Logic 𝓤) (d : Cells) (i len mb mo b o : ℕ) (us : List Val) where
  -- all of d but the run
  abbrev Lender : SProp 𝓤
  Lender = sep 𝓤 (Waits 𝓛 mb len (i + mo) mo (over d.bytes i len)) (sep 𝓤 (sem 𝓛 (Fields.own_val (d.ptr, tt) us)) (sem 𝓛 (cell_at full_share the_row.mir us b o)))

  comes_back : d.ptr ≡ block_ptr mb mo → length d.bytes < 2 ^ 63 → i + len ≤ length d.bytes → (ws : List ℕ) → length ws ≡ len
      → ent 𝓤 (sep 𝓤 (sem 𝓛 (cells (mem u8) ws mb (i + mo))) Lender) (sem 𝓛 ((mem the_row).own_at (ended_at d i len ws) b o))
  unfolding part_of
  comes_back lies few le ws same =
      let all : refill len (written (run d.bytes i len)) ws ≡ ws = take_at ws (past (length ws) (written (run d.bytes i len))) len same in
      let new = ended_at d i len ws in
      let size : length new.bytes ≡ length d.bytes = ap (λ (l : List ℕ). length (spliced d.bytes i len l)) all ∙ as_long d.bytes i len ws le same in
      qed 𝓛 (‵ (cells (mem u8) ws mb (i + mo)) ∷ raw (Waits 𝓛 mb len (i + mo) mo (over d.bytes i len)) ∷ ‵ (Fields.own_val (d.ptr, tt) us) ∷ ‵ (cell_at full_share the_row.mir us b o) ∷ []) ∵
      rewrite ! 0 (λ (row : Fml). ‵ row) (sym (numbers ws mb (i + mo))) refl $
      use2 𝓛 (‵ (cells Byte (over d.bytes i len (map Some ws)) mb mo)) (filled 𝓛 mb len (i + mo) mo (over d.bytes i len) (map Some ws) (length-map ws Some ∙ same)) $
      rewrite ! 0 (λ (cs : List (Option ℕ)). ‵ (cells Byte cs mb mo)) (over_is d.bytes i len (map Some ws) ∙ ap (spliced d.bytes i len) (sym all)) refl $
      holds ! new us mb mo lies (subst (λ (n : ℕ). n < 2 ^ 63) (sym size) few) $ move ! (1 ∷ 0 ∷ []) $ fjoin ! $
      fpack ! (List Val) (λ vs. fsep (cell_at full_share the_row.mir vs b o) (the_row.own_val new vs)) us $ done !

pub slice_mut_spec : {M : Type 1} → statement M
slice_mut_spec 𝓤 𝓛 𝓜 𝓡 wired =
    let c = this.clauses 𝓛 𝓜.mem 𝓡.returns in let machine = tables 𝓤 𝓛.H 𝓜 𝓡 𝓡.env in
    proved 𝓛 this.ended at_exit c 𝓜 𝓡
    (Goes-spent_ref 𝓛 1 (0 ∷ []) tt (plain (λ _. the_row)), (Goes-dropped 𝓛 1 (plain (λ _. usize)) yes (λ _ _ _. refl), (Goes-dropped 𝓛 1 (plain (λ _. usize)) yes (λ _ _ _. refl), tt)))
    this.Key.name code.function (code.unfolded 𝓤 𝓛.H 𝓜 𝓡 wired)
    (λ _. (mut_vals, (uint_vals w64, (uint_vals w64, tt)))) (λ κs. (mut_Tells (named 0) κs.0 the_row, (uint_Tells w64, (uint_Tells w64, tt))))
    (λ κs qs bounds a _ are.
    let κ = κs.0 in let q = qs.0 in let self = a.0 in let d = self.now in let b = self.ref_ptr.0 in let o = self.ref_ptr.1 in let i = a.1.0 in let len = a.1.1.0 in
    let fits = are.1.1.0.1 in let γ = self.ghost_name in let code_of = the_row.coded.code d in
    let bytes = run d.bytes i len in let xs = written bytes in
    let y : (walk_of 𝓛 this.ended at_exit c).Ghost = ((κs, qs, bounds, a, (mut_vals self, (uint_vals w64 i, (uint_vals w64 len, tt)))), tt) in
    let held = λ (us : List Val). ‵ (cell_at full_share the_row.mir us b o) in
    qed 𝓛 (((‵ (flft κ q) ⊛ ‵ ftrue) ⊛ (‵ ((MutRef (named 0) κ the_row).own_val self (mut_vals self)) ⊛ ‵ (owns (usize ∷ usize ∷ []) (i, (len, tt)) (uint_vals w64 i, (uint_vals w64 len, tt)))))
    ∷ raw (fact 𝓤 ((i + len ≤ length d.bytes) × IsWritten bytes)) ∷ []) ∵
    move ! (1 ∷ []) $ heard ! _ (λ asked.
    let counted : length xs ≡ len = omega (arith, asked.0, ap length asked.1, length-map xs Some, length-take len (past i d.bytes), length-drop i d.bytes) in
    split ! $ split ! $ move ! (2 ∷ []) $ split ! $ fsplit3 ! $ keep ! (1 ∷ 2 ∷ 4 ∷ []) $
    enter ! _ _ _ _ _ $ alloc_all ! (λ l. pass_all ! refl ((tt, tt), ((tt, record { fits = are.1.0.1 }), ((tt, record { fits = fits }), tt))) $
    opens ! tt the_row b o (λ us. move ! (1 ∷ []) $ looks_in ! d us (λ mb mo lies word few. rewrite ! 2 held word refl $
    -- [the bytes; the fields; the struct's cell; the open borrow, in three entries]
    let at = i + mo in let fewer : length xs < 2 ^ 63 = omega (arith, asked.0) in let room : Room u8 (length xs) = (omega (arith, fewer), omega (arith, fewer)) in
    let back = λ (ws : List ℕ) (same : length ws ≡ length xs). comes_back 𝓛 d i len mb mo b o us lies few asked.0 ws (same ∙ counted) in
    let lender = Lender 𝓛 d i len mb mo b o us in
    first ! $ blocks ! $
    sets ! (of_opd ! (load ! (through ! refl (fld ! refl (stop !))) (look_in ! 2 (sub ! 0 refl (whole !))))) refl (tt, tt) $
    rewrite ! 2 held (sym word) refl $
    sets ! (bin ! (get ! refl) (get ! refl) tt) refl (tt, tt) $
    sets_last ! (agg ! (and_then ! (get ! refl) (and_then ! (get ! refl) (no_more !)))) refl (tt, (tt, (record { fits = fits }, tt))) $
    exec ! machine.C machine.Λ (env code.Mir.locals l) (after 1 (code.function).body) (at_ret _ ((walk_of 𝓛 this.ended at_exit c).post y)) $
    sets ! (of_opd ! (get ! refl)) refl (tt, (tt, (record { fits = fits }, tt))) $
    use1 𝓛 (‵ (cells Byte bytes mb at) ⊛ raw (Waits 𝓛 mb len at mo (over d.bytes i len))) (run_out 𝓛 mb d.bytes i len mo at refl asked.0) $ split ! $
    rewrite ! 0 (λ (cs : List (Option ℕ)). ‵ (cells Byte cs mb at)) asked.1 refl $ rewrite ! 0 (λ (row : Fml). ‵ row) (numbers xs mb at) refl $
    move ! (4 ∷ 5 ∷ 6 ∷ 0 ∷ 1 ∷ 2 ∷ 3 ∷ []) $ group ! 7 $
    use1 𝓛 (later (some (λ (δ : GName). raw (Elements 𝓛 the_row u8 (ended_at d i len) (named 0) κ q b o mb at γ xs room lender back δ))))
    (lends_Elements 𝓛 the_row u8 (ended_at d i len) (named 0) κ q b o mb at γ xs room lender back code_of code_of) $ await ! tt $ pick ! (λ δ.
    let r : MutBor (List ℕ) = record { ref_ptr = (mb, at); ghost_name = δ; now = xs } in
    let parts = λ (n : ℕ). sep 𝓤 (sem 𝓛 ((MutSlice (named 0) κ u8).own_val r (slice_val (mb, at) n ∷ []))) (sep 𝓤 (sem 𝓛 (flft κ q)) (sem 𝓛 (follows the_row (Array u8 0) γ δ (ended_at d i len)))) in
    use1 𝓛 (‵ ((MutSlice (named 0) κ u8).own_val r (slice_val (mb, at) len ∷ [])) ⊛ ‵ (flft κ q) ⊛ ‵ (follows the_row (Array u8 0) γ δ (ended_at d i len)))
    (subst (λ (n : ℕ). ent 𝓤 (Elements 𝓛 the_row u8 (ended_at d i len) (named 0) κ q b o mb at γ xs room lender back δ) (parts n)) counted (id⊢ 𝓤 _)) $ split3 ! $
    returns ! (look_at ! 0 refl) $ free_all ! refl $
    -- [the slice; the token; what follows it]
    suffices ! _ (ends_at 𝓛 this.ended at_exit c y (slice_val (mb, at) len) r (tt, (tt, (tt, tt))) (tt, (tt, (tt, tt)))) $
    nothing ! $ nothing ! $ fjoin ! $ nothing ! $ fjoin ! $ nothing ! $ fjoin ! $ join ! $
    nothing ! $ move ! (2 ∷ 0 ∷ []) $ join ! $ join ! $ frame ! $ says ! refl $ done !))))))
