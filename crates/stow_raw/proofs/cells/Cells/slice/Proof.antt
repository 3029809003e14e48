-- What a `&` to the bytes shows of a written run is what a `&` to a slice shows. Assumes `Logic`.
use Rattle.std.proofs.Common.{◌≡◌, ℕ, ◌+◌, ◌*◌, ◌^◌, ◌<◌, ◌≤◌, List, [], ◌∷◌, length, drop as past, Option, Some, refl, sym, ap, subst, arith, length-take, length-drop, w64}
use Rattle.std.proofs.Words.{pointer_in, pointer_out}
use Rattle.std.proofs.lemmas.List.{length-map}
use Rattle.std.proofs.raw_atomic.Walks.{proved}
use Rattle.std.proofs.alloc.Shapes.{after}
use seplogic.Ra.Ura.{Ura}
use base.Fml.{Fml, Lft, fhide, flft, flt, ftrue}
use base.Logic.{ent, id⊢, sep}
use mir.Syntax.{named}
use mir.Val.{Val}
use contract.Monad.{fact}
use contract.Running.{tables}
use types.Kit.{‵, raw, ◌⊛◌, ◌$◌, ◌∵◌, !, at_ret, done, feq_i, fjoin, flt_i, flt_l, frame, fsplit, join, keep, move, qed, rewrite, split, suffices, use1}
use types.Logic.{Logic, sem}
use types.Part.{agg}
use types.Run.{and_then, bin, blocks, enter, exec, first, fld, load, look, no_more, of_opd, returns, stop}
use types.ByLocal.{alloc_all, env, free_all, get, look_at, pass_all, sets, sets_last, through}
use denote.Builtin.{usize}
use denote.Exit.{yes}
use denote.Memory.{each_shared, hidden_shr}
use denote.Opens.{hide, shr_dup, unhide}
use denote.Plain.{uint_Tells, uint_vals}
use denote.RattleType.{owns}
use denote.RawPtr.{InBlock, Ptr, RawPtr, block_of, count_of, in_a_block, in_block, ptr_row_laws}
use denote.Ref.{ShrRef, shr_Tells, shr_vals}
use denote.Signature.{plain, shr_ref_to}
use denote.Slice.{slice_val}
use denote.Steps.{heard, nothing}
use denote.Struct.Lending.{lent_out}
use denote.Triple.Walked.{Goes-dropped, Stays, ends_at, says, stay_dropped, walk_of}
use Rattle.stow_raw.specs.Cells.{IsWritten, byte_lent, bytes_lent, run, written}
use Rattle.stow_raw.specs.contracts.cells.Cells as owner
use Rattle.stow_raw.specs.contracts.cells.Cells.slice as this
use Rattle.stow_raw.proofs.Rows.{numbers_seen, run_seen}
use Rattle.stow_raw.proofs.Steps.{Fields}
use Rattle.stow_raw.proofs.cells.Cells.slice.Statement.{statement}
use Rattle.stow_raw.proofs.cells.Cells.slice.Code as code

abbrev at_exit : Stays this.ended.signature.params this.ended.kept
at_exit = (stay_dropped _ this.ended.kept.0, (stay_dropped _ yes, (stay_dropped _ yes, tt)))

-- a `&` to a pointer is there twice
two : {M : Type 1} {𝓤 : Ura M} (𝓛 : Logic 𝓤) (κ : Lft) (p : Ptr) (b o : ℕ) → ent 𝓤 (sem 𝓛 (hidden_shr RawPtr κ p b o)) (sep 𝓤 (sem 𝓛 (hidden_shr RawPtr κ p b o)) (sem 𝓛 (hidden_shr RawPtr κ p b o)))
two 𝓛 κ p b o = qed 𝓛 (‵ (hidden_shr RawPtr κ p b o) ∷ []) ∵ shr_dup ! RawPtr ptr_row_laws p b o κ $ done !

pub slice_spec : {M : Type 1} → statement M
slice_spec 𝓤 𝓛 𝓜 𝓡 wired =
    let c = this.clauses 𝓛 𝓜.mem 𝓡.returns in let machine = tables 𝓤 𝓛.H 𝓜 𝓡 𝓡.env in
    proved 𝓛 this.ended at_exit c 𝓜 𝓡
    (Goes-dropped 𝓛 1 (shr_ref_to (0 ∷ []) tt (plain (λ _. owner.the_row))) this.ended.kept.0 (λ _ _ _. refl), (Goes-dropped 𝓛 1 (plain (λ _. usize)) yes (λ _ _ _. refl), (Goes-dropped 𝓛 1 (plain (λ _. usize)) yes (λ _ _ _. refl), tt)))
    this.Key.name code.function (code.unfolded 𝓤 𝓛.H 𝓜 𝓡 wired)
    (λ _. (shr_vals, (uint_vals w64, (uint_vals w64, tt)))) (λ κs. (shr_Tells (named 0) κs.0 owner.the_row, (uint_Tells w64, (uint_Tells w64, tt))))
    (λ κs qs bounds a _ are.
    let κ = κs.0 in let self = a.0 in let d = self.now in let b = self.ref_ptr.0 in let o = self.ref_ptr.1 in let i = a.1.0 in let len = a.1.1.0 in
    let fits = are.1.1.0.1 in let xs = written (run d.bytes i len) in
    let y : (walk_of 𝓛 this.ended at_exit c).Ghost = ((κs, qs, bounds, a, (shr_vals self, (uint_vals w64 i, (uint_vals w64 len, tt)))), tt) in
    let mb = block_of d.ptr in let at = i + count_of d.ptr in
    qed 𝓛 (((‵ (flft κ qs.0) ⊛ ‵ ftrue) ⊛ (‵ ((ShrRef (named 0) κ owner.the_row).own_val self (shr_vals self)) ⊛ ‵ (owns (usize ∷ usize ∷ []) (i, (len, tt)) (uint_vals w64 i, (uint_vals w64 len, tt)))))
    ∷ raw (fact 𝓤 ((i + len ≤ length d.bytes) × IsWritten (run d.bytes i len))) ∷ []) ∵
    move ! (1 ∷ []) $ heard ! _ (λ asked.
    let counted : length xs ≡ len = omega (arith, asked.0, ap length asked.1, length-map xs Some, length-take len (past i d.bytes), length-drop i d.bytes) in
    split ! $ split ! $ move ! (2 ∷ []) $ split ! $ fsplit ! $ keep ! (1 ∷ 3 ∷ []) $
    use1 𝓛 (‵ (hidden_shr Fields κ (d.ptr, tt) b o) ⊛ ‵ (fhide (bytes_lent d.ptr d.bytes κ))) (lent_out 𝓛 owner.struct owner.the_codes owner.the_heap owner.the_lent κ d b o) $ split ! $
    unhide ! $ fsplit ! $ fsplit ! $ move ! (3 ∷ []) $ unhide ! $ fsplit ! $
    in_a_block ! d.ptr (λ p. in_block p (flt (length d.bytes) (2 ^ 63))) (id⊢ 𝓤 _) (λ _ _ lies. flt_l ! (λ few.
    -- [what is shown of the bytes; of the pointer; nothing; the rest of the struct's cell; the token]
    let inside : InBlock d.ptr = subst InBlock (sym lies) tt in let room : length xs < 2 ^ 63 = omega (arith, asked.0) in
    use1 𝓛 (‵ (each_shared (run d.bytes i len) byte_lent 1 mb at κ)) (run_seen 𝓛 mb κ d.bytes i len (count_of d.ptr) at refl) $
    rewrite ! 0 (λ (cs : List (Option ℕ)). ‵ (each_shared cs byte_lent 1 mb at κ)) asked.1 refl $ rewrite ! 0 (λ (shown : Fml). ‵ shown) (numbers_seen xs mb at κ) refl $
    hide ! $ flt_i ! (length xs * 1) (2 ^ 63) (omega (arith, room)) $ flt_i ! (length xs) (2 ^ 64) (omega (arith, room)) $ fjoin ! $
    feq_i ! (List Val) (slice_val (mb, at) len ∷ []) (slice_val (mb, at) (length xs) ∷ []) (ap (λ (n : ℕ). slice_val (mb, at) n ∷ []) (sym counted)) $ fjoin ! $ fjoin ! $
    move ! (1 ∷ 4 ∷ 0 ∷ []) $ use1 𝓛 (‵ (hidden_shr RawPtr κ d.ptr b (o + 0))) (id⊢ 𝓤 _) $ keep ! (0 ∷ 1 ∷ 2 ∷ []) $
    -- [what is shown of the pointer; the token; the slice]
    enter ! _ _ _ _ _ $ alloc_all ! (λ l. pass_all ! refl ((tt, tt), ((tt, record { fits = are.1.0.1 }), ((tt, record { fits = fits }), tt))) $
    first ! $ blocks ! $ pointer_in ! tt d.ptr inside b (o + 0) (two 𝓛 κ d.ptr b (o + 0)) (λ share.
    sets ! (of_opd ! (load ! (through ! refl (fld ! refl (stop !))) (look ! 1 refl))) refl (tt, tt) $
    pointer_out ! tt d.ptr inside b (o + 0) $
    sets ! (bin ! (get ! refl) (get ! refl) tt) refl (tt, tt) $
    sets_last ! (agg ! (and_then ! (get ! refl) (and_then ! (get ! refl) (no_more !)))) refl (tt, (tt, (record { fits = fits }, tt))) $
    exec ! machine.C machine.Λ (env code.Mir.locals l) (after 1 (code.function).body) (at_ret _ ((walk_of 𝓛 this.ended at_exit c).post y)) $
    sets ! (of_opd ! (get ! refl)) refl (tt, (tt, (record { fits = fits }, tt))) $
    returns ! (look_at ! 0 refl) $ free_all ! refl $ keep ! (0 ∷ 2 ∷ []) $
    suffices ! _ (ends_at 𝓛 this.ended at_exit c y (slice_val (mb, at) len) (record { ref_ptr = (mb, at); now = xs }) (tt, (tt, (tt, tt))) (tt, (tt, (tt, tt)))) $ says ! refl $
    nothing ! $ move ! (1 ∷ 0 ∷ []) $ join ! $ frame ! $
    nothing ! $ nothing ! $ fjoin ! $ nothing ! $ fjoin ! $ nothing ! $ fjoin ! $ frame ! $ done !))))))
