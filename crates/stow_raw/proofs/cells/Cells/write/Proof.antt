-- The byte to be written is taken out of the row as room, and put back as a number. Assumes `Logic`.
use Rattle.std.proofs.Common.{◌≡◌, ℕ, suc, ◌+◌, ◌^◌, ◌<◌, List, [], ◌∷◌, ◌++◌, length, take, drop as past, set, get_or, Option, Some, None, refl, sym, ap, ◌∙◌, subst, arith, length-set, w8, w64}
use Rattle.std.proofs.Math.Seq.{drop-cons}
use Rattle.std.proofs.lemmas.List.{set_split}
use Rattle.std.proofs.raw_atomic.Walks.{proved}
use Rattle.std.proofs.alloc.Shapes.{after}
use base.Fraction.{full_share}
use base.Fml.{flft, froom, ftrue}
use mir.Syntax.{named, ty_int}
use mir.Val.{Val, vunit}
use contract.Monad.{fact}
use contract.Running.{tables}
use types.Kit.{‵, raw, ◌⊛◌, ◌$◌, ◌∵◌, !, at_ret, done, feq_i, fjoin, fjoin3, frame, fsplit, fsplit3, join, keep, move, qed, rewrite, split, suffices, use1, use2}
use types.Part.{look_in, sub, whole}
use types.Run.{assigns_last, bin, blocks, enter, exec, first, fld, init, load, of_opd, returns, stop, unit_lit}
use types.ByLocal.{alloc_all, env, free_all, get, look_at, pass_all, sets, through}
use types.SemTy.{cells}
use denote.Builtin.{u8, usize}
use denote.Exit.{yes}
use denote.Memory.{cell_at, part_at}
use denote.RattleType.{owns}
use denote.Plain.{uint_in, uint_Tells, uint_vals}
use denote.Ref.{MutRef, mut_Tells, mut_vals}
use denote.Signature.{plain}
use denote.Steps.{closes, heard, nothing, opens}
use denote.Triple.Walked.{Goes-dropped, Goes-ref, Stays, ends_at, says, stay_dropped, stay_ref, walk_of}
use Rattle.stow_raw.specs.Cells.{Byte, run}
use Rattle.stow_raw.specs.CellsLends.{with_bytes}
use Rattle.stow_raw.specs.contracts.cells.Cells.{the_row}
use Rattle.stow_raw.specs.contracts.cells.Cells.write as this
use Rattle.stow_raw.proofs.Rows.{Waits, byte_room, filled, over, over_is, run_out}
use Rattle.stow_raw.proofs.Steps.{holds, looks_in}
use Rattle.stow_raw.proofs.cells.Cells.write.Statement.{statement}
use Rattle.stow_raw.proofs.cells.Cells.write.Code as code

abbrev at_exit : Stays this.ended.signature.params this.ended.kept
at_exit = (stay_ref (0 ∷ []) tt (plain (λ _. the_row)), (stay_dropped _ yes, (stay_dropped _ yes, tt)))

-- a row with one byte written over
one_set : (bytes : List (Option ℕ)) (i : ℕ) (c : Option ℕ) → i < length bytes → over bytes i 1 (c ∷ []) ≡ set bytes i c
one_set bytes i c within = let next : i + 1 ≡ suc i = omega arith in over_is bytes i 1 (c ∷ []) ∙ ap (λ n. take i bytes ++ c ∷ past n bytes) next ∙ sym (set_split bytes i c within)

pub write_spec : {M : Type 1} → statement M
write_spec 𝓤 𝓛 𝓜 𝓡 wired =
    let c = this.clauses 𝓛 𝓜.mem 𝓡.returns in let machine = tables 𝓤 𝓛.H 𝓜 𝓡 𝓡.env in
    proved 𝓛 this.ended at_exit c 𝓜 𝓡
    (Goes-ref 𝓛 1 0 tt (plain (λ _. the_row)), (Goes-dropped 𝓛 1 (plain (λ _. usize)) yes (λ _ _ _. refl), (Goes-dropped 𝓛 1 (plain (λ _. u8)) yes (λ _ _ _. refl), tt)))
    this.Key.name code.function (code.unfolded 𝓤 𝓛.H 𝓜 𝓡 wired)
    (λ _. (mut_vals, (uint_vals w64, (uint_vals w8, tt)))) (λ κs. (mut_Tells (named 0) κs.0 the_row, (uint_Tells w64, (uint_Tells w8, tt))))
    (λ κs qs bounds a _ are.
    let self = a.0 in let d = self.now in let b = self.ref_ptr.0 in let o = self.ref_ptr.1 in let i = a.1.0 in let byte = a.1.1.0 in
    let small = are.1.1.0.1 in
    let y : (walk_of 𝓛 this.ended at_exit c).Ghost = ((κs, qs, bounds, a, (mut_vals self, (uint_vals w64 i, (uint_vals w8 byte, tt)))), tt) in
    let new = with_bytes d (set d.bytes i (Some byte)) in
    let held = λ (us : List Val). ‵ (cell_at full_share the_row.mir us b o) in
    qed 𝓛 (((‵ (flft κs.0 qs.0) ⊛ ‵ ftrue) ⊛ (‵ ((MutRef (named 0) κs.0 the_row).own_val self (mut_vals self)) ⊛ ‵ (owns (usize ∷ u8 ∷ []) (i, (byte, tt)) (uint_vals w64 i, (uint_vals w8 byte, tt))))) ∷ raw (fact 𝓤 (i < length d.bytes)) ∷ []) ∵
    move ! (1 ∷ []) $ heard ! _ (λ within. split ! $ split ! $ move ! (2 ∷ []) $ split ! $ fsplit3 ! $ keep ! (1 ∷ 2 ∷ 4 ∷ 0 ∷ []) $
    enter ! _ _ _ _ _ $ alloc_all ! (λ l. pass_all ! refl ((tt, tt), ((tt, record { fits = are.1.0.1 }), ((tt, record { fits = small }), tt))) $
    opens ! tt the_row b o (λ us. move ! (1 ∷ []) $ looks_in ! d us (λ mb mo lies word few. rewrite ! 2 held word refl $
    -- [the bytes; the fields; the struct's cell; the open borrow, in three entries; where it lies]
    first ! $ blocks ! $
    sets ! (of_opd ! (load ! (through ! refl (fld ! refl (stop !))) (look_in ! 2 (sub ! 0 refl (whole !))))) refl (tt, tt) $
    sets ! (bin ! (get ! refl) (get ! refl) tt) refl (tt, tt) $
    use1 𝓛 (‵ (cells Byte (run d.bytes i 1) mb (i + mo)) ⊛ raw (Waits 𝓛 mb 1 (i + mo) mo (over d.bytes i 1))) (run_out 𝓛 mb d.bytes i 1 mo (i + mo) refl (omega (arith, within))) $ split ! $
    rewrite ! 0 (λ (cs : List (Option ℕ)). ‵ (cells Byte cs mb (i + mo))) (ap (take 1) (drop-cons d.bytes i None within)) refl $ fsplit ! $
    use1 𝓛 (‵ (froom (ty_int w8) mb (i + mo))) (byte_room 𝓛 mb (get_or d.bytes i None) (i + mo)) $
    assigns_last ! (of_opd ! (get ! refl)) (through ! refl (stop !)) (init ! 0 refl (tt, record { fits = small })) $
    exec ! machine.C machine.Λ (env code.Mir.locals l) (after 1 (code.function).body) (at_ret _ ((walk_of 𝓛 this.ended at_exit c).post y)) $
    sets ! (of_opd ! (unit_lit !)) refl (tt, tt) $
    use1 𝓛 (‵ (part_at u8 full_share byte mb (i + mo))) (uint_in 𝓛 full_share w8 byte mb (i + mo)) $ fjoin ! $
    use2 𝓛 (‵ (cells Byte (over d.bytes i 1 (Some byte ∷ [])) mb mo)) (filled 𝓛 mb 1 (i + mo) mo (over d.bytes i 1) (Some byte ∷ []) refl) $
    rewrite ! 0 (λ (cs : List (Option ℕ)). ‵ (cells Byte cs mb mo)) (one_set d.bytes i (Some byte) within) refl $
    holds ! new us mb mo lies (subst (λ (n : ℕ). n < 2 ^ 63) (sym (length-set d.bytes i (Some byte))) few) $
    move ! (1 ∷ []) $ rewrite ! 0 held (sym word) refl $ closes ! tt the_row new us b o $
    returns ! (look_at ! 0 refl) $ free_all ! refl $
    -- [two parts of self; the token; where it lies]
    suffices ! _ (ends_at 𝓛 this.ended at_exit c y vunit tt (new, (tt, (tt, tt))) (tt, (tt, (tt, tt)))) $ says ! refl $
    nothing ! $ move ! (3 ∷ 0 ∷ []) $ join ! $
    nothing ! $ nothing ! $ fjoin ! $ nothing ! $ fjoin ! $ move ! (4 ∷ 2 ∷ 3 ∷ 0 ∷ []) $ fjoin3 ! $ fjoin ! $
    move ! (1 ∷ []) $ frame ! $ frame ! $ feq_i ! _ (vunit ∷ []) _ refl $ done !)))))
