-- The bytes, written or not, are room again, which goes back to the allocator with the right to free it. Assumes `Logic`.
use Rattle.std.proofs.Common.{◌≡◌, ℕ, ◌*◌, List, [], ◌∷◌, ◌++◌, length, refl, sym, subst, ◌∙◌, arith, lit<, w64}
use Rattle.std.proofs.raw_atomic.Walks.{proved_at}
use Rattle.std.proofs.alloc.Calls.{Al, Gives, Gives-Gives, Gives-goes, Goes-blank, at_gives, seen}
use Rattle.std.proofs.alloc.Shapes.{after}
use base.Fml.{flft, froom, ftrue}
use base.Logic.{id⊢}
use lib.Dec.{T}
use mir.Syntax.{Args, Fn, a_type, dcons, dnil, ty_unit}
use mir.MapTy.{inst_fn}
use mir.Val.{Val, WT, has_ty, vint, vptr, vunit}
use prog.Capped.{capped_is}
use prog.Wp.{WpFn}
use contract.BorrowLft.{⊑_trans}
use contract.Monad.{fact}
use contract.Running.{tables}
use types.Kit.{‵, raw, ◌⊛◌, ◌$◌, ◌∵◌, !, at_ret, await, done, feq_i, fjoin, fsplit, given, group, join, keep, later, learn, move, prop, qed, regoal, rewrite, split, suffices, use1}
use types.Part.{sub, whole}
use types.Run.{and_then, blocks, enter, exec, first, fld, lit, no_more, of_opd, returns, stop, unit_lit}
use types.ByLocal.{alloc_all, env, free_all, get, get_in, lands_last, look_at, pass_all, sets}
use denote.Builtin.{usize}
use denote.Param.{bounded, param}
use denote.RattleType.{owns}
use denote.RawPtr.{Ptr, block_ptr}
use denote.Signature.{plain, shr_ref_to, types_at}
use denote.Steps.{heard, nothing}
use denote.Triple.Call.{calls_at_last}
use denote.Triple.Entry.{alive}
use denote.Triple.Table.{framed}
use denote.Triple.Walked.{Goes-dropped, Stays, ends_at, stay_dropped, walk_of}
use Rattle.stow_raw.specs.Frees.{Frees}
use Rattle.stow_raw.specs.Lease.{bytes_type, lease_owned}
use Rattle.stow_raw.specs.contracts.cells.Cells as bytes
use Rattle.stow_raw.specs.contracts.lease.Lease as lease
use Rattle.stow_raw.specs.contracts.lease.Lease.give_back as this
use Rattle.stow_raw.proofs.Rows.{row_room}
use Rattle.stow_raw.proofs.Steps.{looks_in, mark, pointing}
use Rattle.stow_raw.proofs.lease.Lease.TheLaws.{lowers}
use Rattle.stow_raw.proofs.lease.Lease.give_back.Statement.{statement}
use Rattle.stow_raw.proofs.lease.Lease.give_back.Code as code

pub give_back_spec : {M : Type 1} → statement M
give_back_spec 𝓤 𝓛 𝓜 𝓡 wired A laws g methods drops met _ =
    let S = this.ended A g methods drops in let c = this.clauses A g methods drops 𝓛 𝓜.mem 𝓡.returns in let machine = tables 𝓤 𝓛.H 𝓜 𝓡 𝓡.env in
    let args : Args = bounded (a_type ∷ []) (A, tt) (dcons methods (dcons drops dnil)) in let fn : Fn = inst_fn args code.function in
    let Y : Al = record { row = A; laws = laws; g = g; d = methods; drops = drops } in
    let at_exit : Stays S.signature.params S.kept = (stay_dropped _ S.kept.0, (stay_dropped _ S.kept.1.0, (stay_dropped _ S.kept.1.1.0, (stay_dropped _ S.kept.1.1.1.0, tt)))) in
    let W = walk_of 𝓛 S at_exit c in
    proved_at 𝓛 S at_exit c 𝓜 𝓡
    (Goes-blank 𝓛 2 (plain (λ _. lease.the_row (param 0 A) g)) S.kept.0 (λ _ _ _. tt), (Goes-blank 𝓛 2 (plain (λ _. bytes.the_row)) S.kept.1.0 (λ _ _ _. tt), (Goes-dropped 𝓛 2 (plain (λ _. usize)) S.kept.1.1.0 (λ _ _ _. refl), (Goes-dropped 𝓛 2 (shr_ref_to (0 ∷ []) tt (plain (λ _. param 0 A))) S.kept.1.1.1.0 (λ _ _ _. refl), tt))))
    (this.Key.name args) fn (code.unfolded 𝓤 𝓛.H 𝓜 𝓡 wired (A, tt) methods drops) (λ y are.
    let κ = y.0.0.0 in let q = y.0.1.0 in let κ' = y.0.0.1.0 in let q' = y.0.1.1.0 in
    let k = y.0.3.0 in let x = y.0.3.1.0 in let n = y.0.3.1.1.0 in let handle = y.0.3.1.1.1.0.now in let at = y.0.3.1.1.1.0.ref_ptr in
    let fits = are.1.1.0.1 in
    qed 𝓛 ((raw (alive 𝓛 S.signature y.0.0 y.0.1) ⊛ ‵ (owns (types_at S.signature.params y.0.0) y.0.3 y.0.4)) ∷ (raw (fact 𝓤 _) ⊛ raw (fact 𝓤 (Frees k x.ptr n handle × (length x.bytes ≡ n)))) ∷ []) ∵
    move ! (1 ∷ []) $ split ! $ heard ! _ (λ alive_handle. heard ! _ (λ asked. split ! $
    use1 𝓛 (‵ (flft κ q) ⊛ (‵ (flft κ' q') ⊛ ‵ ftrue)) (id⊢ 𝓤 _) $ split ! $ move ! (2 ∷ []) $
    fsplit ! $ fsplit ! $ move ! (2 ∷ []) $ fsplit ! $ looks_in ! x y.0.4.1.0 (λ b o lies word few.
    use1 𝓛 (‵ (froom (bytes_type (length x.bytes)) b o)) (row_room 𝓛 b x.bytes o) $ rewrite ! 0 (λ (m : ℕ). ‵ (froom (bytes_type m) b o)) asked.1 refl $
    -- [the room; the pointer; the other parameters; the mark; the right to free the block; the tokens]
    move ! (4 ∷ []) $ rewrite ! 0 (λ (u : A.Denot × ℕ × Ptr). ‵ (lease_owned (g.dealloc_token u.0) u.2 u.1)) (λ i. (asked.0.2 i, asked.0.1 i, (asked.0.0 ∙ lies) i)) refl $
    move ! (3 ∷ []) $ fsplit ! $ move ! (1 ∷ []) $ fsplit ! $ fsplit ! $ move ! (1 ∷ []) $ use1 𝓛 (‵ (seen Y κ at handle)) (id⊢ 𝓤 _) $ keep ! (5 ∷ 4 ∷ 0 ∷ 8 ∷ 9 ∷ []) $
    -- [the room; the right to free it; the handle; its lifetime's token; the other token]
    let z = at_gives Y 𝓛 𝓜.mem 𝓡.returns κ q at handle b o n 1 (bytes_type n) in
    regoal ! (λ (us : List Val). prop (WpFn 𝓤 𝓛.H machine.C machine.Λ fn us (W.post y)))
    (λ i. (lowers A g laws).val_is k y.0.4.0 are.0 i ++ (word i ++ (are.1.1.0.0 i ++ (are.1.1.1.0.0 i ++ [])))) refl $
    enter ! machine.C machine.Λ fn (mark ++ (pointing (block_ptr b o) ++ (vint w64 n ∷ vptr at.0 at.1 ∷ []))) (W.post y) $
    alloc_all ! (λ l. pass_all ! refl ((tt, (tt, tt)), ((tt, (tt, tt)), ((tt, record { fits = fits }), ((tt, tt), tt)))) $ let E = env fn.locals l in
    sets ! (of_opd ! (get_in ! (fld ! refl (stop !)) (sub ! 0 refl (whole !)))) refl (tt, tt) $
    first ! $ blocks ! $ group ! 4 $
    use1 𝓛 (raw ((Gives Y 𝓛 𝓜.mem 𝓡.returns).pre z))
    (Gives-goes Y 𝓛 𝓜.mem 𝓡.returns κ q at handle (⊑_trans κ κ' A.lives y.0.2.0 alive_handle) b o n 1 (bytes_type n) (capped_is (n * 1) (omega (arith, fits)) ∙ omega arith) refl fits (lit< tt)) $
    calls_at_last ! (framed 𝓤 𝓛.H 𝓜 machine) (Gives Y 𝓛 𝓜.mem 𝓡.returns) (met.deallocate drops) z
    (and_then ! (get ! refl) (and_then ! (get ! refl) (and_then ! (get ! refl) (and_then ! (lit ! tt) (no_more !))))) (λ v.
    use1 𝓛 (later (given (v ≡ vunit) (‵ (flft κ q)))) (Gives-Gives Y 𝓛 𝓜.mem 𝓡.returns κ q at handle b o n 1 (bytes_type n) v) $ await ! tt $ learn ! (λ is.
    lands_last ! refl (subst (λ (u : Val). T (has_ty ty_unit u) × WT u) (sym is) (tt, tt)) $
    exec ! machine.C machine.Λ E (after 2 fn.body) (at_ret E (W.post y)) $ sets ! (of_opd ! (unit_lit !)) refl (tt, tt) $
    returns ! (look_at ! 0 refl) $ free_all ! refl $ join ! $
    suffices ! _ (ends_at 𝓛 S at_exit c y vunit tt (tt, (tt, (tt, (tt, tt)))) (tt, (tt, (tt, (tt, tt))))) $
    nothing ! $ move ! (1 ∷ []) $ nothing ! $ nothing ! $ fjoin ! $ nothing ! $ fjoin ! $ nothing ! $ fjoin ! $ nothing ! $ fjoin ! $
    feq_i ! (List Val) (vunit ∷ []) (vunit ∷ []) refl $ move ! (2 ∷ 1 ∷ 0 ∷ []) $ group ! 3 $ done !)))))))
