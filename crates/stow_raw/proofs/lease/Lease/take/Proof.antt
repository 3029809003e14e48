-- A block that the allocator gives is room: a row of bytes that are not written, beside the right to give it back. Assumes `Logic`.
use Rattle.std.proofs.Common.{◌≡◌, ℕ, ◌*◌, ◌^◌, ◌<◌, List, [], ◌∷◌, ◌++◌, replicate, refl, sym, subst, ◌∙◌, arith, lit<, w64, Some, None, IfSome}
use Rattle.std.proofs.lemmas.List.{length-replicate}
use Rattle.std.proofs.raw_atomic.Walks.{proved_at}
use Rattle.std.proofs.alloc.Calls.{Al, Answered, Takes, Takes-gives, Takes-goes, answers, at_takes, seen}
use Rattle.std.proofs.alloc.Shapes.{after}
use Rattle.std.proofs.option.Made.{Some-of, none_of}
use base.Fml.{flft, ftrue}
use base.Logic.{id⊢}
use mir.Syntax.{Args, Fn, a_type, dcons, dnil}
use mir.MapTy.{inst_fn}
use mir.Val.{Val, vcons, vint, vnil, vptr, vstruct}
use prog.Capped.{capped_is}
use prog.Wp.{WpFn}
use contract.BorrowLft.{⊑_trans}
use contract.Monad.{fact}
use contract.Running.{tables}
use types.Kit.{‵, raw, ◌⊛◌, ◌$◌, ◌∵◌, !, Sq, at_ret, await, done, feq_i, fjoin, fpack, frame, fsplit, join, keep, later, move, prop, qed, regoal, split, suffices, use0, use1, use2}
use types.Match.{in_variant, live, vrt}
use types.Part.{agg, whole}
use types.Run.{and_then, enter, exec, first, fld, lit, no_more, of_opd, returns, stop, switches}
use types.ByLocal.{alloc_all, env, free_all, get, get_in, get_tag, lands_as, look_at, pass_all, sets, sets_last}
use types.SemTy.{cells}
use denote.Param.{bounded, param}
use denote.RattleType.{RattleType, Valss, owns}
use denote.RawPtr.{block_ptr}
use denote.Signature.{plain, shr_ref_to, type_at, types_at}
use denote.Builtin.{usize}
use denote.Steps.{heard, nothing}
use denote.Struct.Declared.{shape}
use denote.Struct.Struct.{within}
use denote.Struct.Tuple.{Tuple, tuple_type}
use denote.Triple.Call.{calls_at}
use denote.Triple.Entry.{alive}
use denote.Triple.Table.{framed}
use denote.Triple.Walked.{Goes-dropped, Stays, ends_at, says, stay_dropped, walk_of}
use Rattle.stow_raw.specs.Cells.{Byte}
use Rattle.stow_raw.specs.Frees.{Frees}
use Rattle.stow_raw.specs.Lease.{bytes_type}
use Rattle.stow_raw.specs.contracts.cells.Cells as bytes
use Rattle.stow_raw.specs.contracts.lease.Lease as lease
use Rattle.stow_raw.specs.contracts.lease.Lease.take as this
use Rattle.stow_raw.specs.declared.cells.Cells.{Cells}
use Rattle.stow_raw.proofs.Rows.{unwritten}
use Rattle.stow_raw.proofs.Steps.{holds, mark, marked, pointed, pointing}
use Rattle.stow_raw.proofs.lease.Lease.take.Statement.{statement}
use Rattle.stow_raw.proofs.lease.Lease.take.Code as code

pub take_spec : {M : Type 1} → statement M
take_spec 𝓤 𝓛 𝓜 𝓡 wired A laws g methods drops met _ =
    let T = this.ended A g methods drops in let c = this.clauses A g methods drops 𝓛 𝓜.mem 𝓡.returns in let machine = tables 𝓤 𝓛.H 𝓜 𝓡 𝓡.env in
    let args : Args = bounded (a_type ∷ []) (A, tt) (dcons methods (dcons drops dnil)) in let fn : Fn = inst_fn args code.function in
    let Y : Al = record { row = A; laws = laws; g = g; d = methods; drops = drops } in
    let at_exit : Stays T.signature.params T.kept = (stay_dropped _ T.kept.0, (stay_dropped _ T.kept.1.0, tt)) in
    let W = walk_of 𝓛 T at_exit c in
    proved_at 𝓛 T at_exit c 𝓜 𝓡 (Goes-dropped 𝓛 2 (shr_ref_to (0 ∷ []) tt (plain (λ _. param 0 A))) T.kept.0 (λ _ _ _. refl), (Goes-dropped 𝓛 2 (plain (λ _. usize)) T.kept.1.0 (λ _ _ _. refl), tt))
    (this.Key.name args) fn (code.unfolded 𝓤 𝓛.H 𝓜 𝓡 wired (A, tt) methods drops) (λ y are.
    let κ = y.0.0.0 in let q = y.0.1.0 in let κ' = y.0.0.1.0 in let q' = y.0.1.1.0 in
    let handle = y.0.3.0.now in let at = y.0.3.0.ref_ptr in let n = y.0.3.1.0 in
    let Z = param 0 A in let Leased : RattleType = lease.the_row Z g in let Both : RattleType = Tuple (bytes.the_row ∷ Leased ∷ []) in let Out : RattleType = type_at T.signature.result y.0.0 in
    let Told : Out.Denot → Type 0 = λ r. IfSome r (λ b. (b.0.bytes ≡ replicate n None) × Frees b.1 b.0.ptr n handle) in
    let out : (v : Val) (r : Out.Denot) → Told r → Sq 𝓛 (‵ (Out.own_val r (v ∷ [])) ∷ ‵ (flft κ q) ∷ (‵ (flft κ' q') ⊛ ‵ ftrue) ∷ []) (prop (W.post y v)) = λ v r told.
    suffices ! _ (ends_at 𝓛 T at_exit c y v r (tt, (tt, tt)) (tt, (tt, tt))) $ says ! told $
    move ! (1 ∷ 2 ∷ []) $ join ! $ frame ! $ nothing ! $ nothing ! $ fjoin ! $ nothing ! $ fjoin ! $ frame ! $ done ! in
    qed 𝓛 ((raw (alive 𝓛 T.signature y.0.0 y.0.1) ⊛ ‵ (owns (types_at T.signature.params y.0.0) y.0.3 y.0.4)) ∷ (raw (fact 𝓤 _) ⊛ raw (fact 𝓤 (n < 2 ^ 63))) ∷ []) ∵
    move ! (1 ∷ []) $ split ! $ heard ! _ (λ alive_handle. heard ! _ (λ few. split ! $
    use1 𝓛 (‵ (flft κ q) ⊛ (‵ (flft κ' q') ⊛ ‵ ftrue)) (id⊢ 𝓤 _) $ split ! $ move ! (2 ∷ []) $ fsplit ! $ fsplit ! $ keep ! (1 ∷ 3 ∷ 4 ∷ []) $
    use1 𝓛 (‵ (seen Y κ at handle)) (id⊢ 𝓤 _) $
    -- [the handle; its lifetime's token; the other token]
    let z = at_takes Y 𝓛 𝓜.mem 𝓡.returns κ q at handle n 1 (bytes_type n) in
    regoal ! (λ (us : List Val). prop (WpFn 𝓤 𝓛.H machine.C machine.Λ fn us (W.post y))) (λ i. are.0.0 i ++ (are.1.0.0 i ++ [])) refl $
    enter ! machine.C machine.Λ fn (vptr at.0 at.1 ∷ vint w64 n ∷ []) (W.post y) $
    alloc_all ! (λ l. pass_all ! refl ((tt, tt), ((tt, record { fits = are.1.0.1 }), tt)) $ let E = env fn.locals l in
    use2 𝓛 (raw ((Takes Y 𝓛 𝓜.mem 𝓡.returns).pre z))
    (Takes-goes Y 𝓛 𝓜.mem 𝓡.returns κ q at handle (⊑_trans κ κ' A.lives y.0.2.0 alive_handle) n 1 (bytes_type n) (capped_is (n * 1) (omega arith) ∙ omega arith) refl are.1.0.1 (lit< tt)) $
    calls_at ! (framed 𝓤 𝓛.H 𝓜 machine) (Takes Y 𝓛 𝓜.mem 𝓡.returns) (met.allocate drops) z (and_then ! (get ! refl) (and_then ! (get ! refl) (and_then ! (lit ! tt) (no_more !)))) (λ v.
    use1 𝓛 (later (raw (Answered Y 𝓛 𝓜.mem 𝓡.returns handle (bytes_type n) v) ⊛ ‵ (flft κ q))) (Takes-gives Y 𝓛 𝓜.mem 𝓡.returns κ q at handle n 1 (bytes_type n) v) $ await ! tt $ split ! $
    answers Y ! 𝓜.mem 𝓡.returns handle (bytes_type n) v
    (λ b o is. lands_as ! is refl (tt, (record { fits = lit< tt }, (tt, tt))) $
    -- [the block's room; the right to free it; the tokens]
    first ! $ switches ! (get_tag ! (vrt ! refl (fld ! refl (stop !))) (whole !)) (
      (λ _.
          sets ! (of_opd ! (get_in ! (vrt ! refl (fld ! refl (stop !))) (in_variant ! 0 0 refl refl (whole !)))) refl (tt, tt) $
          sets ! (agg ! (and_then ! (get ! refl) (no_more !))) refl (tt, (tt, tt)) $
          sets ! (agg ! (no_more !)) refl (tt, tt) $
          sets ! (agg ! (and_then ! (get ! refl) (no_more !))) refl (tt, (tt, tt)) $
          sets ! (agg ! (and_then ! (get ! refl) (and_then ! (get ! refl) (no_more !)))) refl (tt, ((tt, tt), ((tt, tt), tt))) $
          sets_last ! (agg ! (and_then ! (lit ! tt) (and_then ! (get ! refl) (no_more !)))) refl (tt, (record { fits = lit< tt }, (((tt, tt), ((tt, tt), tt)), tt))) $
          exec ! machine.C machine.Λ E (after 2 fn.body) (at_ret E (W.post y)) $ sets ! (of_opd ! (get ! refl)) refl (tt, (record { fits = lit< tt }, (((tt, tt), ((tt, tt), tt)), tt))) $
          returns ! (look_at ! 0 refl) $ free_all ! refl $
          let p = block_ptr b o in let x : Cells = record { ptr = p; bytes = replicate n None } in let k : Leased.Denot = record { mark = record {}; at = p; len = n; alloc = handle } in
          let v = vstruct (vcons (vstruct (vcons (vptr b o) vnil)) (vcons (vstruct (vcons (vstruct vnil) vnil)) vnil)) in
          use1 𝓛 (‵ (cells Byte x.bytes b o)) (unwritten 𝓛 b n o) $ pointed ! p $ move ! (1 ∷ 0 ∷ []) $ holds ! x (pointing p) b o refl (subst (λ (m : ℕ). m < 2 ^ 63) (sym (length-replicate n None)) few) $
          move ! (1 ∷ []) $ marked ! Z g $ fjoin ! $ nothing ! $ move ! (1 ∷ 0 ∷ []) $ fjoin ! $ move ! (1 ∷ 0 ∷ []) $ fjoin ! $
          feq_i ! (List Val) (v ∷ []) (v ∷ []) refl $ fjoin ! $
          fpack ! (Valss (bytes.the_row ∷ Leased ∷ [])) (within (shape (tuple_type (bytes.the_row ∷ Leased ∷ []))) (x, (k, tt)) (v ∷ [])) (pointing p, (mark, tt)) $
          use1 𝓛 (‵ (Out.own_val (Some (x, k)) (live 1 (vcons v vnil) ∷ []))) (Some-of 𝓛 Both (x, k) v) $ out (live 1 (vcons v vnil)) (Some (x, k)) (refl, (refl, refl, refl))),
      ((λ other. absurd (omega arith)), (λ none. absurd (none.0.1 refl))),
    ))
    (λ is. lands_as ! is refl (tt, (record { fits = lit< tt }, (tt, tt))) $
    first ! $ switches ! (get_tag ! (vrt ! refl (fld ! refl (stop !))) (whole !)) (
      (λ other. absurd (omega arith)),
      (
        (λ _.
            sets_last ! (agg ! (and_then ! (lit ! tt) (no_more !))) refl (tt, (record { fits = lit< tt }, tt)) $
            exec ! machine.C machine.Λ E (after 2 fn.body) (at_ret E (W.post y)) $ sets ! (of_opd ! (get ! refl)) refl (tt, (record { fits = lit< tt }, tt)) $
            returns ! (look_at ! 0 refl) $ free_all ! refl $
            use0 𝓛 (‵ (Out.own_val None (live 0 vnil ∷ []))) (none_of 𝓛 Both) $ out (live 0 vnil) None tt),
        (λ none. absurd (none.1 refl)),
      ),
    )))))))
