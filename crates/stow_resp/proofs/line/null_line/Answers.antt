use Rattle.std.proofs.Common.{◌≡◌, [], ◌∷◌, ◌++◌, take, ap, sym, ◌∙◌, arith, subst}
use Rattle.stow_model.specs.Wire.{null_line}
use Rattle.stow_model.proofs.Messages.{null_whole}
use Rattle.stow_resp.proofs.Lists.{slice_from}
use Rattle.stow_resp.proofs.Lines.{null_more, null_stuck, null_rest}
use Rattle.stow_resp.proofs.line.null_line.Goals as goal

pub returns-then-index-after : goal.returns-then-index-after
returns-then-index-after c = null_more c.loop-index.index c.args.after.now (omega arith) c.if-index-after.true c.loop-index.invariant.same

pub returns-then-after-index : goal.returns-then-after-index
returns-then-after-index c = null_stuck c.loop-index.index c.args.after.now (omega arith) (omega arith) c.loop-index.invariant.same c.if-after-index.true

pub returns : goal.returns
returns c =
    let after = c.args.after.now in
    let e : c.loop-index.index ≡ 3 = omega arith in
    (null_line, null_whole, null_rest after (subst (λ n. take n after ≡ take n (49 ∷ 13 ∷ 10 ∷ [])) e c.loop-index.invariant.same) ∙ ap (λ t. null_line ++ t) (sym (slice_from after 3)))
