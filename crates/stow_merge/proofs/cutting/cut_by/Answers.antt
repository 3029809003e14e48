use Rattle.std.proofs.Common.{◌≡◌, ◌+◌, ◌<◌, [], ◌∷◌, ◌++◌, length, get_or, sym, subst, arith}
use Rattle.std.proofs.lemmas.Grind.{common_steps}
use Rattle.stow_merge.specs.Cuts.{ArePages}
use Rattle.stow_merge.proofs.CutLemmas.{SoFar, last_page, step_end, step_stay, step_first}
use Rattle.stow_merge.proofs.cutting.cut_by.Goals as goal
use Rattle.stow_merge.proofs.cutting.cut_by.Goals.{then-from-i+then-is_end+in_ok-push, else-from-i, else-from-i-via-then-from-i+else-is_end, else-from-i-via-else-from-i, then-from-sizes+in_ok-push-2, else-from-sizes}

pub loop-i-preserved : goal.loop-i-preserved
loop-i-preserved g c =
    let sizes = c.args.sizes.now in
    let room = c.args.room in
    let i = c.loop-i.i in
    let s = c.from-size.result in
    let in_range : i < length sizes = c.loop-i-test.true in
    let size : s ≡ get_or sizes i 0 = grind (arith, common_steps) in
    let small : get_or sizes i 0 < 4294967296 = (c.type_inv.sizes i).fits in
    let short : s < 4294967296 = omega arith in
    let limit : room < 4294967296 = c.ranges.room.fits in
    elim c.if-from-i.branch [
      | then-from-i+then-is_end+in_ok-push w ↦ subst (λ ends. SoFar sizes room ends c.if-from-i.from (i + 1) (c.if-from-i.page + s)) (grind (arith, common_steps))
          (subst (λ f. SoFar sizes room (c.loop-i.ends.items ++ i ∷ []) f (i + 1) (c.if-from-i.page + s)) (sym w.from-is)
          (subst (λ p. SoFar sizes room (c.loop-i.ends.items ++ i ∷ []) i (i + 1) (p + s)) (sym w.page-is)
          (step_end sizes room c.loop-i.from i c.loop-i.page s c.loop-i.ends.items c.loop-i.invariant w.if-from-i.true in_range size short)))
      | else-from-i w ↦ subst (λ ends. SoFar sizes room ends c.if-from-i.from (i + 1) (c.if-from-i.page + s)) (grind (arith, common_steps))
          (subst (λ f. SoFar sizes room c.loop-i.ends.items f (i + 1) (c.if-from-i.page + s)) (sym w.from-is)
          (subst (λ p. SoFar sizes room c.loop-i.ends.items c.loop-i.from (i + 1) (p + s)) (sym w.page-is)
          (elim w.else-from-i.branch [
            | else-from-i-via-then-from-i+else-is_end v ↦ step_stay sizes room c.loop-i.from i c.loop-i.page s c.loop-i.ends.items limit c.loop-i.invariant in_range size (grind (arith, common_steps))
            | else-from-i-via-else-from-i v ↦ step_first sizes room c.loop-i.from i c.loop-i.page s c.loop-i.ends.items c.loop-i.invariant v.if-from-i.false in_range size short
          ])))
    ]

pub returns-clause-pages : goal.returns-clause-pages
returns-clause-pages g c =
    let sizes = c.args.sizes.now in
    let at_end : c.loop-i.i ≡ length sizes = (let a = c.loop-i.auto.i-end in let b = c.loop-i-test.false in omega arith) in
    let so_far : SoFar sizes c.args.room c.loop-i.ends.items c.loop-i.from (length sizes) c.loop-i.page = subst (λ n. SoFar sizes c.args.room c.loop-i.ends.items c.loop-i.from n c.loop-i.page) at_end c.loop-i.invariant in
    elim c.if-from-sizes.branch [
      | then-from-sizes+in_ok-push-2 w ↦ subst (λ ends. ArePages sizes c.args.room 0 ends (length sizes)) (grind (arith, common_steps))
          (last_page sizes c.args.room c.loop-i.from (length sizes) c.loop-i.page c.loop-i.ends.items so_far w.if-from-sizes.true)
      | else-from-sizes w ↦ subst (λ ends. ArePages sizes c.args.room 0 ends (length sizes)) (grind (arith, common_steps))
          (let low = so_far.1 in let high = w.if-from-sizes.false in let e : c.loop-i.from ≡ length sizes = omega arith in subst (λ n. ArePages sizes c.args.room 0 c.loop-i.ends.items n) e so_far.0)
    ]
