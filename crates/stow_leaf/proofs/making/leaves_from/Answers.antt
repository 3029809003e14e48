use Rattle.std.proofs.Common.{arith, ◌∙◌, ap, map}
use Rattle.std.proofs.lemmas.Bool.Decides.{nat_tests}
use Rattle.stow_leaf.specs.LeafRows.{leaf_rows}
use Rattle.stow_leaf.specs.Making.{first_key}
use Rattle.stow_leaf.proofs.Steps.{first_leaf, next_leaf, is_filled_at}
use Rattle.stow_leaf.proofs.making.leaves_from.Goals as goal
use Rattle.stow_leaf.proofs.making.leaves_from.Goals.{then-i-eq0+in_ok-low, else-i-eq0+in_ok-low-2}

pub fence-requires : goal.fence-requires
fence-requires g c = rw c.in_ok-rows.ensures (is_filled_at c.args.pages.now c.loop-i.i c.index-pages-i.result c.requires (let t = c.if-i-eq0.false in grind (arith, nat_tests, t)) c.loop-i-test.true c.index-pages-i.is)

pub loop-i-preserved : goal.loop-i-preserved
loop-i-preserved g c =
    ap (map leaf_rows) c.in_ok-push.ensures.items
    ∙ rw c.in_ok-rows.ensures (elim c.if-i-eq0.branch [
      | then-i-eq0+in_ok-low w ↦
          first_leaf c.loop-i.leaves.items c.args.low.bytes.now c.if-i-eq0.low c.args.pages.now c.loop-i.i c.index-pages-i.result c.loop-i.invariant c.loop-i-test.true c.index-pages-i.is
          (let t = w.if-i-eq0.true in grind (arith, nat_tests, t)) (w.low-is ∙ w.in_ok-low.ensures)
      | else-i-eq0+in_ok-low-2 w ↦
          next_leaf c.loop-i.leaves.items c.args.low.bytes.now c.if-i-eq0.low c.args.pages.now c.loop-i.i c.index-pages-i.result c.loop-i.invariant c.loop-i-test.true c.index-pages-i.is
          (let t = w.if-i-eq0.false in grind (arith, nat_tests, t)) (w.low-is ∙ w.in_ok-low-2.ensures ∙ ap first_key c.in_ok-rows.ensures)
    ])
