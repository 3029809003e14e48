use Rattle.std.proofs.Common.{◌+◌, ◌<◌, length, ◌∙◌, sym, subst, arith}
use Rattle.stow_read.proofs.Ways.{ArePassing, passing_first, passing_kept, passing_on, passing_done}
use Rattle.stow_read.proofs.way.pass_levels.Goals as goal
use Rattle.stow_read.proofs.way.pass_levels.Goals.{then-is_next, else-is_next}

pub loop-i-init : goal.loop-i-init
loop-i-init g c = passing_first c.args.key.bytes.now c.args.to.bytes.now c.args.levels.now.items c.requires

pub loop-i-preserved : goal.loop-i-preserved
loop-i-preserved g c =
    let inside : c.loop-i.i < length c.loop-i.levels.items = (let t = c.loop-i-test.true in let n = c.len-i-end.ensures in let k = c.loop-i.invariant.count in omega (arith, t, n, k)) in
    elim c.if-is_next.branch [
      | then-is_next w ↦ subst (λ levels. ArePassing c.args.key.bytes.now c.args.to.bytes.now (c.loop-i.i + 1) c.args.levels.now.items levels.items) (sym w.levels-is)
          (passing_on c.args.key.bytes.now c.args.to.bytes.now c.loop-i.i c.args.levels.now.items c.loop-i.levels.items w.index-then-is_next-2.result.now w.new.result inside w.index-then-is_next-2.ensures c.loop-i.invariant w.new.ensures.buffer w.new.ensures.next)
      | else-is_next w ↦ subst (λ levels. ArePassing c.args.key.bytes.now c.args.to.bytes.now (c.loop-i.i + 1) c.args.levels.now.items levels.items) (sym w.levels-is)
          (passing_kept c.args.key.bytes.now c.args.to.bytes.now c.loop-i.i c.args.levels.now.items c.loop-i.levels.items c.index.result.now inside c.index.ensures c.loop-i.invariant (sym c.is_next.ensures ∙ w.if-is_next.false))
    ]

pub returns-clause-next : goal.returns-clause-next
returns-clause-next g c =
    passing_done c.args.key.bytes.now c.args.to.bytes.now c.loop-i.i c.args.levels.now.items c.loop-i.levels.items
    (let t = c.loop-i-test.false in let n = c.len-i-end.ensures in let k = c.loop-i.invariant.count in omega (arith, t, n, k)) c.loop-i.invariant
