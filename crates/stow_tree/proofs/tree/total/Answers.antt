use Rattle.std.proofs.Common.{◌∙◌, arith, refl}
use Rattle.stow_tree.proofs.Totalled.{total_more, total_fits, total_all}
use Rattle.stow_tree.proofs.tree.total.Goals as goal

pub loop-i-init : goal.loop-i-init
loop-i-init c = refl

pub overflow_add-total : goal.overflow_add-total
overflow_add-total c =
    let a = total_fits c.args.messages.now c.loop-i.i c.loop-i.total c.size-total.result c.index-messages-i.result c.loop-i-test.true c.index-messages-i.is c.loop-i.invariant c.size-total.ensures in
    let b = c.requires in
    omega (arith, a, b)

pub loop-i-preserved : goal.loop-i-preserved
loop-i-preserved c =
    let a = total_more c.args.messages.now c.loop-i.i c.index-messages-i.result c.loop-i-test.true c.index-messages-i.is in
    let b = c.size-total.ensures in
    let d = c.loop-i.invariant in
    omega (arith, a, b, d)

pub returns : goal.returns
returns c = c.loop-i.invariant ∙ total_all c.args.messages.now c.loop-i.i c.loop-i-test.false
