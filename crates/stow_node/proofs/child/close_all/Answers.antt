use Rattle.std.proofs.Common.{sym, subst, arith}
use Rattle.stow_node.specs.Moves.{IsReallocatedChild}
use Rattle.stow_node.proofs.Reallocated.{children_itself, children_set, reallocated_count}
use Rattle.stow_node.proofs.child.close_all.Goals as goal

pub loop-i-init : goal.loop-i-init
loop-i-init g c = children_itself c.args.children.now

pub loop-i-preserved : goal.loop-i-preserved
loop-i-preserved g c =
    children_set c.args.children.now c.loop-i.children c.loop-i.i c.index-children-i.result c.close.new.self c.loop-i.invariant
    (let t = c.loop-i-test.true in let n = reallocated_count c.args.children.now c.loop-i.children c.loop-i.invariant in omega (arith, t, n))
    c.index-children-i.is (subst (λ d. IsReallocatedChild d c.close.new.self) (sym c.index-children-i.is) c.close.ensures)
