use Rattle.std.proofs.Common.{sym, ◌∙◌}
use Rattle.stow_node.proofs.Deepest.{IsTold, no_lowest, is_next_lower, is_next_not_lower, lowest_none, lowest_some}
use Rattle.stow_node.proofs.planning.deepest_child.Given as given
use Rattle.stow_node.proofs.planning.deepest_child.Goals as goal
use Rattle.stow_node.proofs.planning.deepest_child.Goals.{Joined-is_before, then-is_before, else-is_before}

told : (g : given.Over) (c : Joined-is_before g) → IsTold {A = g.row.A.Denot} c.index-children-i.result
told g c = record { nothing = λ e. c.deepest_of-height.ensures.none.0 (c.deepest_of-height.ensures.height ∙ e); none = λ e. sym c.deepest_of-height.ensures.height ∙ c.deepest_of-height.ensures.none.1 e }

pub loop-i-init : goal.loop-i-init
loop-i-init g c = no_lowest c.args.children.now

pub loop-i-preserved : goal.loop-i-preserved
loop-i-preserved g c =
    elim c.if-is_before.branch [
      | then-is_before w ↦
          rw (w.best-is, w.lowest-is) (is_next_lower c.args.children.now c.loop-i.i c.loop-i.best c.index-children-i.result c.loop-i.lowest c.deepest_of-height.result c.loop-i-test.true c.index-children-i.is c.loop-i.invariant (told g c) c.deepest_of-height.ensures.height (c.is_before.ensures.before w.if-is_before.true).0)
      | else-is_before w ↦
          rw (w.best-is, w.lowest-is) (is_next_not_lower c.args.children.now c.loop-i.i c.loop-i.best c.index-children-i.result c.loop-i.lowest c.deepest_of-height.result c.loop-i-test.true c.index-children-i.is c.loop-i.invariant (told g c) c.deepest_of-height.ensures.height (c.is_before.ensures.not w.if-is_before.false))
    ]

pub returns-in-None : goal.returns-in-None
returns-in-None g c = lowest_none c.args.children.now c.loop-i.i c.loop-i.best c.loop-i.lowest c.loop-i-test.false c.loop-i.invariant c.in-None.is

pub returns-in-Some : goal.returns-in-Some
returns-in-Some g c = lowest_some c.args.children.now c.loop-i.i c.loop-i.best c.in-Some.field-0 c.loop-i.lowest c.loop-i-test.false c.loop-i.invariant c.in-Some.is
