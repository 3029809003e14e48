use Rattle.std.proofs.Common.{take, drop, ap, sym, ◌∙◌, arith}
use Rattle.std.proofs.lemmas.List.{take_at, drop_at}
use Rattle.stow_node.proofs.coming.moved_from.Goals as goal

pub returns-clause-moved : goal.returns-clause-moved
returns-clause-moved g c = sym (ap (drop c.args.at) (sym c.loop-from.invariant.0) ∙ drop_at c.loop-from.from.items c.loop-from.into.items c.args.at (omega (arith, c.loop-from.invariant, c.len.ensures, c.loop-from-test.false)))

pub returns-clause-left : goal.returns-clause-left
returns-clause-left g c = sym (ap (take c.args.at) (sym c.loop-from.invariant.0) ∙ take_at c.loop-from.from.items c.loop-from.into.items c.args.at (omega (arith, c.loop-from.invariant, c.len.ensures, c.loop-from-test.false)))
