use Rattle.stow_core.specs.State.{Keeps}
use Rattle.stow_core.proofs.Core.flush_all.Given as goal

abbrev pub invariant-loop : goal.invariant-loop
invariant-loop g l = Keeps l.fn.self l.self
