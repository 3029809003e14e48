use Rattle.std.proofs.Common.{◌≡◌}
use Rattle.stow_workers.proofs.accepting.accept.Given as goal

abbrev pub invariant-loop : goal.invariant-loop
invariant-loop g l = l.accepted ≡ l.counter
