use Rattle.std.proofs.Common.{◌≡◌, ℕ, ◌≤◌}
use Rattle.stow_shared.specs.Closed.{seats_of}
use Rattle.stow_shared.proofs.closing.are_one_each.Given as goal

abbrev pub invariant-loop-before : goal.invariant-loop-before
invariant-loop-before g l = (number : ℕ) → 1 ≤ number → number ≤ l.before → seats_of number l.seats ≡ 1
