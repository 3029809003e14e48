use Rattle.std.proofs.Common.{ℕ, ◌<◌, ◌≤◌, get_or}
use Rattle.stow_shared.specs.declared.entry.Entry as coded
use Rattle.stow_shared.proofs.closing.are_of_seats.Given as goal

abbrev pub invariant-loop-entry : goal.invariant-loop-entry
invariant-loop-entry g l = (k : ℕ) (d : coded.Entry g.row.A.Denot) → k < l.entry-index → (1 ≤ (get_or l.journal k d).seat) × ((get_or l.journal k d).seat ≤ l.count)
