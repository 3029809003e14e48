use Rattle.std.proofs.Common.{◌≡◌, ◌≤◌, length, filter, take}
use Rattle.std.specs.Prelude.{◌==◌}
use Rattle.stow_shared.proofs.closing.count_of.Given as goal

abbrev pub invariant-loop-seat : goal.invariant-loop-seat
invariant-loop-seat g l = (l.count ≡ length (filter (λ seat. seat.number == l.number) (take l.seat-index l.seats))) × (l.count ≤ l.seat-index)
