use Rattle.stow_shared.proofs.Seating.{one_more_seat}
use Rattle.stow_shared.proofs.shared.new_seats.Goals as goal

pub loop-before-preserved : goal.loop-before-preserved
loop-before-preserved g c =
    rw (c.in_ok-push.ensures.items, c.new.ensures) (one_more_seat c.loop-before.before c.loop-before.seats.items c.loop-before.invariant)
