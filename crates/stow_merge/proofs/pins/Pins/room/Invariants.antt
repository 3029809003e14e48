use Rattle.std.proofs.Common.{◌≡◌, ℕ, ◌+◌, ◌-◌, vec_len}
use Rattle.stow_merge.specs.PinLists.{numbers_at}
use Rattle.stow_merge.proofs.pins.Pins.room.Given as goal

abbrev pub invariant-loop-self : goal.invariant-loop-self
invariant-loop-self g l = (t : ℕ) → numbers_at l.self.numbers.items t ≡ numbers_at l.fn.self.numbers.items t

abbrev pub decreases-loop-self : goal.decreases-loop-self
decreases-loop-self g l = (l.index + 1) - vec_len l.self.numbers
