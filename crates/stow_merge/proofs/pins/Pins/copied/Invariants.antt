use Rattle.std.proofs.Common.{◌≡◌, take}
use Rattle.stow_merge.proofs.PinLemmas.{number_lists}
use Rattle.stow_merge.proofs.pins.Pins.copied.Given as goal

abbrev pub invariant-loop-i : goal.invariant-loop-i
invariant-loop-i g l = number_lists l.numbers.items ≡ number_lists (take l.i l.self.numbers.items)
