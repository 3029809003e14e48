use Rattle.std.proofs.Common.{◌≡◌, false, take}
use Rattle.std.specs.List.{list_any}
use Rattle.stow_ledger.specs.Charges.{is_between}
use Rattle.stow_ledger.proofs.charge.is_any_between.Given as goal

abbrev pub invariant-loop-pin : goal.invariant-loop-pin
invariant-loop-pin l = list_any (is_between l.number l.next) (take l.pin-index l.pins) ≡ false
