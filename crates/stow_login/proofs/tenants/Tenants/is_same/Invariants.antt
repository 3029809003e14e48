use Rattle.std.proofs.Common.{◌≡◌, take, map}
use Rattle.stow_login.specs.Entries.{entry_of}
use Rattle.stow_login.proofs.tenants.Tenants.is_same.Given as goal

abbrev pub invariant-loop-index : goal.invariant-loop-index
invariant-loop-index g l = take l.index (map entry_of l.self-inside.tenants.items) ≡ take l.index (map entry_of l.other-inside.tenants.items)
