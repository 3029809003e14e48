use Rattle.std.proofs.Common.{◌≡◌, map, take}
use Rattle.stow_core.specs.Tenancies.{new_tenancy, tenancy_of}
use Rattle.stow_core.proofs.new_tenancies.Given as goal

abbrev pub invariant-loop-before : goal.invariant-loop-before
invariant-loop-before g l = map tenancy_of l.made.items ≡ map new_tenancy (take l.before l.tenants)
