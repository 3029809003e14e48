use Rattle.std.proofs.Common.{◌≡◌}
use Rattle.stow_workers.specs.StowHouse.Steps.{state_of}
use Rattle.stow_tasks.specs.Told.{usages_up_to}
use Rattle.stow_tasks.proofs.usage.usages.Given as goal

-- what each of the tenants so far uses
abbrev pub invariant-loop-before : goal.invariant-loop-before
invariant-loop-before g l = l.told.items ≡ usages_up_to l.before (state_of l.house).core
