-- Each tenant's pins.
use Rattle.std.specs.Prelude.{ℕ}
use Rattle.stow_page.specs.StowTreeModel.Agreement.{TenantPins}
use Rattle.stow_merge.specs.declared.pins.Pins.{Pins}
use Rattle.stow_merge.specs.PinLists.{numbers_at, room_at}

abbrev pub pins_in : {A : Type 0} → Pins A → TenantPins
pins_in pins tenant = numbers_at pins.numbers.items tenant

-- how many more pins of the tenant need no memory
abbrev pub room_in : {A : Type 0} → Pins A → ℕ → ℕ
room_in pins tenant = room_at pins.numbers.items tenant
