-- Pins in a list.
use Rattle.std.specs.Prelude.{List, [], ◌∷◌, if◌then◌else◌, ◌==◌}
use Rattle.stow_tree_model.specs.Agreement.{TenantPins}
use Rattle.stow_tree_model.specs.declared.pin.Pin.{Pin}

-- each tenant's pins, in the order of the list
abbrev pub pins_of : List Pin → TenantPins
pins_of [] tenant = []
pins_of (p ∷ pins) tenant =
    if p.tenant == tenant then p.number ∷ pins_of pins tenant else pins_of pins tenant
