use Rattle.std.proofs.Common.{rules, ◌≡◌, false}
use Rattle.std.specs.Prelude.{◌==◌}
use Rattle.std.specs.List.{list_any}
use Rattle.stow_dropping.specs.StowMerge.Pins.{pins_in}
use Rattle.stow_core.proofs.PinNumbers.{all_below}
use Rattle.stow_core.proofs.pinning.add_pin.Goals as goal

pub add-requires-clause-above : goal.add-requires-clause-above
add-requires-clause-above g c =
    let none : list_any (λ m. m == c.args.number) (pins_in c.args.pins.now c.args.tenant) ≡ false = search rules in
    λ k d l. all_below (pins_in c.args.pins.now c.args.tenant) c.args.number none c.requires.above k d l
