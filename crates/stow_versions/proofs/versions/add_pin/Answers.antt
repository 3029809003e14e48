use Rattle.std.proofs.Common.{◌≡◌, ap, sym, ◌∙◌, subst, false, List, ℕ, [], ◌∷◌, ◌++◌}
use Rattle.std.specs.Prelude.{◌==◌}
use Rattle.std.specs.List.{list_any}
use Rattle.std.specs.List.Sorted.{IsStrictlyIncreasing}
use Rattle.stow_versions.proofs.PinLemmas.{rise_push}
use Rattle.stow_versions.proofs.versions.add_pin.Goals as goal

pub returns-then-not-contains-clause-rise : goal.returns-then-not-contains-clause-rise
returns-then-not-contains-clause-rise g c =
    let pins : List ℕ = c.args.pins.now.items in
    let number : ℕ = c.args.number in
    let none : list_any (λ q. q == number) pins ≡ false = ap (list_any (λ q. q == number)) (sym c.deref.ensures.value) ∙ sym c.contains.ensures.value ∙ c.if-not-contains.true in
    let pushed : c.push_within.new.numbers.items ≡ pins ++ number ∷ [] = c.push_within.ensures in
    subst IsStrictlyIncreasing (sym pushed) (rise_push pins number c.requires.rise c.requires.above none)
