use Rattle.std.proofs.Common.{◌≡◌, ◌<◌, ap, sym, ◌∙◌, subst, true, false, not, filter, length, get_or, List, ℕ, arith}
use Rattle.std.specs.Prelude.{◌==◌}
use Rattle.std.specs.List.{list_any, remove}
use Rattle.std.proofs.lemmas.List.{get_or_read}
use Rattle.stow_versions.specs.VersionLists.{ArePins}
use Rattle.stow_versions.proofs.PinLemmas.{pins_stay, pins_go}
use Rattle.stow_versions.proofs.versions.drop_number.Goals as goal

pub returns-then-not-contains-clause-pins : goal.returns-then-not-contains-clause-pins
returns-then-not-contains-clause-pins g c =
    let numbers : List ℕ = c.args.numbers.now.items in
    let pins : List ℕ = c.args.pins.now.items in
    let number : ℕ = c.remove-number.result in
    let place : ℕ = c.args.place in
    let is_length = c.args.numbers.now.ok.0 in
    let within : place < length numbers = omega (arith, c.requires.within) in
    let here : get_or numbers place 0 ≡ number = sym (get_or_read numbers place number within c.remove-number.ensures.value 0) in
    let removed : c.remove-number.new.self.items ≡ remove numbers place = c.remove-number.ensures.items in
    let none : list_any (λ m. m == number) (remove numbers place) ≡ false = ap (list_any (λ q. q == number)) (sym removed ∙ sym c.deref.ensures.value) ∙ sym c.contains.ensures.value ∙ c.if-not-contains.true in
    let left : c.remove_pin.new.pins.items ≡ filter (λ p. not (p == number)) pins = c.remove_pin.ensures in
    subst (λ ps. ArePins ps c.remove-number.new.self.items) (sym left)
    (subst (λ ns. ArePins (filter (λ p. not (p == number)) pins) ns) (sym removed) (pins_go pins numbers place number within here c.requires.pins none))

pub returns-else-not-contains-clause-pins : goal.returns-else-not-contains-clause-pins
returns-else-not-contains-clause-pins g c =
    let numbers : List ℕ = c.args.numbers.now.items in
    let pins : List ℕ = c.args.pins.now.items in
    let number : ℕ = c.remove-number.result in
    let place : ℕ = c.args.place in
    let is_length = c.args.numbers.now.ok.0 in
    let within : place < length numbers = omega (arith, c.requires.within) in
    let here : get_or numbers place 0 ≡ number = sym (get_or_read numbers place number within c.remove-number.ensures.value 0) in
    let removed : c.remove-number.new.self.items ≡ remove numbers place = c.remove-number.ensures.items in
    let still : list_any (λ m. m == number) (remove numbers place) ≡ true = ap (list_any (λ q. q == number)) (sym removed ∙ sym c.deref.ensures.value) ∙ sym c.contains.ensures.value ∙ c.if-not-contains.false in
    subst (λ ns. ArePins pins ns) (sym removed) (pins_stay pins numbers place number within here c.requires.pins still)
