use Rattle.std.proofs.Common.{◌≡◌, ℕ, ◌<◌, List, length, get_or, ap, sym, ◌∙◌, subst, arith}
use Rattle.std.specs.Prelude.{◌==◌, ◌||◌, None, Some}
use Rattle.std.specs.FinMap as finite
use Rattle.stow_versions.specs.VersionsState.{VersionsState, is_among}
use Rattle.stow_versions.specs.VersionLists.{snapshots_of}
use Rattle.stow_versions.proofs.SnapshotLemmas.{values_of}
use Rattle.stow_versions.proofs.PinLemmas.{any_removed}
use Rattle.std.specs.List.{position, remove}
use Rattle.stow_versions.specs.VersionLists.{ArePins}
use Rattle.stow_versions.proofs.SnapshotLemmas.{place_is}
use Rattle.stow_versions.proofs.KeptLemmas.{none_seen, number_seen, remove_seen, lists_remove, same_lists, same_seen}
use Rattle.stow_versions.proofs.versions.Versions.drop_id.Goals as goal

pub returns-in-None-clause-number : goal.returns-in-None-clause-number
returns-in-None-clause-number g c =
    let at : position (λ i. i == c.args.id) c.self.inside.ids.items ≡ None = ap (position (λ i. i == c.args.id)) (sym c.deref.ensures.value) ∙ sym c.place_of.ensures ∙ c.in-None.is in
    sym (none_seen c.args.self.now _ _ _ _ _ _ c.self.invariant c.self.view_is c.args.id at)

pub invariant_of-self : goal.invariant_of-self
invariant_of-self g c =
    let at : position (λ i. i == c.args.id) c.self.inside.ids.items ≡ Some c.in-Some.place = ap (position (λ i. i == c.args.id)) (sym c.deref.ensures.value) ∙ sym c.place_of.ensures ∙ c.in-Some.is in
    let ids : List ℕ = c.self.inside.ids.items in
    let numbers : List ℕ = c.self.inside.numbers.items in
    let here = place_is ids c.args.id c.in-Some.place at in
    let pins : ArePins c.drop_number.new.pins.items (remove numbers c.in-Some.place) = subst (λ ns. ArePins c.drop_number.new.pins.items ns) c.drop_number.ensures.numbers c.drop_number.ensures.pins in
    same_lists _ _ _ _ _ _ _ c.remove.ensures.items c.drop_number.ensures.numbers
    (lists_remove c.self.inside.last c.self.inside.next ids numbers c.self.inside.pins.items c.drop_number.new.pins.items c.args.id c.in-Some.place c.self.invariant here.0 here.1 pins)

pub returns-clause-number : goal.returns-clause-number
returns-clause-number g c =
    let at : position (λ i. i == c.args.id) c.self.inside.ids.items ≡ Some c.in-Some.place = ap (position (λ i. i == c.args.id)) (sym c.deref.ensures.value) ∙ sym c.place_of.ensures ∙ c.in-Some.is in
    ap Some c.drop_number.ensures.number ∙ sym (number_seen c.args.self.now _ _ _ _ _ _ c.self.invariant c.self.view_is c.args.id c.in-Some.place at)

pub returns-clause-dropped : goal.returns-clause-dropped
returns-clause-dropped g c =
    let at : position (λ i. i == c.args.id) c.self.inside.ids.items ≡ Some c.in-Some.place = ap (position (λ i. i == c.args.id)) (sym c.deref.ensures.value) ∙ sym c.place_of.ensures ∙ c.in-Some.is in
    let here = place_is c.self.inside.ids.items c.args.id c.in-Some.place at in
    same_seen _ _ _ _ _ _ _ c.remove.ensures.items c.drop_number.ensures.numbers
    ∙ remove_seen c.args.self.now _ _ _ _ _ _ _ c.args.id c.in-Some.place c.self.invariant c.self.view_is here.0 here.1

pub returns-clause-numbers : goal.returns-clause-numbers
returns-clause-numbers g c n =
    let at : position (λ i. i == c.args.id) c.self.inside.ids.items ≡ Some c.in-Some.place = ap (position (λ i. i == c.args.id)) (sym c.deref.ensures.value) ∙ sym c.place_of.ensures ∙ c.in-Some.is in
    let ids : List ℕ = c.self.inside.ids.items in
    let numbers : List ℕ = c.self.inside.numbers.items in
    let place = c.in-Some.place in
    let here = place_is ids c.args.id place at in
    let pins : ArePins c.drop_number.new.pins.items (remove numbers place) = subst (λ ns. ArePins c.drop_number.new.pins.items ns) c.drop_number.ensures.numbers c.drop_number.ensures.pins in
    let lists = lists_remove c.self.inside.last c.self.inside.next ids numbers c.self.inside.pins.items c.drop_number.new.pins.items c.args.id place c.self.invariant here.0 here.1 pins in
    let old : finite.values c.args.self.now.snapshots ≡ numbers = ap (λ (v : VersionsState). finite.values v.snapshots) (sym c.self.view_is) ∙ values_of ids numbers c.self.invariant.each c.self.invariant.ids_rise in
    let within : place < length numbers = (let each = c.self.invariant.each in let l = here.0 in omega (arith, each, l)) in
    let number : get_or numbers place 0 ≡ c.drop_number.result = sym c.drop_number.ensures.number in
    ap (is_among n) old
    ∙ any_removed numbers place c.drop_number.result within number n
    ∙ ap (λ xs. is_among n xs || (c.drop_number.result == n)) (sym ((λ i. finite.values (snapshots_of (c.remove.ensures.items i) (c.drop_number.ensures.numbers i))) ∙ values_of (remove ids place) (remove numbers place) lists.each lists.ids_rise))
