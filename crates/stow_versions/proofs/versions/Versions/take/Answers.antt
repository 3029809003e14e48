use Rattle.std.proofs.Common.{◌≡◌, ◌<◌, ◌+◌, ℕ, List, [], ◌∷◌, ◌++◌, length, ap, sym, ◌∙◌, arith}
use Rattle.stow_bytes.specs.Limits.{snapshot_limit}
use Rattle.stow_versions.specs.VersionsState.{VersionsState}
use Rattle.stow_versions.specs.VersionLists.{ArePins}
use Rattle.stow_versions.proofs.PinLemmas.{pins_within, pins_push, any_push}
use Rattle.stow_versions.proofs.KeptLemmas.{lists_push, len_seen, push_seen, same_lists, same_seen}
use Rattle.std.specs.FinMap as finite
use Rattle.std.specs.Prelude.{◌||◌, ◌==◌, Bool}
use Rattle.stow_versions.specs.VersionsState.{is_among}
use Rattle.stow_versions.specs.VersionLists.{snapshots_of}
use Rattle.stow_versions.proofs.SnapshotLemmas.{values_of}
use Rattle.stow_versions.proofs.versions.Versions.take.Goals as goal

pub add_pin-requires-clause-above : goal.add_pin-requires-clause-above
add_pin-requires-clause-above g c = pins_within _ _ _ c.self.invariant.pins_are c.self.invariant.numbers_below

pub invariant_of-self : goal.invariant_of-self
invariant_of-self g c =
    let ids : List ℕ = c.self.inside.ids.items in
    let numbers : List ℕ = c.self.inside.numbers.items in
    let pins : List ℕ = c.self.inside.pins.items in
    let last : ℕ = c.self.inside.last in
    let next : ℕ = c.self.inside.next in
    let len = len_seen c.args.self.now _ _ _ _ _ _ c.self.invariant c.self.view_is in
    let few : length ids < snapshot_limit = omega (arith, c.requires.few) in
    let next_seen = ap (λ (v : VersionsState). v.next) c.self.view_is in
    let are_pins : ArePins c.add_pin.new.pins.items (numbers ++ last ∷ []) = pins_push pins c.add_pin.new.pins.items numbers last c.self.invariant.pins_are c.add_pin.ensures.rise c.add_pin.ensures.members in
    same_lists last (next + 1) (ids ++ next ∷ []) c.push_within.new.numbers.items (numbers ++ last ∷ []) c.push_within-2.new.numbers.items c.add_pin.new.pins.items c.push_within.ensures c.push_within-2.ensures
    (lists_push last next ids numbers pins c.add_pin.new.pins.items c.self.invariant few (omega (arith, c.requires.id_left)) are_pins)

pub returns-clause-taken : goal.returns-clause-taken
returns-clause-taken g c =
    same_seen _ _ _ _ _ _ _ c.push_within.ensures c.push_within-2.ensures
    ∙ push_seen c.args.self.now _ _ _ _ _ _ _ c.self.invariant c.self.view_is

pub returns-clause-numbers : goal.returns-clause-numbers
returns-clause-numbers g c n =
    let ids : List ℕ = c.self.inside.ids.items in
    let numbers : List ℕ = c.self.inside.numbers.items in
    let pins : List ℕ = c.self.inside.pins.items in
    let last : ℕ = c.self.inside.last in
    let next : ℕ = c.self.inside.next in
    let len = len_seen c.args.self.now _ _ _ _ _ _ c.self.invariant c.self.view_is in
    let few : length ids < snapshot_limit = omega (arith, c.requires.few) in
    let next_seen = ap (λ (v : VersionsState). v.next) c.self.view_is in
    let are_pins : ArePins c.add_pin.new.pins.items (numbers ++ last ∷ []) = pins_push pins c.add_pin.new.pins.items numbers last c.self.invariant.pins_are c.add_pin.ensures.rise c.add_pin.ensures.members in
    let lists = lists_push last next ids numbers pins c.add_pin.new.pins.items c.self.invariant few (omega (arith, c.requires.id_left)) are_pins in
    let old : finite.values c.args.self.now.snapshots ≡ numbers = ap (λ (v : VersionsState). finite.values v.snapshots) (sym c.self.view_is) ∙ values_of ids numbers c.self.invariant.each c.self.invariant.ids_rise in
    (λ i. is_among n (finite.values (snapshots_of (c.push_within.ensures i) (c.push_within-2.ensures i))))
    ∙ ap (is_among n) (values_of (ids ++ next ∷ []) (numbers ++ last ∷ []) lists.each lists.ids_rise)
    ∙ any_push numbers last n
    ∙ (λ i. is_among n (sym old i) || (ap (λ (v : VersionsState). v.last) c.self.view_is i == n))
