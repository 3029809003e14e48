use Rattle.std.proofs.Common.{sym, ap, ◌∙◌, ◌≡◌, subst}
use Rattle.std.specs.Prelude.{Contains}
use Rattle.std.specs.FinMap as map
use Rattle.stow_versions.specs.VersionsState.{VersionsState, is_among}
use Rattle.stow_versions.proofs.SnapshotLemmas.{values_of}
use Rattle.stow_versions.proofs.PinLemmas.{same_contains}
use Rattle.stow_versions.proofs.versions.Versions.pins.Goals as goal

pub returns-clause-members : goal.returns-clause-members
returns-clause-members g c n =
    let pins = c.self.inside.pins.items in
    let numbers = c.self.inside.numbers.items in
    let values : map.values c.args.self.now.snapshots ≡ numbers = ap (λ (v : VersionsState). map.values v.snapshots) (sym c.self.view_is) ∙ values_of c.self.inside.ids.items numbers c.self.invariant.each c.self.invariant.ids_rise in
    let same = c.self.invariant.pins_are.same_members n in (
      λ h. subst (λ xs. Contains xs n) (sym values) (same_contains pins numbers n same (subst (λ xs. Contains xs n) c.as_slice.ensures.value h)),
      λ h. subst (λ xs. Contains xs n) (sym c.as_slice.ensures.value) (same_contains numbers pins n (sym same) (subst (λ xs. Contains xs n) values h)),
    )

pub returns-clause-among : goal.returns-clause-among
returns-clause-among g c n =
    let values : map.values c.args.self.now.snapshots ≡ c.self.inside.numbers.items = ap (λ (v : VersionsState). map.values v.snapshots) (sym c.self.view_is) ∙ values_of c.self.inside.ids.items c.self.inside.numbers.items c.self.invariant.each c.self.invariant.ids_rise in
    ap (is_among n) c.as_slice.ensures.value ∙ c.self.invariant.pins_are.same_members n ∙ ap (is_among n) (sym values)
