use Rattle.std.proofs.Common.{◌≡◌, ℕ, ◌<◌, List, ◌++◌, length, None, Some, ap, sym, ◌∙◌, subst, arith}
use Rattle.std.specs.Prelude.{◌==◌, IsSome}
use Rattle.std.specs.FinMap as finite
use Rattle.std.specs.List.{position, remove}
use Rattle.stow_versions.specs.VersionsState.{VersionsState}
use Rattle.stow_versions.proofs.SnapshotLemmas.{place_is, values_of, rise_remove}
use Rattle.stow_versions.proofs.KeptLemmas.{none_seen, remove_seen, each_removed, absent_not_live}
use Rattle.stow_versions.proofs.versions.Versions.numbers_without.Goals as goal

pub returns-in-None : goal.returns-in-None
returns-in-None g c =
    let at : position (λ i. i == c.args.id) c.self.inside.ids.items ≡ None = ap (position (λ i. i == c.args.id)) (sym c.deref.ensures.value) ∙ sym c.place_of.ensures ∙ c.in-None.is in
    absurd (absent_not_live (finite.get c.args.self.now.snapshots c.args.id) (none_seen c.args.self.now _ _ _ _ _ _ c.self.invariant c.self.view_is c.args.id at) c.requires)

pub returns-in-Some : goal.returns-in-Some
returns-in-Some g c =
    let at : position (λ i. i == c.args.id) c.self.inside.ids.items ≡ Some c.in-Some.place = ap (position (λ i. i == c.args.id)) (sym c.deref.ensures.value) ∙ sym c.place_of.ensures ∙ c.in-Some.is in
    let ids : List ℕ = c.self.inside.ids.items in
    let numbers : List ℕ = c.self.inside.numbers.items in
    let place = c.in-Some.place in
    let here = place_is ids c.args.id place at in
    let copied = c.in_ok-extend_from_slice.ensures.items ∙ ap (λ xs. xs ++ c.as_slice.result.now) c.new-left.ensures.items ∙ c.as_slice.ensures.value in
    c.remove.ensures.items ∙ ap (λ xs. remove xs place) copied
    ∙ sym (values_of (remove ids place) (remove numbers place) (each_removed ids numbers place c.self.invariant.each here.0) (rise_remove ids numbers c.args.id place c.self.invariant.each c.self.invariant.ids_rise here.0 here.1))
    ∙ ap (λ (v : VersionsState). finite.values v.snapshots) (remove_seen c.args.self.now _ _ _ 0 _ _ _ c.args.id place c.self.invariant c.self.view_is here.0 here.1)
