use Rattle.std.proofs.Common.{◌≡◌, ap, sym, ◌∙◌, arith}
use Rattle.std.specs.Prelude.{◌==◌, None, Some}
use Rattle.std.specs.List.{position}
use Rattle.std.proofs.lemmas.List.{get_or_read}
use Rattle.stow_versions.proofs.SnapshotLemmas.{place_is}
use Rattle.stow_versions.proofs.KeptLemmas.{none_seen, number_seen}
use Rattle.stow_versions.proofs.versions.Versions.number_of.Goals as goal

pub returns-in-None : goal.returns-in-None
returns-in-None g c =
    let at : position (λ i. i == c.args.id) c.self.inside.ids.items ≡ None = ap (position (λ i. i == c.args.id)) (sym c.deref.ensures.value) ∙ sym c.place_of.ensures ∙ c.in-None.is in
    sym (none_seen c.args.self.now _ _ _ _ _ _ c.self.invariant c.self.view_is c.args.id at)

pub returns-in-Some : goal.returns-in-Some
returns-in-Some g c =
    let at : position (λ i. i == c.args.id) c.self.inside.ids.items ≡ Some c.in-Some.place = ap (position (λ i. i == c.args.id)) (sym c.deref.ensures.value) ∙ sym c.place_of.ensures ∙ c.in-Some.is in
    let here = place_is c.self.inside.ids.items c.args.id c.in-Some.place at in
    ap Some (get_or_read c.self.inside.numbers.items _ _ (omega (arith, here.0, c.self.invariant.each)) c.index.ensures 0)
    ∙ sym (number_seen c.args.self.now _ _ _ _ _ _ c.self.invariant c.self.view_is c.args.id c.in-Some.place at)
