use Rattle.std.proofs.Common.{sym, ap, ◌∙◌}
use Rattle.std.specs.FinMap as map
use Rattle.stow_versions.specs.VersionsState.{VersionsState}
use Rattle.stow_versions.proofs.SnapshotLemmas.{len_of}
use Rattle.stow_versions.proofs.versions.Versions.live.Goals as goal

pub returns : goal.returns
returns g c =
    c.len.ensures ∙ c.self.inside.ids.ok.0
    ∙ sym (len_of c.self.inside.ids.items c.self.inside.numbers.items c.self.invariant.each c.self.invariant.ids_rise)
    ∙ ap (λ (v : VersionsState). map.len v.snapshots) c.self.view_is
