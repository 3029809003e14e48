use Rattle.std.proofs.Common.{subst}
use Rattle.stow_versions.specs.VersionsState.{IsVersionsState}
use Rattle.stow_versions.proofs.KeptLemmas.{are_versions}
use Rattle.stow_versions.proofs.versions.Versions.last.Goals as goal

pub returns-clause-kept : goal.returns-clause-kept
returns-clause-kept g c = subst IsVersionsState c.self.view_is (are_versions _ _ _ _ _ _ c.self.invariant)
