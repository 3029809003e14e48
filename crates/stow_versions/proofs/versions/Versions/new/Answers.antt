use Rattle.std.proofs.Common.{arith}
use Rattle.stow_versions.proofs.KeptLemmas.{same_versions, no_snapshots}
use Rattle.stow_versions.proofs.versions.Versions.new.Goals as goal

pub returns : goal.returns
returns g c = same_versions 0 1 _ _ _ _ (no_snapshots _ _ c.new.ensures.items c.new-2.ensures.items) (omega (arith, c.new.ensures.capacity, c.new.ensures.len))
