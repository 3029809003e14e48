use Rattle.std.proofs.Common.{◌≡◌, ◌≢◌, ℕ, ◌+◌, ◌<◌, Some}
use Rattle.std.specs.Prelude.{slice_get}
use Rattle.stow_page.specs.StowTreeModel.Version.{Version}
use Rattle.stow_merge.proofs.parts.are_apart.Given as goal

abbrev pub invariant-loop-i : goal.invariant-loop-i
invariant-loop-i g l = (k : ℕ) (v w : Version) → k + 1 < l.i → slice_get l.block k ≡ Some v → slice_get l.block (k + 1) ≡ Some w → v.key ≢ w.key
