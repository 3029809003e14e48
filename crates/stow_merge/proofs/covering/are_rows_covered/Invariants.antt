use Rattle.std.proofs.Common.{ℕ, ◌<◌, get_or}
use Rattle.stow_page.specs.StowTreeModel.Keys.{tenant_of}
use Rattle.stow_page.specs.StowTreeModel.Version.{Version}
use Rattle.stow_merge.specs.Covering.{IsCovered}
use Rattle.stow_merge.specs.Pins.{pins_in}
use Rattle.stow_merge.proofs.covering.are_rows_covered.Given as goal

abbrev pub invariant-loop-i : goal.invariant-loop-i
invariant-loop-i g l = (k : ℕ) (d : Version) → k < l.i → IsCovered (pins_in l.used (tenant_of (get_or l.rows k d).key)) (pins_in l.present (tenant_of (get_or l.rows k d).key)) (get_or l.rows k d).number
