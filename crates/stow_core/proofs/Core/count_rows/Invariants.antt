use Rattle.std.proofs.Common.{◌≡◌, ◌≤◌, take}
use Rattle.stow_model.specs.LentWords.{words_in}
use Rattle.stow_model.specs.Store.{count_rows}
use Rattle.stow_core.specs.State.{rows_in}
use Rattle.stow_core.proofs.Core.count_rows.Given as goal

abbrev pub invariant-loop-index : goal.invariant-loop-index
invariant-loop-index g l = record {
  few : l.count ≤ l.index;
  so_far : l.count ≡ count_rows (rows_in l.self l.rows) (take l.index (words_in l.keys));
}
