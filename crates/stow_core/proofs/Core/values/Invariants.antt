use Rattle.std.proofs.Common.{◌≡◌, map, take}
use Rattle.std.specs.FinMap as rows
use Rattle.stow_model.specs.LentWords.{words_in}
use Rattle.stow_model.specs.Store.{item_or_null}
use Rattle.stow_core.specs.State.{rows_in}
use Rattle.stow_core.proofs.Core.values.Given as goal

abbrev pub invariant-loop-index : goal.invariant-loop-index
invariant-loop-index g l = l.items ≡ map (λ key. item_or_null (rows.get (rows_in l.self l.rows) key)) (take l.index (words_in l.keys))
