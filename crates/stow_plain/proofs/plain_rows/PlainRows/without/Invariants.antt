use Rattle.std.proofs.Common.{◌≡◌, length}
use Rattle.stow_model.specs.LentWords.{words_in}
use Rattle.stow_model.specs.Store.{rows_without}
use Rattle.stow_plain.proofs.plain_rows.PlainRows.without.Given as goal

abbrev pub invariant-loop-key : goal.invariant-loop-key
invariant-loop-key g l = rows_without (words_in l.left) l.rows ≡ rows_without (words_in l.keys) l.self

abbrev pub decreases-loop-key : goal.decreases-loop-key
decreases-loop-key g l = length (words_in l.left)
