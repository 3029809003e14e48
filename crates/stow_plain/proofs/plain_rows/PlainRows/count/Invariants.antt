use Rattle.std.proofs.Common.{◌≡◌, ◌≤◌, ◌+◌, drop}
use Rattle.stow_model.specs.LentWords.{words_in}
use Rattle.stow_model.specs.Store.{count_rows}
use Rattle.stow_plain.proofs.plain_rows.PlainRows.count.Given as goal

abbrev pub invariant-loop-index : goal.invariant-loop-index
invariant-loop-index g l = record {
  few : l.count ≤ l.index;
  count : l.count + count_rows l.self (drop l.index (words_in l.keys)) ≡ count_rows l.self (words_in l.keys);
}
