use Rattle.std.proofs.Common.{◌≡◌, ◌+◌, ◌<◌, ◌^◌}
use Rattle.std.specs.Prelude.{filter, not, sum_by}
use Rattle.stow_model.specs.Store.{cost}
use Rattle.stow_ledger.specs.Shown.{is_in}
use Rattle.stow_plain.specs.Contents.{cost_beside, shown_in}
use Rattle.stow_plain.specs.PlainMap.{entries_of}
use Rattle.stow_plain.proofs.plain_rows.PlainRows.cost_beside.Given as goal

abbrev pub invariant-loop-key : goal.invariant-loop-key
invariant-loop-key g l = record {
  fits : l.total < 2 ^ 64;
  costs : l.total + sum_by cost (filter (λ shown. not (is_in shown (shown_in l.copies))) (entries_of (λ k. k.items) l.key-iterator)) ≡ l.sum + cost_beside l.self (shown_in l.copies);
}
