use Rattle.std.proofs.Common.{◌≡◌, ◌++◌}
use Rattle.std.specs.Prelude.{filter, take}
use Rattle.std.specs.List.{flat_map}
use Rattle.stow_model.specs.Store.{is_within, row_items, rows_within}
use Rattle.stow_plain.specs.PlainMap.{entries_of}
use Rattle.stow_plain.proofs.plain_rows.PlainRows.items_within.Given as goal

abbrev pub invariant-loop-key : goal.invariant-loop-key
invariant-loop-key g l =
    l.items ++ flat_map row_items (take l.left (filter (λ row. is_within l.from l.to row.0) (entries_of (λ k. k.items) l.key-iterator)))
    ≡ flat_map row_items (rows_within l.from l.to l.count l.self)
