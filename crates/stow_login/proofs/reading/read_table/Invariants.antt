use Rattle.std.proofs.Common.{◌≡◌, drop, length}
use Rattle.toml.specs.View.{table_view, items_view}
use Rattle.stow_login.specs.TenantFile.{entries_of, entries_after}
use Rattle.stow_login.proofs.reading.read_table.Given as goal

abbrev pub invariant-loop-item : goal.invariant-loop-item
invariant-loop-item g l = record {
  left : entries_of (table_view l.table) ≡ entries_after (l.tenants) (items_view (drop l.item-index l.items));
  read : length l.tenants ≡ l.item-index;
}
