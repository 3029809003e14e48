-- Intervals of a tenant's keys among the keys of all.
use Rattle.std.specs.Prelude.{ℕ, ◌+◌, List, [], ◌∷◌, length, if◌then◌else◌, ◌==◌}
use Rattle.stow_model.specs.Item.{Item}
use Rattle.stow_model.specs.Item as item
use Rattle.stow_dropping.specs.StowRead.Range.{KeyValue}
use Rattle.stow_tree_model.specs.Keys.{packed, own_key}

-- the upper end: an empty one is none, and the tenant's keys end where the next index's begin
abbrev pub upper_end : ℕ → List ℕ → List ℕ
upper_end tenant to = if length to == 0 then packed (tenant + 1) [] else packed tenant to

-- what is told of a row
abbrev pub row_bulks : KeyValue → List Item
row_bulks row = item.Bulk (own_key row.0) ∷ item.Bulk row.1 ∷ []
