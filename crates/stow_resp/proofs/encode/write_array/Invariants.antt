use Rattle.std.proofs.Common.{◌≡◌, ◌++◌, drop}
use Rattle.std.specs.List.{flat_map}
use Rattle.stow_model.specs.Item.{item_encoding}
use Rattle.stow_resp.specs.Extends.{Extends}
use Rattle.stow_resp.proofs.encode.write_array.Given as goal

abbrev pub invariant-loop-index : goal.invariant-loop-index
invariant-loop-index g l = record {
  written : l.out.items ++ flat_map item_encoding (drop l.index l.items) ≡ l.initial.out.items ++ flat_map item_encoding l.items;
  keeps : Extends l.initial.out.items l.out.items;
}
