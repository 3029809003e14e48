use Rattle.std.proofs.Common.{◌≡◌, ◌≤◌, ◌++◌, drop, map as list_map}
use Rattle.std.specs.Prelude.{pos}
use Rattle.std.specs.List.{AllByRecursion}
use Rattle.stow_bytes.specs.Limits.{number_limit}
use Rattle.stow_model.specs.Item.{Integer}
use Rattle.stow_model.specs.Store.{id_items}
use Rattle.stow_plain.specs.Contents.{bare}
use Rattle.stow_plain.proofs.plain_contents.PlainContents.ids.Given as goal

abbrev pub invariant-loop-copy : goal.invariant-loop-copy
invariant-loop-copy g l = record {
  told : l.items ++ list_map (λ copy. Integer (pos copy.id)) (drop l.copy-index l.copy-items) ≡ id_items (bare l.self);
  within : AllByRecursion (λ copy. copy.id ≤ number_limit) (drop l.copy-index l.copy-items);
}
