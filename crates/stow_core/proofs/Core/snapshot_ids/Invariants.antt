use Rattle.std.proofs.Common.{◌≡◌, map, take, pos}
use Rattle.stow_model.specs.Item as item
use Rattle.stow_core.proofs.Core.snapshot_ids.Given as goal

abbrev pub invariant-loop-id : goal.invariant-loop-id
invariant-loop-id g l = l.items ≡ map (λ id. item.Integer (pos id)) (take l.id-index l.ids)
