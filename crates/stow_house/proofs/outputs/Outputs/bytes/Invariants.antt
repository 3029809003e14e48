use Rattle.std.proofs.Common.{◌≡◌, map, take}
use Rattle.std.specs.List.{flat_map}
use Rattle.stow_model.specs.Reply.{encoding}
use Rattle.stow_house.specs.Outputs.{told_as, replies_to}
use Rattle.stow_house.proofs.outputs.Outputs.bytes.Given as goal

-- the bytes of the replies so far
abbrev pub invariant-loop-told : goal.invariant-loop-told
invariant-loop-told g l = l.bytes.items ≡ flat_map encoding (replies_to l.connection (take l.told-index (map told_as l.told-items)))
