use Rattle.std.proofs.Common.{◌≡◌, map, take}
use Rattle.stow_page.specs.StowTreeModel.Operations.{bytes_or_none}
use Rattle.stow_page.specs.StowTreeModel.TreeMessage.{message_of}
use Rattle.stow_merge.specs.OneKey.{folded, left_by, rows_of}
use Rattle.stow_merge.proofs.one_key.fold_all.Given as goal

abbrev pub invariant-loop-i : goal.invariant-loop-i
invariant-loop-i g l = l.bytes.items ≡ bytes_or_none (folded (left_by (rows_of l.row)) (map message_of (take l.i l.messages)))
