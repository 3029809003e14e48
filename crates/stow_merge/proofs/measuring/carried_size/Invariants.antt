use Rattle.std.proofs.Common.{◌≡◌, length, map, take}
use Rattle.stow_page.specs.StowTreeModel.TreeMessage.{message_of}
use Rattle.stow_merge.proofs.WritingLemmas.{carried}
use Rattle.stow_merge.proofs.measuring.carried_size.Given as goal

abbrev pub invariant-loop-i : goal.invariant-loop-i
invariant-loop-i l = l.size ≡ length (carried (map message_of (take l.i l.messages)))
