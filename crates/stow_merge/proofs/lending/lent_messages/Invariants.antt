use Rattle.std.proofs.Common.{◌≡◌, map, take}
use Rattle.stow_page.specs.StowTreeModel.TreeMessage.{message_of}
use Rattle.stow_merge.proofs.lending.lent_messages.Given as goal

abbrev pub invariant-loop-i : goal.invariant-loop-i
invariant-loop-i g l = map message_of l.lent.items ≡ take l.i l.batch.messages
