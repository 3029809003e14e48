use Rattle.std.proofs.Common.{◌≡◌, ◌++◌, take, map}
use Rattle.std.specs.List.{flat_map}
use Rattle.stow_page.specs.StowTreeModel.Op.{bytes_in}
use Rattle.stow_page.specs.StowTreeModel.TreeMessage.{message_of}
use Rattle.stow_merge.proofs.survey.append_all.Given as goal

abbrev pub invariant-loop-message : goal.invariant-loop-message
invariant-loop-message g l = l.bytes.items ≡ l.initial.bytes.items ++ flat_map (λ m. bytes_in m.op) (map message_of (take l.message-index l.messages))
