use Rattle.std.proofs.Common.{◌-◌}
use Rattle.stow_read.specs.Suffixes.{suffixes_of}
use Rattle.stow_read.proofs.Looked.{IsLooking}
use Rattle.stow_read.proofs.suffixes.Suffixes.look.Given as goal

abbrev pub invariant-loop-i : goal.invariant-loop-i
invariant-loop-i g l = IsLooking l.buffer.messages l.fn.key.bytes.now l.at (l.front.count - l.i) (suffixes_of l.fn.self) (suffixes_of l.self)
