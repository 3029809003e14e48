use Rattle.std.proofs.Common.{◌≡◌, ◌-◌, drop, Some}
use Rattle.stow_read.specs.Suffixes.{extended, bytes_lent}
use Rattle.stow_read.proofs.suffixes.Suffixes.folded.Given as goal

abbrev pub invariant-loop-i : goal.invariant-loop-i
invariant-loop-i g l = Some l.bytes.items ≡ extended (Some l.base) (drop (l.count - l.i) (bytes_lent l.self.suffixes.items))
