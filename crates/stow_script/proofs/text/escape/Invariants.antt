use Rattle.std.proofs.Common.{◌≡◌, ◌++◌, drop}
use Rattle.std.specs.Io.{StartsWith}
use Rattle.stow_script.specs.Text.{text_of}
use Rattle.stow_script.proofs.text.escape.Given as goal

abbrev pub invariant-loop-byte : goal.invariant-loop-byte
invariant-loop-byte g l = (l.out.items ++ text_of (drop l.byte-index l.bytes) ≡ l.fn.out.items ++ text_of l.bytes)
    × StartsWith l.out.items l.fn.out.items
