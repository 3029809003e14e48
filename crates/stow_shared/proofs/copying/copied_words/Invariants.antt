use Rattle.std.proofs.Common.{◌≡◌, take}
use Rattle.stow_shared.proofs.copying.copied_words.Given as goal

abbrev pub invariant-loop-index : goal.invariant-loop-index
invariant-loop-index g l = l.copy ≡ take l.index l.words
