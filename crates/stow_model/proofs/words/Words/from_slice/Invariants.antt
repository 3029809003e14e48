use Rattle.std.proofs.Common.{◌≡◌, take}
use Rattle.stow_model.proofs.words.Words.from_slice.Given as goal

abbrev pub invariant-loop-word : goal.invariant-loop-word
invariant-loop-word g l = l.made ≡ take l.word-index l.words
