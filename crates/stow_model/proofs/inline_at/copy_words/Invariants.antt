use Rattle.std.proofs.Common.{◌≡◌, ◌++◌, length}
use Rattle.stow_model.specs.Wire.{words_of_text}
use Rattle.stow_model.proofs.inline_at.copy_words.Given as goal

abbrev pub invariant-loop-word : goal.invariant-loop-word
invariant-loop-word g l = l.initial.words ++ words_of_text l.text ≡ l.words ++ words_of_text l.left

abbrev pub decreases-loop-word : goal.decreases-loop-word
decreases-loop-word g l = length l.left
