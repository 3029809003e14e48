use Rattle.std.proofs.Common.{◌≡◌, ◌≤◌, ◌+◌, length}
use Rattle.stow_model.specs.Wire.{words_of_text}
use Rattle.stow_model.proofs.inline_at.word_count.Given as goal

abbrev pub invariant-loop-rest : goal.invariant-loop-rest
invariant-loop-rest l = record {
  counted : length (words_of_text l.text) ≡ l.count + length (words_of_text l.left);
  few : l.count + length l.left ≤ length l.text;
}

abbrev pub decreases-loop-rest : goal.decreases-loop-rest
decreases-loop-rest l = length l.left
