use Rattle.std.proofs.Common.{◌≡◌, ◌++◌, length}
use Rattle.std.specs.List.{AllByRecursion}
use Rattle.stow_model.specs.Wire.{bulks, FitsBulk}
use Rattle.stow_model.proofs.message_at.elements.Given as goal

abbrev pub invariant-loop-index : goal.invariant-loop-index
invariant-loop-index g l = record {
  count : length l.words ≡ l.index;
  fits : AllByRecursion FitsBulk l.words;
  at : l.rest ≡ bulks l.words ++ l.left;
}
