use Rattle.std.proofs.Common.{◌≡◌, length}
use Rattle.std.specs.List.{list_any}
use Rattle.std.specs.Str.{bytes_eq}
use Rattle.stow_model.specs.LentWords.{words_in}
use Rattle.stow_core.proofs.deleting.is_among.Given as goal

abbrev pub invariant-loop-other : goal.invariant-loop-other
invariant-loop-other l = list_any (bytes_eq l.key) (words_in l.keys) ≡ list_any (bytes_eq l.key) (words_in l.left)

abbrev pub decreases-loop-other : goal.decreases-loop-other
decreases-loop-other l = length (words_in l.left)
