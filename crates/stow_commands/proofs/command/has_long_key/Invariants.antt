use Rattle.std.proofs.Common.{◌≡◌, length}
use Rattle.std.specs.List.{list_any}
use Rattle.stow_model.specs.Command.{is_long_key}
use Rattle.stow_model.specs.LentWords.{words_in}
use Rattle.stow_commands.proofs.command.has_long_key.Given as goal

abbrev pub invariant-loop-key : goal.invariant-loop-key
invariant-loop-key l = list_any is_long_key (words_in l.keys) ≡ list_any is_long_key (words_in l.left)

abbrev pub decreases-loop-key : goal.decreases-loop-key
decreases-loop-key l = length (words_in l.left)
