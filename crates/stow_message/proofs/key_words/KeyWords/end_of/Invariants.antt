use Rattle.std.proofs.Common.{◌-◌, ◌≤◌}
use Rattle.stow_message.proofs.key_words.KeyWords.end_of.Given as goal

abbrev pub invariant-loop-low : goal.invariant-loop-low
invariant-loop-low g l = l.low ≤ l.high

abbrev pub decreases-loop-low : goal.decreases-loop-low
decreases-loop-low g l = l.high - l.low
