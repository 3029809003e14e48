use Rattle.std.proofs.Common.{◌+◌, ◌-◌, ◌≤◌, length}
use Rattle.stow_message.specs.MessageBuf.{messages_from}
use Rattle.stow_message.specs.Rising.{below}
use Rattle.stow_message.proofs.slots.search_from.Given as goal

abbrev pub invariant-loop-low : goal.invariant-loop-low
invariant-loop-low g l = record {
  low : (l.from ≤ l.low) × (l.low ≤ l.from + below (l.key, l.number) (messages_from l.raw l.from));
  within : l.low ≤ length l.raw.slots;
  step : (1 ≤ l.step) × (l.step ≤ l.low + 1);
}

abbrev pub decreases-loop-low : goal.decreases-loop-low
decreases-loop-low g l = length l.raw.slots - l.low
