use Rattle.std.proofs.Common.{◌+◌, ◌-◌, ◌≤◌, length}
use Rattle.stow_message.specs.MessageBuf.{messages_from}
use Rattle.stow_message.specs.Rising.{below}
use Rattle.stow_message.proofs.Shared.{SharedBefore, SharedAfter}
use Rattle.stow_message.proofs.slots.search_between.Given as goal

abbrev pub invariant-loop-low : goal.invariant-loop-low
invariant-loop-low g l = let from = l.initial.low in let n = from + below (l.key, l.number) (messages_from l.raw from) in record {
  low : (from ≤ l.low) × (l.low ≤ n);
  high : (n ≤ l.high) × (l.low ≤ l.high) × (l.high ≤ length l.raw.slots);
  before : SharedBefore l.raw from l.low l.key l.before;
  after : SharedAfter l.raw l.high l.key l.after;
}

abbrev pub decreases-loop-low : goal.decreases-loop-low
decreases-loop-low g l = l.high - l.low
