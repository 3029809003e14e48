use Rattle.std.proofs.Common.{false}
use Rattle.stow_read.specs.Way.{AreNext, buffers_of}
use Rattle.stow_read.proofs.Ways.{AreOnWay}
use Rattle.stow_read.proofs.way.Way.to.Given as goal

abbrev pub invariant-loop-levels : goal.invariant-loop-levels
invariant-loop-levels g l = record {
  on_way : AreOnWay l.node l.here l.fn.key.bytes.now l.end.bytes.now (buffers_of l.levels.items);
  next : AreNext l.fn.key.bytes.now false l.fn.to.bytes.now l.levels.items;
}

abbrev pub decreases-loop-levels : goal.decreases-loop-levels
decreases-loop-levels g l = l.here.height
