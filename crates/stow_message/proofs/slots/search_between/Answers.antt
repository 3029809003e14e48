use Rattle.std.proofs.Common.{◌+◌, ◌-◌, ◌/◌, refl, arith, inr}
use Rattle.stow_tree_model.specs.Order.{VersionPlace}
use Rattle.stow_message.proofs.Searched.{begins_at, tells}
use Rattle.stow_message.proofs.Shared.{shared_between, smaller}
use Rattle.stow_message.proofs.slots.search_between.Goals as goal

pub stand-standing-requires-clause-begins : goal.stand-standing-requires-clause-begins
stand-standing-requires-clause-begins g c =
    let raw = c.args.raw.now in let from = c.args.low in let i = c.loop-low.low + (c.loop-low.high - c.loop-low.low) / 2 in let at = c.loop-low.invariant in
    begins_at raw from c.requires.filled i (omega (arith, at.low)) (omega (arith, at.high, c.loop-low-test.true))

pub stand-standing-requires-clause-alike : goal.stand-standing-requires-clause-alike
stand-standing-requires-clause-alike g c =
    let raw = c.args.raw.now in let from = c.args.low in let l = c.loop-low in let i = l.low + (l.high - l.low) / 2 in let at = l.invariant in let small = smaller l.before l.after c.min.result c.min.ensures in
    shared_between raw from c.requires.filled l.low l.high i l.before l.after c.min.result c.args.key.now small.0 small.1 at.low.0 (omega arith) (omega (arith, c.loop-low-test.true)) at.high.2 at.before at.after

pub loop-low-preserved-then-standing : goal.loop-low-preserved-then-standing
loop-low-preserved-then-standing g c =
    let p : VersionPlace = (c.args.key.now, c.args.number) in let raw = c.args.raw.now in let from = c.args.low in let i = c.loop-low.low + (c.loop-low.high - c.loop-low.low) / 2 in let at = c.loop-low.invariant in
    let less = (tells raw from c.requires.filled i (omega (arith, at.low)) (omega (arith, at.high, c.loop-low-test.true)) p c.stand-standing.result.is_below c.stand-standing.ensures.below).0 c.if-standing.true in
    record { low = omega (arith, at.low, less); high = omega (arith, at.high, less); before = inr (i, refl, omega (arith, at.low), c.stand-standing.ensures.alike); after = at.after }

pub loop-low-preserved : goal.loop-low-preserved
loop-low-preserved g c =
    let p : VersionPlace = (c.args.key.now, c.args.number) in let raw = c.args.raw.now in let from = c.args.low in let i = c.loop-low.low + (c.loop-low.high - c.loop-low.low) / 2 in let at = c.loop-low.invariant in
    let more = (tells raw from c.requires.filled i (omega (arith, at.low)) (omega (arith, at.high, c.loop-low-test.true)) p c.stand-standing.result.is_below c.stand-standing.ensures.below).1 c.if-standing.false in
    record { low = at.low; high = omega (arith, at.high, more, c.loop-low-test.true); before = at.before; after = inr (omega (arith, at.high, c.loop-low-test.true), c.stand-standing.ensures.alike) }
