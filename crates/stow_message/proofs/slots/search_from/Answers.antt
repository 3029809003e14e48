use Rattle.std.proofs.Common.{◌+◌, ◌-◌, ◌<◌, length, arith, ◌∙◌}
use Rattle.stow_tree_model.specs.Order.{VersionPlace}
use Rattle.stow_message.specs.MessageBuf.{messages_from}
use Rattle.stow_message.proofs.RisingLists.{below_within}
use Rattle.stow_message.proofs.Searched.{begins_at, tells, filled_later, ends_later, count_from}
use Rattle.stow_message.proofs.slots.search_from.Goals as goal

pub is_slot_below-requires-clause-begins : goal.is_slot_below-requires-clause-begins
is_slot_below-requires-clause-begins g c =
    let raw = c.args.raw.now in let from = c.args.from in let i = c.loop-low.low + c.loop-low.step - 1 in let at = c.loop-low.invariant in
    begins_at raw from c.requires.filled i (omega (arith, at.low, at.step)) (omega (arith, at.step, c.loop-low-test.true, c.slot_count-len.ensures))

pub search_between-requires-clause-filled : goal.search_between-requires-clause-filled
search_between-requires-clause-filled g c = filled_later c.args.raw.now c.args.from c.requires.filled c.loop-low.low c.loop-low.invariant.low.0

pub search_between-requires-clause-end : goal.search_between-requires-clause-end
search_between-requires-clause-end g c =
    let p : VersionPlace = (c.args.key.now, c.args.number) in let raw = c.args.raw.now in let from = c.args.from in let i = c.loop-low.low + c.loop-low.step - 1 in let at = c.loop-low.invariant in
    let more = (tells raw from c.requires.filled i (omega (arith, at.low, at.step)) (omega (arith, at.step, c.loop-low-test.true, c.slot_count-len.ensures)) p c.is_slot_below.result c.is_slot_below.ensures).1 c.if-not-is_slot_below.true in
    omega (arith, more, ends_later raw from c.requires.filled p c.loop-low.low at.low.0 at.low.1)

pub returns-then-not-is_slot_below : goal.returns-then-not-is_slot_below
returns-then-not-is_slot_below g c =
    let p : VersionPlace = (c.args.key.now, c.args.number) in let at = c.loop-low.invariant in
    c.search_between.ensures ∙ ends_later c.args.raw.now c.args.from c.requires.filled p c.loop-low.low at.low.0 at.low.1

pub loop-low-preserved : goal.loop-low-preserved
loop-low-preserved g c =
    let p : VersionPlace = (c.args.key.now, c.args.number) in let raw = c.args.raw.now in let from = c.args.from in let i = c.loop-low.low + c.loop-low.step - 1 in let at = c.loop-low.invariant in
    let lt : i < length raw.slots = omega (arith, at.step, c.loop-low-test.true, c.slot_count-len.ensures) in
    let less = (tells raw from c.requires.filled i (omega (arith, at.low, at.step)) lt p c.is_slot_below.result c.is_slot_below.ensures).0 c.if-not-is_slot_below.false in
    record { low = omega (arith, at.low, at.step, less); within = omega (arith, at.step, lt); step = omega (arith, at.step) }

pub search_between-requires-2-clause-filled : goal.search_between-requires-2-clause-filled
search_between-requires-2-clause-filled g c = filled_later c.args.raw.now c.args.from c.requires.filled c.loop-low.low c.loop-low.invariant.low.0

pub search_between-requires-2-clause-end : goal.search_between-requires-2-clause-end
search_between-requires-2-clause-end g c =
    let p : VersionPlace = (c.args.key.now, c.args.number) in let raw = c.args.raw.now in let low = c.loop-low.low in let h = filled_later raw c.args.from c.requires.filled low c.loop-low.invariant.low.0 in
    omega (arith, count_from raw low h c.loop-low.invariant.within, below_within p (messages_from raw low), c.slot_count-len.ensures)

pub returns : goal.returns
returns g c =
    let p : VersionPlace = (c.args.key.now, c.args.number) in let at = c.loop-low.invariant in
    c.search_between-2.ensures ∙ ends_later c.args.raw.now c.args.from c.requires.filled p c.loop-low.low at.low.0 at.low.1
