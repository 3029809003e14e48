use Rattle.std.proofs.Common.{length, ap, arith}
use Rattle.stow_message.specs.Rising.{is_between}
use Rattle.stow_message.proofs.RisingLists.{below_within}
use Rattle.stow_message.proofs.Ranges.{range_is, range_ends, length-filter}
use Rattle.stow_message.proofs.message_buf.MessageBuf.in_range.Goals as goal

pub search_from-requires : goal.search_from-requires
search_from-requires g c = omega (arith, c.search-low.ensures.count, below_within (c.args.from.bytes.now, 0) c.args.self.now.messages)

pub invariant_of-result : goal.invariant_of-result
invariant_of-result g c = let ends = range_ends c.args.from.bytes.now c.args.to.bytes.now c.args.self.now.messages c.search-low.result c.search_from.result c.search-low.ensures.count c.search_from.ensures c.search-low.ensures.rising in
    (ends.0, ends.1, c.search_from.type_inv)

pub returns-clause-messages : goal.returns-clause-messages
returns-clause-messages g c = range_is c.args.from.bytes.now c.args.to.bytes.now c.args.self.now.messages c.search-low.result c.search_from.result c.search-low.ensures.count c.search_from.ensures c.search-low.ensures.rising

pub returns-clause-small : goal.returns-clause-small
returns-clause-small g c = let ms = c.args.self.now.messages in
    omega (arith, ap length (returns-clause-messages g c), length-filter (is_between c.args.from.bytes.now c.args.to.bytes.now) ms, c.search-low.ensures.small)
