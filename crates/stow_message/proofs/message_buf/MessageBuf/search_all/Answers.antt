use Rattle.std.proofs.Common.{◌∙◌, arith}
use Rattle.stow_tree_model.specs.Order.{VersionPlace}
use Rattle.stow_message.proofs.RisingLists.{below_within}
use Rattle.stow_message.proofs.Searched.{all_filled, below_in, slots_seen}
use Rattle.stow_message.proofs.message_buf.MessageBuf.search_all.Goals as goal

pub search_between-requires-clause-order : goal.search_between-requires-clause-order
search_between-requires-clause-order g c = (omega arith, omega (arith, c.len.ensures.len, slots_seen c.self.inside.raw c.args.self.now c.self.view_is))

pub search_between-requires-clause-filled : goal.search_between-requires-clause-filled
search_between-requires-clause-filled g c = all_filled c.self.inside.raw c.self.invariant.filled

pub search_between-requires-clause-end : goal.search_between-requires-clause-end
search_between-requires-clause-end g c = let p : VersionPlace = (c.args.key.now, c.args.number) in
    omega (arith, c.len.ensures.len, below_in c.self.inside.raw c.self.invariant.filled c.args.self.now c.self.view_is p, below_within p c.args.self.now.messages)

pub returns-clause-count : goal.returns-clause-count
returns-clause-count g c = c.search_between.ensures ∙ below_in c.self.inside.raw c.self.invariant.filled c.args.self.now c.self.view_is (c.args.key.now, c.args.number)
