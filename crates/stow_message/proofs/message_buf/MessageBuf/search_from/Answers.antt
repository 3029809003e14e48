use Rattle.std.proofs.Common.{◌∙◌, arith}
use Rattle.stow_message.proofs.Searched.{all_filled, filled_later, below_in_from, slots_seen}
use Rattle.stow_message.proofs.message_buf.MessageBuf.search_from.Goals as goal

pub search_from-requires-clause-within : goal.search_from-requires-clause-within
search_from-requires-clause-within g c = omega (arith, c.requires, slots_seen c.self.inside.raw c.args.self.now c.self.view_is)

pub search_from-requires-clause-filled : goal.search_from-requires-clause-filled
search_from-requires-clause-filled g c = filled_later c.self.inside.raw 0 (all_filled c.self.inside.raw c.self.invariant.filled) c.args.from (omega arith)

pub returns : goal.returns
returns g c = c.search_from.ensures ∙ below_in_from c.self.inside.raw c.self.invariant.filled c.args.self.now c.self.view_is (c.args.key.now, c.args.number) c.args.from c.requires
