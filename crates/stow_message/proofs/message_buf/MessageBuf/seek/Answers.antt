use Rattle.std.proofs.Common.{arith}
use Rattle.stow_message.proofs.RisingLists.{below_within}
use Rattle.stow_message.proofs.message_buf.MessageBuf.seek.Goals as goal

pub front-requires : goal.front-requires
front-requires g c = omega (arith, c.search_all.ensures.count, below_within (c.args.key.now, c.args.number) c.args.self.now.messages)

pub front-requires-in-None : goal.front-requires-in-None
front-requires-in-None g c = omega (arith, c.search_all-in-None.ensures.count, below_within (c.args.key.now, c.args.number) c.args.self.now.messages)
