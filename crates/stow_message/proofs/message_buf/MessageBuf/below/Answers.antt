use Rattle.std.proofs.Common.{arith}
use Rattle.stow_message.proofs.RisingLists.{below_within}
use Rattle.stow_message.proofs.message_buf.MessageBuf.below.Goals as goal

pub front-requires : goal.front-requires
front-requires g c = omega (arith, c.search_from.ensures, c.is_past.ensures.within c.if-is_past.true, below_within (c.args.key.bytes.now, c.args.number) c.args.self.now.messages)
