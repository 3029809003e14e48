use Rattle.std.proofs.Common.{◌+◌, ap, ◌∙◌, arith}
use Rattle.stow_leaf.specs.StowMessage.MessageBuf.{message_list}
use Rattle.stow_leaf.specs.StowMessage.Packed.{message_size}
use Rattle.stow_tree_model.specs.TreeMessage.{message_of}
use Rattle.stow_superseded.proofs.Fewer.{first_below, placed_first, first_new}
use Rattle.stow_superseded.proofs.superseding.put_first.Goals as goal

pub push_first-requires-clause-new : goal.push_first-requires-clause-new
push_first-requires-clause-new g c = let s = c.size.ensures in let room = c.requires.room in let u = c.used.ensures.used in let l = c.if-size-most.false in
    (omega (arith, s, room, u, l), first_new (message_of c.args.message) c.args.buffer.now.messages c.requires.rises)

pub push_first-requires-clause-first : goal.push_first-requires-clause-first
push_first-requires-clause-first g c = first_below (message_of c.args.message) c.args.buffer.now.messages c.requires.rises

pub returns-clause-put : goal.returns-clause-put
returns-clause-put g c = λ _. c.push_first.ensures ∙ ap (λ ms. message_list ms (c.args.buffer.now.used + message_size (message_of c.args.message)) c.args.buffer.now.capacity) (placed_first (message_of c.args.message) c.args.buffer.now.messages c.requires.rises)
