use Rattle.std.proofs.Common.{◌++◌, map, ap, ◌∙◌, sym, subst}
use Rattle.stow_node.specs.StowMessage.MessageBuf.{MessageList}
use Rattle.stow_tree_model.specs.Order.{MessagesRise}
use Rattle.stow_tree_model.specs.TreeMessage.{message_of}
use Rattle.stow_read.specs.Path.{IsPath}
use Rattle.stow_read.proofs.Gathered.{IsGathering, gathering_first, gathering_on, is_path}
use Rattle.stow_read.proofs.Looked.{newest_of}
use Rattle.stow_read.proofs.path.path_of.Goals as goal

pub loop-messages-init : goal.loop-messages-init
loop-messages-init g c = subst (λ items. IsGathering c.args.node.now c.args.node.now c.args.key.bytes.now (map message_of items)) (sym c.new-messages.ensures.items) (gathering_first c.args.node.now c.args.key.bytes.now c.requires)

pub returns-in-Leaf : goal.returns-in-Leaf
returns-in-Leaf g c =
    subst (λ ms. IsPath c.args.node.now c.args.key.bytes.now ms c.in-Leaf.leaf.rows)
    (sym (c.in_ok-add_older.ensures ∙ ap (λ (b : MessageList). map message_of c.loop-messages.messages.items ++ newest_of c.args.key.bytes.now b.messages) c.buffer-in-loop-messages.ensures))
    (is_path c.args.node.now c.loop-messages.here.now c.in-Leaf.leaf c.children-known.result.now c.below.result.now c.args.key.bytes.now (map message_of c.loop-messages.messages.items) c.loop-messages.invariant c.children-known.ensures
    (subst (λ (b : MessageList). MessagesRise b.messages) c.buffer.ensures c.len-known.ensures.rising) c.below.ensures c.in-Leaf.is)

pub loop-messages-preserved : goal.loop-messages-preserved
loop-messages-preserved g c =
    subst (λ ms. IsGathering c.args.node.now c.in-Node.lower c.args.key.bytes.now ms)
    (sym (c.in_ok-add_older.ensures ∙ ap (λ (b : MessageList). map message_of c.loop-messages.messages.items ++ newest_of c.args.key.bytes.now b.messages) c.buffer-in-loop-messages.ensures))
    (gathering_on c.args.node.now c.loop-messages.here.now c.in-Node.lower c.children-known.result.now c.below.result.now c.args.key.bytes.now (map message_of c.loop-messages.messages.items) c.loop-messages.invariant c.children-known.ensures
    (subst (λ (b : MessageList). MessagesRise b.messages) c.buffer.ensures c.len-known.ensures.rising) c.below.ensures c.in-Node.is)
