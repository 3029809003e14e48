-- Nodes may cross threads where their allocator may.
use denote.RattleType.{RattleType}
use denote.Param.SendFields.{as_row_send}
use denote.Param.Send.{IsSend, IsSync, Frees, sendable}
use Rattle.std.specs.declared.alloc.Allocator.{Ghosts}
use Rattle.std.proofs.CrossingOver.{crosses}
use Rattle.stow_flush.proofs.StowLeaf.leaf.Leaf.TheSendSync as leaf
use Rattle.stow_flush.proofs.StowMessage.message_buf.MessageBuf.TheSendSync as message_buf
use Rattle.stow_flush.proofs.StowNode.fence.Fence.TheSendSync as fence
use Rattle.stow_flush.proofs.StowNode.shape.Shape.TheSendSync as shape
use Rattle.stow_flush.proofs.StowNode.node.Node.TheLaws.TheKnot as knot
use Rattle.stow_flush.specs.StowNode.contracts.node.Node as node
use Rattle.stow_raw.proofs.raw_buf.RawBuf.TheSendSync as raw
use Rattle.stow_flush.proofs.StowLeafCache.leaf_cache.LeafCache.TheSendSync as cache
use Rattle.stow_tree.specs.contracts.tree.Tree as tree

pub node_sends : (A : RattleType) (g : Ghosts A.Denot) → IsSend A → IsSync A → Frees g g.dealloc_token → IsSend (node.the_field A g).row
node_sends A g sent shared free =
    knot.send-Node A g
    (search (as_row_send, fence.the_send, crosses, sendable) depth 8)
    (search (as_row_send, sendable))
    (search (as_row_send, shape.the_field_send, sendable) depth 8)
    (search (as_row_send, message_buf.the_send, crosses, sendable) depth 8)
    (λ h s. search (crosses, sendable))
    (search (as_row_send, leaf.the_field_send, crosses, sendable) depth 8)

pub tree_sends : (A : RattleType) (g : Ghosts A.Denot) → IsSend A → IsSync A → Frees g g.dealloc_token → IsSend (tree.the_field A g).row
tree_sends A g sent shared free =
    let n = node_sends A g sent shared free in
    search (raw.the_send, cache.the_send, sendable) depth 8
