-- What reads of the root tell of the tree.
use Rattle.std.proofs.Common.{◌≡◌, ℕ, List, ap, ◌∙◌, sym}
use Rattle.stow_flush.specs.StowNode.Subtree.{Subtree, messages_of}
use Rattle.stow_tree_model.specs.Messages.{ops_of, ops_in}
use Rattle.stow_tree.specs.TreeState.{TreeState, tree_messages, IsRead}
use Rattle.stow_tree.proofs.Sets.{ops_messages, all_ops}

-- what the root's messages tell of a key
pub root_ops : (t : TreeState) (root : Subtree) (key : List ℕ) → root ≡ t.root → ops_in (messages_of root) key ≡ ops_of (tree_messages t) key
root_ops t root key is = ap (λ r. ops_in (messages_of r) key) is ∙ sym (ops_messages t key)

-- and of all keys
pub all_root_ops : (t : TreeState) (root : Subtree) → root ≡ t.root → ops_in (messages_of root) ≡ ops_of (tree_messages t)
all_root_ops t root is = ap (λ r. ops_in (messages_of r)) is ∙ sym (all_ops t)

pub read_then : (s t u : TreeState) → IsRead s t → IsRead t u → IsRead s u
read_then s t u a b = record { root = b.root ∙ a.root; limit = b.limit ∙ a.limit }
