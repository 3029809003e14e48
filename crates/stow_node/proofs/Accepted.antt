-- A node that takes messages into its own buffer.
use Rattle.std.proofs.Common.{◌≡◌, ℕ, ◌+◌, ◌*◌, Bool, true, false, List, [], ◌∷◌, ◌++◌, length, refl, sym, ap, ◌∙◌, subst, arith, append_assoc}
use Rattle.std.specs.Prelude.{IsSome, if◌then◌else◌}
use Rattle.stow_tree_model.specs.Operations.{or_else}
use Rattle.stow_tree_model.specs.Messages.{ops_in}
use Rattle.stow_tree_model.specs.Order.{place_of, MessagesRise}
use Rattle.stow_tree_model.specs.TreeMessage.{TreeMessage}
use Rattle.stow_leaves.specs.StowMessage.MessageBuf.{MessageList, message_list, with_message, with_messages}
use Rattle.stow_leaves.specs.StowMessage.Packed.{message_size}
use Rattle.std.proofs.lemmas.List.Sums.{sum_by-cons}
use Rattle.std.specs.List.Sorted.{IsStrictlySortedBy}
use Rattle.stow_leaves.specs.StowMessage.Rising.{is_below, placed, all_placed}
use Rattle.stow_leaves.proofs.StowMessage.Placed.{AllOther}
use Rattle.stow_node.specs.declared.node.Node.TheInside.{Inside}
use Rattle.stow_node.specs.Subtree.{messages_of}
use Rattle.stow_leaves.specs.StowLeaf.LeafRows.{row_messages}
use Rattle.stow_node.specs.Parts.{messages_in, leaves_in, weight_in}
use Rattle.stow_node.specs.Nodes.{parts_of, subtree_of, IsNode}
use Rattle.stow_node.specs.Moves.{accepted, CanAccept}
use Rattle.stow_leaves.proofs.StowLeaf.Ops.{ops-append, ops-all_placed}
use Rattle.stow_leaves.proofs.StowLeaf.Found.{both_none}
use Rattle.stow_node.proofs.Newer.{all_new_to, newer_than_part}
use Rattle.stow_leaves.proofs.StowLeaf.Found.{some_or, some_left, some_right}

length-placed : (m : TreeMessage) (ns : List TreeMessage) → length (placed m ns) ≡ length ns + 1
length-placed m [] = refl
length-placed m (n ∷ ns) = step (is_below (place_of m) n) (length-placed m ns) where
  step : (b : Bool) → length (placed m ns) ≡ length ns + 1 → length (if b then n ∷ placed m ns else m ∷ n ∷ ns) ≡ length (n ∷ ns) + 1
  step true on = omega (arith, on)
  step false on = omega arith

pub length-all_placed : (ms ns : List TreeMessage) → length (all_placed ms ns) ≡ length ns + length ms
length-all_placed [] ns = omega arith
length-all_placed (m ∷ ms) ns = omega (arith, length-all_placed ms (placed m ns), length-placed m ns)

-- what stands below a node's own buffer
abbrev pub below_of : {A : Type 0} → Inside A → List TreeMessage
below_of a = messages_in (parts_of a.children.items) ++ row_messages (leaves_in (parts_of a.children.items))

pub whole_ops : {A : Type 0} (a : Inside A) (key : List ℕ) (n : ℕ) → ops_in (messages_of (subtree_of a)) key n ≡ or_else (ops_in a.buffer.messages key n) (ops_in (below_of a) key n)
whole_ops a key n =
    ap (λ l. ops_in l key n) (append_assoc a.buffer.messages (messages_in (parts_of a.children.items)) (row_messages (leaves_in (parts_of a.children.items))))
    ∙ ops-append a.buffer.messages (below_of a) key n

pub record Took {A : Type 0} (a : Inside A) (ms : List TreeMessage) (b : MessageList) : Type 0 where
  pub is_node : IsNode (record a { buffer = b })
  pub is : subtree_of (record a { buffer = b }) ≡ accepted ms (subtree_of a)

pub others : {A : Type 0} (a : Inside A) (ms : List TreeMessage) → CanAccept ms (subtree_of a) → AllOther ms a.buffer.messages
others a ms can =
    all_new_to ms a.buffer.messages
    (newer_than_part ms (messages_of (subtree_of a)) a.buffer.messages
    (λ key k s. subst IsSome (sym (whole_ops a key k)) (some_left (ops_in a.buffer.messages key k) (ops_in (below_of a) key k) s))
    can.newer)

pub took : {A : Type 0} (a : Inside A) (ms : List TreeMessage) → IsNode a → CanAccept ms (subtree_of a) → MessagesRise ms → Took a ms (with_messages ms a.buffer)
took {A} a ms node can rise =
    record {
      is_node = record {
        tiled = node.tiled;
        first = node.first;
        level = node.level;
        some = node.some;
        block = node.block;
        from = record {
          outside = λ key n o.
              ops-all_placed ms a.buffer.messages key n rise (others a ms can)
              ∙ both_none (ops_in ms key n) (ops_in a.buffer.messages key n) (can.within.outside key n o) (node.from.outside key n o);
        };
        sizes = node.sizes;
        newer = record {
          above = λ key n k u l.
              some_or (ops_in ms key n) (ops_in a.buffer.messages key n)
              (λ s. can.newer.above key n k s (subst IsSome (sym (whole_ops a key k)) (some_right (ops_in a.buffer.messages key k) (ops_in (below_of a) key k) l)))
              (λ s. node.newer.above key n k s l)
              (subst IsSome (ops-all_placed ms a.buffer.messages key n rise (others a ms can)) u);
        };
      };
      is = ap (λ w. record (subtree_of (record a { buffer = with_messages ms a.buffer })) { weight = w }) weight;
    }
  where
    weight : a.height * length (all_placed ms a.buffer.messages) + weight_in (parts_of a.children.items) ≡ (a.height * length a.buffer.messages + weight_in (parts_of a.children.items)) + a.height * length ms
    weight = ap (λ c. a.height * c + weight_in (parts_of a.children.items)) (length-all_placed ms a.buffer.messages) ∙ grind arith

rises_alone : (m : TreeMessage) → MessagesRise (m ∷ [])
unfolding IsStrictlySortedBy
rises_alone m = (tt, tt)

-- a node that takes one message
pub took_one : {A : Type 0} (a : Inside A) (m : TreeMessage) → IsNode a → CanAccept (m ∷ []) (subtree_of a) → Took a (m ∷ []) (with_message m a.buffer)
took_one a m node can =
    subst (Took a (m ∷ [])) (ap (λ used. message_list (placed m a.buffer.messages) used a.buffer.capacity) (ap (λ s. a.buffer.used + s) (sum_by-cons message_size m [] ∙ grind arith)))
    (took a (m ∷ []) node can (rises_alone m))
