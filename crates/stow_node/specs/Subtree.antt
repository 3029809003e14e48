-- What a contract sees of a node: all that stands in it and below it.
use Rattle.std.specs.Prelude.{ℕ, zero, suc, List, [], ◌∷◌, ◌++◌, Option, None, Some, min}
use Rattle.stow_leaves.specs.StowMessage.MessageBuf.{MessageList, message_list}
use Rattle.stow_tree_model.specs.Keys.{packed}
use Rattle.stow_tree_model.specs.TreeMessage.{TreeMessage}
use Rattle.stow_leaves.specs.StowLeaf.LeafRows.{LeafRows, row_messages}
use Rattle.stow_node.specs.declared.shape.Shape.{Shape}

pub record Subtree : Type 0 where
  -- the lowest key that it may hold
  pub low : List ℕ
  -- how many levels of nodes it has
  pub height : ℕ
  -- how many children it has
  pub width : ℕ
  pub shape : Shape
  -- its own messages
  pub buffer : MessageList
  -- the messages in the buffers below it
  pub deeper : List TreeMessage
  -- of these, the messages in the buffers right above the leaves
  pub nearest : List TreeMessage
  -- how high the deepest buffer below it stands that holds a message
  pub deepest : Option ℕ
  -- the leaves, from the lowest
  pub leaves : List LeafRows
  -- over all its messages, how many levels above the leaves each stands, added up
  pub weight : ℕ

-- a node's own messages where it stands right above leaves, and else those below it
abbrev pub nearest_at : ℕ → List TreeMessage → List TreeMessage → List TreeMessage
nearest_at zero own below = below
nearest_at (suc zero) own below = own
nearest_at (suc (suc height)) own below = below

-- the lower one of two heights, where there is one
abbrev pub lower_height : Option ℕ → Option ℕ → Option ℕ
lower_height None b = b
lower_height (Some a) None = Some a
lower_height (Some a) (Some b) = Some (min a b)

-- the height of a buffer that holds a message
abbrev pub height_of_some : ℕ → List TreeMessage → Option ℕ
height_of_some height [] = None
height_of_some height (m ∷ ms) = Some height

-- the messages in its buffers
abbrev pub buffered : Subtree → List TreeMessage
buffered t = t.buffer.messages ++ t.deeper

-- the messages in the buffers right above the leaves, apart from those further up
abbrev pub right_above_leaves : Subtree → List TreeMessage
right_above_leaves t = nearest_at t.height t.buffer.messages t.nearest

-- how high the deepest buffer stands that holds a message
abbrev pub deepest_buffer : Subtree → Option ℕ
deepest_buffer t = lower_height t.deepest (height_of_some t.height t.buffer.messages)

-- all messages of a node, those in buffers before those that rows stand for
abbrev pub messages_of : Subtree → List TreeMessage
messages_of t = buffered t ++ row_messages t.leaves

-- a node above one empty leaf, for all keys
abbrev pub first_subtree : Shape → Subtree
first_subtree shape =
    record {
      low = packed 0 [];
      height = 1;
      width = 1;
      shape = shape;
      buffer = message_list [] 0 shape.buffer;
      deeper = [];
      nearest = [];
      deepest = None;
      leaves = (packed 0 [], []) ∷ [];
      weight = 0;
    }
