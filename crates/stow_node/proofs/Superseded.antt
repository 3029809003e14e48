-- A node without messages that newer ones of its buffer supersede.
use Rattle.std.proofs.Common.{◌≡◌, ℕ, ◌+◌, ◌/◌, ◌<◌, ◌≤◌, List, ◌++◌, ◌∷◌, refl, sym, ap, subst, arith}
use Rattle.std.specs.Prelude.{◌⊎◌, IsSome}
use Rattle.stow_leaves.specs.StowLeaf.Replacements.{MeanTheSame}
use Rattle.stow_leaves.proofs.StowLeaf.Found.{none_some, none_unless}
use Rattle.stow_leaves.proofs.StowLeaf.Over.{same_itself, same_pointwise, same_then}
use Rattle.stow_leaves.specs.StowMessage.MessageBuf.{MessageList}
use Rattle.stow_superseded.specs.Hidden.{DropsHidden}
use Rattle.stow_superseded.specs.Superseded.{buffer_without_superseded}
use Rattle.stow_superseded.proofs.HiddenOnes.{hidden_one_same, part_stays}
use Rattle.stow_superseded.proofs.Meaning.{part_there, superseded_same}
use Rattle.stow_tree_model.specs.Agreement.{TenantPins}
use Rattle.stow_tree_model.specs.Keys.{tenant_of}
use Rattle.stow_tree_model.specs.Messages.{ops_in}
use Rattle.stow_tree_model.specs.Operations.{over}
use Rattle.stow_tree_model.specs.Order.{MessagesRise}
use Rattle.stow_tree_model.specs.TreeMessage.{TreeMessage}
use Rattle.stow_node.specs.declared.node.Node.TheInside.{Inside}
use Rattle.stow_node.specs.Nodes.{IsNode, subtree_of}
use Rattle.stow_node.specs.Subtree.{Subtree, messages_of}
use Rattle.stow_node.specs.Superseded.{DropsSuperseded, EachMeansTheSame, LosesHidden}
use Rattle.stow_node.proofs.Accepted.{below_of, whole_ops}

pub means_itself : (pins : TenantPins) (t : Subtree) → EachMeansTheSame pins t t
means_itself pins t key = same_itself (pins (tenant_of key)) (ops_in (messages_of t) key)

-- some of the messages, which mean the same over all older ones
record MeanAsMuch (pins : TenantPins) (all some older : List TreeMessage) : Type 0 where
  are_there : (key : List ℕ) (n : ℕ) → IsSome (ops_in some key n) → IsSome (ops_in all key n)
  mean : (key : List ℕ) → MeanTheSame (pins (tenant_of key)) (over (ops_in all key) (ops_in older key)) (over (ops_in some key) (ops_in older key))

module _ {A : Type 0} (a : Inside A) (pins : TenantPins) (b : MessageList) (node : IsNode a) (block : b.capacity ≡ a.buffer.capacity) (less : MeanAsMuch pins a.buffer.messages b.messages (below_of a)) where
  abbrev last : Inside A
  last = record a { buffer = b }

  fewer_is_node : IsNode last
  fewer_is_node = record {
    tiled = node.tiled;
    first = node.first;
    level = node.level;
    some = node.some;
    block = subst (λ n. (n ≡ a.shape.buffer) ⊎ (n ≡ 0)) (sym block) node.block;
    from = record {
      outside = λ key n o. none_unless (ops_in b.messages key n) (λ s. none_some (ops_in a.buffer.messages key n) (node.from.outside key n o) (less.are_there key n s));
    };
    newer = record { above = λ key n k s t. node.newer.above key n k (less.are_there key n s) t };
    sizes = node.sizes;
  }

  fewer_mean : EachMeansTheSame pins (subtree_of a) (subtree_of last)
  fewer_mean key =
      same_then (pins (tenant_of key)) (ops_in (messages_of (subtree_of a)) key) (over (ops_in a.buffer.messages key) (ops_in (below_of a) key)) (ops_in (messages_of (subtree_of last)) key)
      (same_pointwise (pins (tenant_of key)) (ops_in (messages_of (subtree_of a)) key) (over (ops_in a.buffer.messages key) (ops_in (below_of a) key)) (λ n. sym (whole_ops a key n)))
      (same_then (pins (tenant_of key)) (over (ops_in a.buffer.messages key) (ops_in (below_of a) key)) (over (ops_in b.messages key) (ops_in (below_of a) key)) (ops_in (messages_of (subtree_of last)) key)
      (less.mean key)
      (same_pointwise (pins (tenant_of key)) (over (ops_in b.messages key) (ops_in (below_of a) key)) (ops_in (messages_of (subtree_of last)) key) (λ n. whole_ops last key n)))

-- ---- without all that newer ones supersede

pub record Dropped {A : Type 0} (a : Inside A) (pins : TenantPins) (b : MessageList) : Type 0 where
  pub is_node : IsNode (record a { buffer = b })
  pub drops : DropsSuperseded pins (subtree_of a) (subtree_of (record a { buffer = b }))
  pub means : EachMeansTheSame pins (subtree_of a) (subtree_of (record a { buffer = b }))

dropped_is : {A : Type 0} (a : Inside A) (pins : TenantPins) → IsNode a → MessagesRise a.buffer.messages → (buffer_without_superseded pins a.buffer).used + a.buffer.capacity / 4 ≤ a.buffer.capacity → Dropped a pins (buffer_without_superseded pins a.buffer)
dropped_is {A} a pins node rise ample = record {
  is_node = fewer_is_node a pins fewer node refl less;
  drops = record { weight = (subtree_of (record a { buffer = fewer })).weight; is = refl; lighter = grind arith; ample = ample };
  means = fewer_mean a pins fewer node refl less;
}
  where
    fewer : MessageList
    fewer = buffer_without_superseded pins a.buffer

    less : MeanAsMuch pins a.buffer.messages fewer.messages (below_of a)
    less = record {
      are_there = part_there pins a.buffer.messages;
      mean = λ key. superseded_same pins key (ops_in (below_of a) key) a.buffer.messages rise (λ n k s t. node.newer.above key n k s t);
    }

pub dropped : {A : Type 0} (a : Inside A) (pins : TenantPins) (b : MessageList) → IsNode a → MessagesRise a.buffer.messages → b ≡ buffer_without_superseded pins a.buffer → b.used + a.buffer.capacity / 4 ≤ a.buffer.capacity → Dropped a pins b
dropped a pins b node rise e ample = subst (Dropped a pins) (sym e) (dropped_is a pins node rise (subst (λ (c : MessageList). c.used + a.buffer.capacity / 4 ≤ a.buffer.capacity) e ample))

-- ---- without one that the next one hides

pub record Lost {A : Type 0} (a : Inside A) (pins : TenantPins) (b : MessageList) : Type 0 where
  pub is_node : IsNode (record a { buffer = b })
  pub loses : LosesHidden pins (subtree_of a) (subtree_of (record a { buffer = b }))
  pub means : EachMeansTheSame pins (subtree_of a) (subtree_of (record a { buffer = b }))

pub lost : {A : Type 0} (a : Inside A) (pins : TenantPins) (b : MessageList) → IsNode a → MessagesRise a.buffer.messages → DropsHidden pins a.buffer b → Lost a pins b
lost {A} a pins b node rise drop = record {
  is_node = fewer_is_node a pins b node block less;
  loses = record { buffer = b; weight = (subtree_of (record a { buffer = b })).weight; drops = drop; is = refl; lighter = grind arith };
  means = fewer_mean a pins b node block less;
}
  where
    block : b.capacity ≡ a.buffer.capacity
    block = ap (λ (c : MessageList). c.capacity) drop.are

    more : List TreeMessage
    more = drop.before ++ (drop.hidden ∷ drop.next ∷ drop.after)

    fewer : List TreeMessage
    fewer = drop.before ++ (drop.next ∷ drop.after)

    there : b.messages ≡ fewer
    there = ap (λ (c : MessageList). c.messages) drop.are

    as_much : (all : List TreeMessage) → more ≡ all → MessagesRise all → ((key : List ℕ) (n k : ℕ) → IsSome (ops_in all key n) → IsSome (ops_in (below_of a) key k) → k < n) → MeanAsMuch pins all fewer (below_of a)
    as_much all e rise above = record {
      are_there = λ key n s. subst (λ l. IsSome (ops_in l key n)) e (part_stays drop.before drop.hidden (drop.next ∷ drop.after) key n s);
      mean = λ key. subst (λ l. MeanTheSame (pins (tenant_of key)) (over (ops_in l key) (ops_in (below_of a) key)) (over (ops_in fewer key) (ops_in (below_of a) key))) e
          (hidden_one_same pins drop.hidden drop.next drop.is_hidden key (ops_in (below_of a) key) drop.before drop.after
          (subst MessagesRise (sym e) rise)
          (λ n k s t. above key n k (subst (λ l. IsSome (ops_in l key n)) e s) t));
    }

    less : MeanAsMuch pins a.buffer.messages b.messages (below_of a)
    less = subst (λ l. MeanAsMuch pins a.buffer.messages l (below_of a)) (sym there) (as_much a.buffer.messages (sym drop.were) rise (λ key n k s t. node.newer.above key n k s t))
