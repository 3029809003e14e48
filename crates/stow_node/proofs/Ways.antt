-- The way of a step's messages.
use Rattle.std.proofs.Common.{zero, suc, ◌≡◌, ℕ, ◌+◌, ◌/◌, ◌<◌, ◌≤◌, List, [], ◌++◌, max, take, drop, set, Some, refl, sym, ◌∙◌, subst, arith, inl, inr}
use Rattle.std.specs.List.{sum_by}
use Rattle.std.specs.Prelude.{slice_get}
use Rattle.std.specs.declared.vec.Vec.{Vec}
use Rattle.stow_leaves.specs.StowLeafCache.Cache.{Cache}
use Rattle.stow_leaves.proofs.StowLeaf.Steps.{inside_of}
use Rattle.stow_leaves.specs.Absorbs.{Merges}
use Rattle.stow_leaves.specs.StowMessage.MessageBuf.{MessageList, without_range}
use Rattle.stow_leaves.specs.StowMessage.Packed.{message_size}
use Rattle.stow_tree_model.specs.Agreement.{TenantPins}
use Rattle.stow_node.specs.declared.child.Child.{Child}
use Rattle.stow_node.specs.declared.child.Child.TheVariants as in_child
use Rattle.stow_node.specs.declared.node.Node.TheInside.{Inside}
use Rattle.stow_node.specs.Moves.{IsLaden, LacksRoom, IsReallocated, bytes_for, IsHeaviest, HandsDown}
use Rattle.stow_node.specs.Nodes.{node_part, parts_of, leaves_of, AreLeaves, IsBelow, subtree_of, IsNode, AreChildren}
use Rattle.stow_node.specs.Parts.{high_of}
use Rattle.stow_node.specs.Regroups.{Grows}
use Rattle.stow_node.specs.Subtree.{Subtree}
use Rattle.stow_node.specs.Ways.{MergesHeaviest, MergesTaken, GoesDown, Goes}
use Rattle.stow_node.proofs.Down.{IsNext}
use Rattle.stow_node.proofs.Reallocated.{reallocated_same}
use Rattle.stow_node.proofs.Stayed.{level_at}
use Rattle.stow_node.proofs.Stepping.{behind_set}

pub are_children : {A : Type 0} (a : Inside A) → IsNode a → AreChildren (subtree_of a) a.children.items
are_children a node = record {
  width = refl;
  some = node.some;
  low = node.first;
  deeper = refl;
  nearest = refl;
  deepest = refl;
  leaves = refl;
  tiled = node.tiled;
  level = node.level;
  from = node.from;
  newer = node.newer;
}

pub merges_heaviest : {A : Type 0} (a : Inside A) (v : Vec (Child A) A) (i : ℕ) (low high : List ℕ) (pins : TenantPins) (new : Subtree) (came : List (Child A)) (cache cache' : Cache) → IsNode a → IsNode (record a { children = v; buffer = without_range low high a.buffer }) → IsHeaviest (parts_of a.children.items) a.buffer i
    → AreLeaves v.items → (m : Merges (leaves_of a.children.items) i a.buffer.messages pins a.shape.leaf (leaves_of v.items) cache cache') → low ≡ m.leaf.0 → high ≡ high_of (parts_of a.children.items) i → Grows pins (subtree_of (record a { children = v; buffer = without_range low high a.buffer })) new came
    → MergesHeaviest pins (subtree_of a) new came cache cache'
merges_heaviest a v i low high pins new came cache cache' node after heavy leaves m l h grows = record {
  to = record { children = a.children.items; stand = are_children a node; index = i; most = heavy };
  fresh = v.items;
  are_leaves = leaves;
  merges = m;
  cut = record {
    whole = subtree_of (record a { children = v; buffer = without_range low high a.buffer });
    stand = are_children (record a { children = v; buffer = without_range low high a.buffer }) after;
    own = λ j. without_range (l j) (h j) a.buffer;
    grows = grows;
  };
}

-- a node above nodes, of a child's height
higher : {A : Type 0} (k height : ℕ) (pins : TenantPins) (old new : Subtree) (came : List (Child A)) (cache cache' : Cache) → 1 ≤ k → k + 1 ≡ height → GoesDown (Goes k pins) pins old new came cache cache' → Goes height pins old new came cache cache'
higher zero height pins old new came cache cache' l e h = absurd (omega arith)
higher (suc k) height pins old new came cache cache' l e h = subst (λ n. Goes n pins old new came cache cache') (let t : suc (suc k) ≡ suc k + 1 = omega arith in t ∙ e) h

-- the child's height is what the node's is above
height_up : {A : Type 0} (a : Inside A) (i bytes : ℕ) (x y : Subtree) → IsNode a → IsNext a i bytes x → IsReallocated x y → (1 ≤ y.height) × (y.height + 1 ≡ a.height)
height_up {A} a i bytes x y node n q =
    let level : IsBelow {A = A} a.height a.shape (in_child.Node x) = level_at a.height a.shape a.children.items i (in_child.Node x) node.level n.at in
    let h = (reallocated_same x y q).0.height in
    let l = level.same.2 in
    let e : x.height + 1 ≡ a.height = level.level in
    (omega (arith, h, l), omega (arith, h, e))

lacks_room : {A : Type 0} (a : Inside A) (i bytes ample : ℕ) (x y : Subtree) → IsNode a → IsNext a i bytes x → IsReallocated x y → ample ≡ max bytes (a.shape.buffer / 4) → y.buffer.capacity < sum_by message_size y.buffer.messages + ample → LacksRoom (bytes_for (parts_of a.children.items) a.buffer i (node_part y)) y
lacks_room {A} a i bytes ample x y node n q e full =
    let level : IsBelow {A = A} a.height a.shape (in_child.Node x) = level_at a.height a.shape a.children.items i (in_child.Node x) node.level n.at in
    let shape : y.shape ≡ a.shape = (reallocated_same x y q).0.shape ∙ level.same.0 in
    let are : bytes ≡ bytes_for (parts_of a.children.items) a.buffer i (node_part y) = n.bytes_are ∙ rw q.is refl in
    subst (λ k. y.buffer.capacity < sum_by message_size y.buffer.messages + k) (e ∙ (λ j. max (are j) ((sym shape j).buffer / 4))) full

-- the child's messages moved into it
pub goes_into : {A : Type 0} (a : Inside A) (v : Vec (Child A) A) (b : MessageList) (i bytes : ℕ) (x y : Subtree) (came : List (Child A)) (pins : TenantPins) (cache : Cache) → IsNode a → IsNode (record a { children = v; buffer = b }) → IsHeaviest (parts_of a.children.items) a.buffer i → IsNext a i bytes x → IsReallocated x y
    → HandsDown (set a.children.items i (in_child.Node y)) i a.buffer v.items b → (filled : Subtree) → slice_get v.items i ≡ Some (in_child.Node filled) → ¬ IsLaden 0 filled → came ≡ [] → Goes a.height pins (subtree_of a) (subtree_of (record a { children = v; buffer = b })) came cache cache
goes_into {A} a v b i bytes x y came pins cache node after heavy n q down filled taken light none =
    let up = height_up a i bytes x y node n q in
    higher y.height a.height pins (subtree_of a) (subtree_of (record a { children = v; buffer = b })) came cache cache up.0 up.1 (record {
      to = record { children = a.children.items; stand = are_children a node; index = i; most = heavy };
      node = x;
      at = n.at;
      ready = y;
      reallocated = q;
      way = inl (record { after = v.items; down = down; filled = filled; taken = taken; light = light; stand = are_children (record a { children = v; buffer = b }) after; none = none; same = refl });
    })

-- the step was the child's own
pub goes_below : {A : Type 0} (a : Inside A) (v : Vec (Child A) A) (i bytes ample : ℕ) (x y z new : Subtree) (behind came : List (Child A)) (pins : TenantPins) (cache cache' : Cache) → IsNode a → IsNode (record a { children = v }) → IsHeaviest (parts_of a.children.items) a.buffer i → IsNext a i bytes x → IsReallocated x y → ample ≡ max bytes (a.shape.buffer / 4) → y.buffer.capacity < sum_by message_size y.buffer.messages + ample
    → Goes y.height pins y z behind cache cache' → v.items ≡ take (i + 1) (set a.children.items i (in_child.Node z)) ++ (behind ++ drop (i + 1) (set a.children.items i (in_child.Node z))) → Grows pins (subtree_of (record a { children = v })) new came
    → Goes a.height pins (subtree_of a) new came cache cache'
goes_below {A} a v i bytes ample x y z new behind came pins cache cache' node after heavy n q is full goes items grows =
    let up = height_up a i bytes x y node n q in
    let are = items ∙ behind_set a.children.items i (in_child.Node z) behind (inside_of a.children.items i (in_child.Node x) n.at) in
    higher y.height a.height pins (subtree_of a) new came cache cache' up.0 up.1 (record {
      to = record { children = a.children.items; stand = are_children a node; index = i; most = heavy };
      node = x;
      at = n.at;
      ready = y;
      reallocated = q;
      way = inr (inr (record {
        lacks = lacks_room a i bytes ample x y node n q is full;
        stepped = z;
        behind = behind;
        steps = goes;
        cut = record {
          whole = subtree_of (record a { children = v });
          stand = subst (AreChildren (subtree_of (record a { children = v }))) are (are_children (record a { children = v }) after);
          own = refl;
          grows = grows;
        };
      }));
    })

-- the child's messages moved into it, and it merged all that it had
pub goes_merging : {A : Type 0} (a : Inside A) (v : Vec (Child A) A) (b : MessageList) (i bytes : ℕ) (x y z new : Subtree) (behind came : List (Child A)) (pins : TenantPins) (cache cache' : Cache) → IsNode a → IsNode (record a { children = v; buffer = b }) → IsHeaviest (parts_of a.children.items) a.buffer i → IsNext a i bytes x → IsReallocated x y
    → (after : List (Child A)) (down : HandsDown (set a.children.items i (in_child.Node y)) i a.buffer after b) (filled : Subtree) → slice_get after i ≡ Some (in_child.Node filled) → IsLaden 0 filled → MergesTaken (set a.children.items i (in_child.Node y)) i a.buffer pins down.node filled z behind cache cache'
    → v.items ≡ take (i + 1) (set after i (in_child.Node z)) ++ (behind ++ drop (i + 1) (set after i (in_child.Node z))) → Grows pins (subtree_of (record a { children = v; buffer = b })) new came
    → Goes a.height pins (subtree_of a) new came cache cache'
goes_merging {A} a v b i bytes x y z new behind came pins cache cache' node is_node heavy n q after down filled taken laden merges items grows =
    let up = height_up a i bytes x y node n q in
    let are = items ∙ behind_set after i (in_child.Node z) behind (inside_of after i (in_child.Node filled) taken) in
    higher y.height a.height pins (subtree_of a) new came cache cache' up.0 up.1 (record {
      to = record { children = a.children.items; stand = are_children a node; index = i; most = heavy };
      node = x;
      at = n.at;
      ready = y;
      reallocated = q;
      way = inr (inl (record {
        after = after;
        left = b;
        down = down;
        filled = filled;
        taken = taken;
        laden = laden;
        stepped = z;
        behind = behind;
        merges = merges;
        cut = record {
          whole = subtree_of (record a { children = v; buffer = b });
          stand = subst (AreChildren (subtree_of (record a { children = v; buffer = b }))) are (are_children (record a { children = v; buffer = b }) is_node);
          own = refl;
          grows = grows;
        };
      }));
    })
