-- A plan's way down: what a node is after its child's plan.
use Rattle.std.proofs.Common.{zero, suc, ◌≡◌, ◌≢◌, ℕ, ◌+◌, ◌<◌, ◌≤◌, List, [], ◌∷◌, length, get_or, set, Option, Some, refl, sym, ap, ◌∙◌, subst, arith, inl, inr}
use Rattle.std.specs.Prelude.{slice_get}
use Rattle.std.specs.List.{sum_by}
use Rattle.std.specs.Vec.{with_item}
use Rattle.std.specs.declared.vec.Vec.{Vec}
use Rattle.stow_leaves.proofs.StowLeaf.Steps.{inside_of}
use Rattle.stow_leaves.specs.StowLeaf.LeafRows.{row_messages}
use Rattle.stow_leaves.specs.StowLeaf.Replacements.{HasShortValues}
use Rattle.stow_leaves.specs.StowMerge.declared.flush_job.FlushJob.{FlushJob}
use Rattle.stow_leaves.specs.StowMessage.MessageBuf.{MessageList}
use Rattle.stow_leaves.specs.StowMessage.Packed.{message_size}
use Rattle.stow_leaves.specs.StowMessage.Rising.{is_between}
use Rattle.stow_tree_model.specs.Agreement.{TenantPins}
use Rattle.stow_tree_model.specs.Messages.{ops_in}
use Rattle.stow_tree_model.specs.Operations.{or_else}
use Rattle.stow_tree_model.specs.TreeMessage.{TreeMessage}
use Rattle.stow_node.specs.declared.child.Child.{Child}
use Rattle.stow_node.specs.declared.child.Child.TheVariants as in_child
use Rattle.stow_node.specs.declared.node.Node.TheInside.{Inside}
use Rattle.stow_node.specs.Flushes.{AreShort}
use Rattle.stow_node.specs.Moves.{accepted, IsReallocated, StaysInMeaning, bytes_for, IsHeaviest, HandsDown}
use Rattle.stow_node.specs.Nodes.{part_of, node_part, parts_of, IsBelow, subtree_of, IsNode, deepest_of}
use Rattle.stow_node.specs.Parts.{high_of, messages_in}
use Rattle.stow_node.specs.Plans.{HasLeafTarget, IsPlanned, HasDeepest, MovesDown, TakesOwn, GoesToDeepest, Plans}
use Rattle.stow_node.specs.Subtree.{Subtree, buffered, messages_of}
use Rattle.stow_node.proofs.Accepted.{length-all_placed}
use Rattle.stow_node.proofs.Deepest.{append_nothing}
use Rattle.stow_node.proofs.Down.{IsNext, node_at, get-set, MadeRoom, made_room, WentInto, some_there}
use Rattle.stow_node.proofs.Entered.{Entered, entered}
use Rattle.stow_node.proofs.Filled.{some_bytes}
use Rattle.stow_node.proofs.HandedDown.{same_node}
use Rattle.stow_node.proofs.Lowered.{for_child}
use Rattle.stow_node.proofs.Planned.{planned_above}
use Rattle.stow_node.specs.declared.shape.Shape.{Shape}
use Rattle.stow_node.proofs.Reallocated.{block_most, reallocated_same, stays_like}
use Rattle.stow_node.proofs.Spliced.{child_short}
use Rattle.stow_node.proofs.Standing.{parts_ops}
use Rattle.stow_node.proofs.Stayed.{child_stays, level_at}
use Rattle.stow_node.proofs.Ways.{are_children}

-- what stays in meaning keeps its values within the limit
-- what stays in meaning has of each key what it had
pub same_messages : (x y : Subtree) → StaysInMeaning x y → (key : List ℕ) (n : ℕ) → ops_in (messages_of x) key n ≡ ops_in (messages_of y) key n
same_messages x y s key n = parts_ops x key n ∙ (λ i. or_else (sym (s.messages key n) i) (ops_in (row_messages (sym s.leaves i)) key n)) ∙ sym (parts_ops y key n)

pub stays_short : (x y : Subtree) → StaysInMeaning x y → AreShort (messages_of x) → AreShort (messages_of y)
stays_short x y s short key = subst HasShortValues (λ j n. same_messages x y s key n j) (short key)

-- ---- a child's plan

pub record CanPlan (x : Subtree) (height : ℕ) : Type 0 where
  pub short : AreShort (messages_of x)
  pub target : HasLeafTarget x.shape
  pub lower : x.height < height

pub can_plan : {A : Type 0} (a : Inside A) (i : ℕ) (x : Subtree) → IsNode a → slice_get a.children.items i ≡ Some (in_child.Node x) → AreShort (messages_of (subtree_of a)) → HasLeafTarget a.shape → CanPlan x a.height
can_plan {A} a i x node at short target = record {
  short = child_short a i x node at short;
  target = subst HasLeafTarget (sym level.same.0) target;
  lower = let l = level.level in omega (arith, l);
}
  where
    level : IsBelow {A = A} a.height a.shape (in_child.Node x)
    level = level_at a.height a.shape a.children.items i (in_child.Node x) node.level at

pub child_planned : {A : Type 0} (a : Inside A) (i : ℕ) (x z : Subtree) (job : FlushJob A) (pins : TenantPins) → IsNode a → slice_get a.children.items i ≡ Some (in_child.Node x) → StaysInMeaning x z → IsPlanned pins z job → IsPlanned pins (subtree_of (record a { children = with_item a.children i (in_child.Node z) })) job
child_planned {A} a i x z job pins node at s p =
    planned_above (record a { children = with_item a.children i (in_child.Node z) }) i z job pins
    (child_stays a (with_item a.children i (in_child.Node z)) i x z node at refl (stays_like s)).is_node
    (get-set a.children.items i (in_child.Node z) (inside_of a.children.items i (in_child.Node x) at)) p

-- ---- the child below which the deepest buffer stands

-- it is a node
pub record DeepestNode {A : Type 0} (cs : List (Child A)) (i : ℕ) : Type 0 where
  pub node : Subtree
  pub at : slice_get cs i ≡ Some (in_child.Node node)
  pub some : buffered node ≢ []

pub deepest_node : {A : Type 0} (cs : List (Child A)) (i : ℕ) → HasDeepest cs i → DeepestNode cs i
deepest_node {A} cs i h = by_child h.child h.at h.some where
  by_child : (c : Child A) → slice_get cs i ≡ Some c → (part_of c).messages ≢ [] → DeepestNode cs i
  by_child (in_child.Leaf leaf) at some = absurd (some refl)
  by_child (in_child.Node x) at some = record { node = x; at = at; some = some }

pub plans_own : {A : Type 0} (height : ℕ) (old new : Subtree) (job : FlushJob A) → old.deeper ≡ [] → TakesOwn height old new job → Plans height old new job
plans_own zero old new job none t = absurd t
plans_own (suc height) old new job none t = inl (none, t)

plans_higher : {A : Type 0} (k height : ℕ) (old new : Subtree) (job : FlushJob A) → k + 1 ≡ height → GoesToDeepest (Plans k) old new job → Plans height old new job
plans_higher k height old new job e g = subst (λ h. Plans h old new job) (let t : suc k ≡ k + 1 = omega arith in t ∙ e) (inr g)

pub plans_below : {A : Type 0} (a : Inside A) (i : ℕ) (x z : Subtree) (job : FlushJob A) → IsNode a → HasDeepest a.children.items i → slice_get a.children.items i ≡ Some (in_child.Node x) → StaysInMeaning x z → Plans x.height x z job → Plans a.height (subtree_of a) (subtree_of (record a { children = with_item a.children i (in_child.Node z) })) job
plans_below {A} a i x z job node h at s p =
    plans_higher x.height a.height (subtree_of a) (subtree_of (record a { children = with_item a.children i (in_child.Node z) })) job level.level (record {
      children = a.children.items;
      stand = are_children a node;
      index = i;
      node = x;
      at = at;
      deepest = ap deepest_of (same h.child (in_child.Node x) (sym h.at ∙ at)) ∙ h.deepest;
      planned = z;
      way = p;
      own = refl;
      after = are_children (record a { children = with_item a.children i (in_child.Node z) }) (child_stays a (with_item a.children i (in_child.Node z)) i x z node at refl (stays_like s)).is_node;
    })
  where
    level : IsBelow {A = A} a.height a.shape (in_child.Node x)
    level = level_at a.height a.shape a.children.items i (in_child.Node x) node.level at

    same : (c d : Child A) → ◌≡◌ {A = Option (Child A)} (Some c) (Some d) → d ≡ c
    same c d e = cc

-- ---- messages of the node's own

none_in_part : {A : Type 0} (cs : List (Child A)) (i : ℕ) (c : Child A) → messages_in (parts_of cs) ≡ [] → slice_get cs i ≡ Some c → (part_of c).messages ≡ []
none_in_part [] i c none e = absurd cc
none_in_part {A} (d ∷ cs) zero c none e = ap (λ (x : Child A). (part_of x).messages) (same c d e) ∙ (append_nothing (part_of d).messages (messages_in (parts_of cs)) none).0 where
  same : (c d : Child A) → ◌≡◌ {A = Option (Child A)} (Some d) (Some c) → c ≡ d
  same c d e = cc
none_in_part (d ∷ cs) (suc i) c none e = none_in_part cs i c (append_nothing (part_of d).messages (messages_in (parts_of cs)) none).1 e

-- the heaviest child, with the bytes of its messages
pub next_own : {A : Type 0} (a : Inside A) (i : ℕ) (x : Subtree) (c : Child A) (lent : List (Child A)) → IsNode a → a.height ≢ 1 → 0 < length a.buffer.messages → lent ≡ a.children.items → IsHeaviest (parts_of lent) a.buffer i → c ≡ get_or a.children.items i c → c ≡ in_child.Node x
    → sum_by message_size a.buffer.messages ≤ a.buffer.capacity → IsNext a i (bytes_for (parts_of a.children.items) a.buffer i (node_part x)) x
next_own {A} a i x c lent node high_up many e heavy here is live = record {
  at = at;
  bytes_are = refl;
  some = subst (λ n. 0 < bytes_for (parts_of a.children.items) a.buffer i (node_part n)) (same_node h.node x (sym h.at ∙ at)) h.some;
  few = let less = some_bytes (is_between (get_or (parts_of a.children.items) i (node_part x)).low (high_of (parts_of a.children.items) i)) a.buffer.messages in omega (arith, less, live);
  lower = let up : x.height + 1 ≡ a.height = level.level in omega arith;
}
  where
    h : Entered a i
    h = entered a i lent node high_up many e heavy

    at : slice_get a.children.items i ≡ Some (in_child.Node x)
    at = node_at a.children.items i c x (inside_of a.children.items i (in_child.Node h.node) h.at) here is

    level : IsBelow {A = A} a.height a.shape (in_child.Node x)
    level = level_at a.height a.shape a.children.items i (in_child.Node x) node.level at

-- no buffer of it holds a message
pub next_is_empty : {A : Type 0} (a : Inside A) (i bytes : ℕ) (x : Subtree) → messages_in (parts_of a.children.items) ≡ [] → IsNext a i bytes x → buffered x ≡ []
next_is_empty a i bytes x none n = none_in_part a.children.items i (in_child.Node x) none n.at

-- its own bytes are all free
pub room_when_empty : {A : Type 0} (a : Inside A) (i bytes : ℕ) (x y : Subtree) → IsNode a → IsNext a i bytes x → IsReallocated x y → y.buffer.capacity ≡ y.shape.buffer → y.buffer.used ≡ 0 → MadeRoom a i x y
room_when_empty {A} a i bytes x y node n q block free = made_room a i x y node n.at q
    (let level : IsBelow {A = A} a.height a.shape (in_child.Node x) = level_at a.height a.shape a.children.items i (in_child.Node x) node.level n.at in
    let size = ap (λ (s : Shape). s.buffer) ((reallocated_same x y q).0.shape ∙ level.same.0) in
    let own = block_most a.shape.buffer a.buffer node.block in
    let b = n.bytes_are in let f = n.few in omega (arith, b, f, own, size, block, free))

-- the child with the messages that moved into it
pub record IsFilled {A : Type 0} (a : Inside A) (v : Vec (Child A) A) (i : ℕ) (b : MessageList) : Type 0 where
  pub filled : Subtree
  pub at : slice_get v.items i ≡ Some (in_child.Node filled)
  pub some : 0 < length filled.buffer.messages
  pub none : filled.deeper ≡ []

pub is_filled : {A : Type 0} (a : Inside A) (i : ℕ) (x y : Subtree) (v : Vec (Child A) A) (b : MessageList) → buffered x ≡ [] → IsReallocated x y → MadeRoom a i x y → 0 < bytes_for (parts_of a.children.items) a.buffer i (node_part x) → HandsDown (set a.children.items i (in_child.Node y)) i a.buffer v.items b → IsFilled a v i b
is_filled {A} a i x y v b empty q m some h = record {
  filled = accepted ms h.node;
  at = ap (λ cs. slice_get cs i) h.into ∙ get-set (set a.children.items i (in_child.Node y)) i (in_child.Node (accepted ms h.node)) (inside_of (set a.children.items i (in_child.Node y)) i (in_child.Node h.node) h.at);
  some = let l = length-all_placed ms h.node.buffer.messages in let s = many in omega (arith, l, s);
  none = ap (λ (n : Subtree). n.deeper) same ∙ ap (λ (n : Subtree). n.deeper) q.is ∙ (append_nothing x.buffer.messages x.deeper empty).1;
}
  where
    same : h.node ≡ y
    same = same_node h.node y (sym h.at ∙ m.at)

    ms : List TreeMessage
    ms = for_child (record a { children = with_item a.children i (in_child.Node y) }) i h.node

    many : 0 < length ms
    many = subst (λ n. 0 < length (for_child (record a { children = with_item a.children i (in_child.Node y) }) i n)) (sym same)
        (some_there (for_child (record a { children = with_item a.children i (in_child.Node y) }) i y) (let e = m.bytes in omega (arith, e, some)))

takes_higher : {A : Type 0} (k height : ℕ) (old new : Subtree) (job : FlushJob A) → 1 ≤ k → k + 1 ≡ height → MovesDown (TakesOwn k) old new job → TakesOwn height old new job
takes_higher zero height old new job l e m = absurd (omega (arith, l))
takes_higher (suc k) height old new job l e m = subst (λ h. TakesOwn h old new job) (let t : suc (suc k) ≡ suc k + 1 = omega arith in t ∙ e) m

-- the way of a node whose messages moved into its child first
pub own_way : {A : Type 0} (a : Inside A) (i bytes : ℕ) (x y w z : Subtree) (v : Vec (Child A) A) (b : MessageList) (job : FlushJob A) → IsNode a → IsHeaviest (parts_of a.children.items) a.buffer i → IsNext a i bytes x → buffered x ≡ [] → IsReallocated x y → HandsDown (set a.children.items i (in_child.Node y)) i a.buffer v.items b
    → WentInto a v b → slice_get v.items i ≡ Some (in_child.Node w) → StaysInMeaning w z → TakesOwn w.height w z job → TakesOwn a.height (subtree_of a) (subtree_of (record a { children = with_item v i (in_child.Node z); buffer = b })) job
own_way {A} a i bytes x y w z v b job node heavy n empty q down went at s t = takes_higher w.height a.height (subtree_of a) (subtree_of (record a { children = with_item v i (in_child.Node z); buffer = b })) job level.same.2 level.level (record {
  to = record { children = a.children.items; stand = are_children a node; index = i; most = heavy };
  node = x;
  at = n.at;
  ready = y;
  reallocated = q;
  empty = ap buffered q.is ∙ empty;
  after = v.items;
  down = down;
  filled = w;
  taken = at;
  planned = z;
  way = t;
  stand = are_children (record a { children = with_item v i (in_child.Node z); buffer = b }) (child_stays (record a { children = v; buffer = b }) (with_item v i (in_child.Node z)) i w z went.is_node at refl (stays_like s)).is_node;
})
  where
    level : IsBelow {A = A} a.height a.shape (in_child.Node w)
    level = level_at a.height a.shape v.items i (in_child.Node w) went.is_node.level at

-- the child that was looked into is the one that took the messages
pub looked_into : {A : Type 0} (a : Inside A) (v : Vec (Child A) A) (i : ℕ) (b : MessageList) (c : Child A) (w : Subtree) → IsFilled a v i b → c ≡ get_or v.items i c → c ≡ in_child.Node w → slice_get v.items i ≡ Some (in_child.Node w)
looked_into a v i b c w f here is = node_at v.items i c w (inside_of v.items i (in_child.Node f.filled) f.at) here is
