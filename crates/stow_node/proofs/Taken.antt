-- A child that took its messages out of the buffer above it, and merged all that it had then.
use Rattle.std.proofs.Common.{◌≡◌, ℕ, ◌+◌, ◌<◌, ◌≤◌, List, ◌++◌, length, take, drop, set, Option, Some, None, refl, sym, ap, ◌∙◌, subst, arith, ⊎_elim, length-set}
use Rattle.std.specs.List.{sum_by}
use Rattle.std.specs.Prelude.{slice_get}
use Rattle.std.specs.Vec.{with_item, with_items}
use Rattle.std.specs.declared.vec.Vec.{Vec}
use Rattle.std.proofs.lemmas.List.{with_items_is}
use Rattle.stow_tree_model.specs.Agreement.{TenantPins}
use Rattle.stow_tree_model.specs.Keys.{tenant_of}
use Rattle.stow_tree_model.specs.Messages.{ops_in}
use Rattle.stow_tree_model.specs.Operations.{or_else}
use Rattle.stow_tree_model.specs.Order.{MessagesRise}
use Rattle.stow_leaves.specs.StowMessage.MessageBuf.{MessageList, without_range}
use Rattle.stow_leaves.specs.StowMessage.Packed.{message_size}
use Rattle.stow_leaves.specs.StowMessage.Rising.{in_range}
use Rattle.stow_leaves.specs.StowLeafCache.Cache.{Cache}
use Rattle.stow_leaves.specs.StowLeaf.Intervals.{top_key}
use Rattle.stow_leaves.specs.StowLeaf.LeafRows.{LeafRows, row_messages}
use Rattle.stow_leaves.specs.StowLeaf.Replacements.{HasShortValues}
use Rattle.stow_leaves.proofs.StowLeaf.Over.{same_then}
use Rattle.stow_leaves.proofs.StowLeaf.Steps.{inside_of}
use Rattle.stow_leaves.specs.Forgets.{Forgets}
use Rattle.stow_node.specs.declared.child.Child.{Child}
use Rattle.stow_node.specs.declared.child.Child.TheVariants as in_child
use Rattle.stow_node.specs.declared.node.Node.TheInside.{Inside}
use Rattle.stow_node.specs.declared.room.Room.{Room}
use Rattle.stow_node.specs.declared.shape.Shape.{Shape}
use Rattle.stow_node.specs.Flushes.{AreShort, KeepsMeaning}
use Rattle.stow_node.specs.Moves.{accepted, bytes_for, HandsDown, IsHeaviest, IsReallocated, messages_for, StaysInMeaning}
use Rattle.stow_node.specs.Nodes.{parts_of, subtree_of, IsBelow, IsNode}
use Rattle.stow_node.specs.Parts.{Part, high_of, leaves_in}
use Rattle.stow_node.specs.Regroups.{Grows, StepsAsOne, ForgetsCame}
use Rattle.stow_node.specs.Rooms.{HasRoom}
use Rattle.stow_node.specs.Subtree.{Subtree, messages_of}
use Rattle.stow_node.specs.TakesDown.{CanTakeDown, MayHandDown, MergesDown, TakesDown, TakesLight}
use Rattle.stow_node.specs.Ways.{Goes}
use Rattle.stow_node.proofs.Down.{IsNext, MadeRoom, WentInto, get-set, new_items, some_there, went_into}
use Rattle.stow_node.proofs.Lowered.{AtChild, at_child, end_at_most, for_child}
use Rattle.stow_node.proofs.Reallocated.{reallocated_same}
use Rattle.stow_node.proofs.Row.{message_taken, messages_apart}
use Rattle.stow_node.proofs.Spliced.{child_short}
use Rattle.stow_node.proofs.Standing.{parts_ops}
use Rattle.stow_node.proofs.Stayed.{ChildStays, child_stays, level_at, part_at}
use Rattle.stow_node.proofs.Stepping.{Stepped, behind_length, came_forgets, came_in, stays_keeps}
use Rattle.stow_node.proofs.Ways.{goes_merging}

keeps_then : (pins : TenantPins) (x y z : Subtree) → KeepsMeaning pins x y → KeepsMeaning pins y z → KeepsMeaning pins x z
keeps_then pins x y z a b = record {
  low = b.low ∙ a.low;
  height = b.height ∙ a.height;
  shape = b.shape ∙ a.shape;
  capacity = b.capacity ∙ a.capacity;
  sizes = b.sizes;
  tile = λ high t. b.tile high (a.tile high t);
  means = λ key. same_then (pins (tenant_of key)) (ops_in (messages_of x) key) (ops_in (messages_of y) key) (ops_in (messages_of z) key) (a.means key) (b.means key);
}

short_stays : (x y : Subtree) → StaysInMeaning x y → AreShort (messages_of x) → AreShort (messages_of y)
short_stays x y s short key = subst HasShortValues (λ j n. sym (same n) j) (short key) where
  same : (n : ℕ) → ops_in (messages_of y) key n ≡ ops_in (messages_of x) key n
  same n = parts_ops y key n ∙ (λ i. or_else (s.messages key n i) (ops_in (row_messages (s.leaves i)) key n)) ∙ sym (parts_ops x key n)

-- ---- before it takes them

-- the row once it took them
abbrev row_down : {A : Type 0} → Inside A → ℕ → Subtree → List (Child A)
row_down a i y = set (set a.children.items i (in_child.Node y)) i (in_child.Node (accepted (for_child (record a { children = with_item a.children i (in_child.Node y) }) i y) y))

pub can_take_down : {A : Type 0} (a : Inside A) (i bytes : ℕ) (x y : Subtree) → IsNode a → MessagesRise a.buffer.messages → IsNext a i bytes x → MadeRoom a i x y → 1 ≤ y.shape.fan_out → AreShort (messages_of (subtree_of a)) → CanTakeDown (set a.children.items i (in_child.Node y)) i a.buffer
can_take_down {A} a i bytes x y node rise n m fan_out short = record {
  node = y;
  at = m.at;
  can = m.can;
  some = some_there (for_child made i y) (let e = m.bytes in let s = n.some in let b = n.bytes_are in omega (arith, e, s, b));
  tile = c.tile;
  ends = end_at_most message_taken top_key (parts_of (set a.children.items i (in_child.Node y))) i (messages_apart top_key (parts_of (set a.children.items i (in_child.Node y))) m.made.is_node.tiled) c.inside;
  fan_out = fan_out;
  short = child_short (record a { children = w; buffer = b }) i filled went.is_node there (short_stays (subtree_of a) (subtree_of (record a { children = w; buffer = b })) went.stays short);
}
  where
    made : Inside A
    made = record a { children = with_item a.children i (in_child.Node y) }

    c : AtChild made i y
    c = at_child made i y m.made.is_node m.at

    filled : Subtree
    filled = accepted (for_child made i y) y

    b : MessageList
    b = without_range y.low (high_of (parts_of (set a.children.items i (in_child.Node y))) i) a.buffer

    down : HandsDown (set a.children.items i (in_child.Node y)) i a.buffer (row_down a i y) b
    down = record { node = y; at = m.at; into = refl; from = refl }

    w : Vec (Child A) A
    w = with_items (with_item a.children i (in_child.Node y)) (row_down a i y)

    items : w.items ≡ row_down a i y
    items = new_items a.children i (in_child.Node y) (row_down a i y) a.buffer b down

    went : WentInto a w b
    went = went_into a i x y w b node rise m (let s = n.some in let e = n.bytes_are in omega (arith, s, e)) (subst (λ (l : List (Child A)). HandsDown (set a.children.items i (in_child.Node y)) i a.buffer l b) (sym items) down)

    there : slice_get w.items i ≡ Some (in_child.Node filled)
    there = ap (λ (l : List (Child A)). slice_get l i) items ∙ get-set (set a.children.items i (in_child.Node y)) i (in_child.Node filled)
        (let l = length-set a.children.items i (in_child.Node y) in let h = inside_of (set a.children.items i (in_child.Node y)) i (in_child.Node y) m.at in omega (arith, h))

-- the bytes of its messages are the same once dead bytes of its own are dropped
pub bytes_down : {A : Type 0} (a : Inside A) (i bytes : ℕ) (x y : Subtree) (d : Part) → IsNext a i bytes x → MadeRoom a i x y → bytes ≡ bytes_for (parts_of (set a.children.items i (in_child.Node y))) a.buffer i d
bytes_down a i bytes x y d n m =
    n.bytes_are ∙ sym m.bytes
    ∙ sym (ap (λ (p : Part). sum_by message_size (in_range p.low (high_of (parts_of (set a.children.items i (in_child.Node y))) i) a.buffer.messages)) (part_at (set a.children.items i (in_child.Node y)) i (in_child.Node y) d m.at))

-- ---- once it merged them

pub record Drained {A : Type 0} (a : Inside A) (v : Vec (Child A) A) (b : MessageList) (pins : TenantPins) (cache cache' : Cache) : Type 0 where
  pub is_node : IsNode (record a { children = v; buffer = b })
  pub keeps : KeepsMeaning pins (subtree_of a) (subtree_of (record a { children = v; buffer = b }))
  pub lighter : (subtree_of (record a { children = v; buffer = b })).weight < (subtree_of a).weight
  pub forgets : Forgets (leaves_in (parts_of a.children.items)) (leaves_in (parts_of v.items)) cache cache'

-- the node in between, once the messages moved, and the child's step from there
pub drained : {A : Type 0} (a : Inside A) (w v : Vec (Child A) A) (b : MessageList) (i : ℕ) (filled z : Subtree) (behind : List (Child A)) (pins : TenantPins) (cache cache' : Cache) → WentInto a w b → slice_get w.items i ≡ Some (in_child.Node filled) → StepsAsOne pins filled z behind → ForgetsCame filled z behind cache cache'
    → v.items ≡ take (i + 1) (set w.items i (in_child.Node z)) ++ (behind ++ drop (i + 1) (set w.items i (in_child.Node z))) → Drained a v b pins cache cache'
drained {A} a w v b i filled z behind pins cache cache' went taken steps forgets items = record {
  is_node = st.is_node;
  keeps = keeps_then pins (subtree_of a) (subtree_of middle) (subtree_of (record a { children = v; buffer = b })) (stays_keeps pins (subtree_of a) (subtree_of middle) went.stays went.is_node.sizes) st.keeps;
  lighter = let one = went.weight in let two = st.lighter in omega (arith, one, two);
  forgets = subst (λ (ls : List LeafRows). Forgets ls (leaves_in (parts_of v.items)) cache cache') went.stays.leaves (came_forgets middle v i filled z behind cache cache' taken items forgets);
}
  where
    middle : Inside A
    middle = record a { children = w; buffer = b }

    st : Stepped middle v pins
    st = came_in middle v i filled z behind pins went.is_node taken steps items

-- ---- which of both it was

pub light_of : {A : Type 0} (pins : TenantPins) (cs : List (Child A)) (i : ℕ) (b : MessageList) (above : List ℕ) (r : Option (Room A)) (cs' : List (Child A)) (b' : MessageList) (cache cache' : Cache) → TakesDown pins cs i b above r cs' b' cache cache' → r ≡ None → TakesLight cs i b cs' b' cache cache'
light_of pins cs i b above None cs' b' cache cache' t e = t
light_of pins cs i b above (Some room) cs' b' cache cache' t e = absurd cc

pub merging_of : {A : Type 0} (pins : TenantPins) (cs : List (Child A)) (i : ℕ) (b : MessageList) (above : List ℕ) (r : Option (Room A)) (room : Room A) (cs' : List (Child A)) (b' : MessageList) (cache cache' : Cache) → TakesDown pins cs i b above r cs' b' cache cache' → r ≡ Some room → MergesDown pins cs i b above room cs' b' cache cache'
merging_of {A} pins cs i b above r room cs' b' cache cache' t e = subst (λ (o : Option (Room A)). TakesDown pins cs i b above o cs' b' cache cache') e t

-- ---- the row that the slice was in the end

pub lent_items : {A : Type 0} (v : Vec (Child A) A) (i : ℕ) (y : Child A) (l : List (Child A)) → length l ≡ length v.items → (with_items (with_item v i y) l).items ≡ l
lent_items v i y l e = with_items_is (with_item v i y) l (e ∙ sym v.ok.0)

-- how many there are once the child took its messages
pub down_length : {A : Type 0} (cs after : List (Child A)) (i : ℕ) (y : Child A) (b b' : MessageList) → HandsDown (set cs i y) i b after b' → length after ≡ length cs
down_length cs after i y b b' h = ap length h.into ∙ length-set (set cs i y) i (in_child.Node (accepted (messages_for (parts_of (set cs i y)) b i h.node) h.node)) ∙ length-set cs i y

-- where memory was refused, its messages may have moved
pub record Refused {A : Type 0} (a : Inside A) (v : Vec (Child A) A) (b : MessageList) : Type 0 where
  pub is_node : IsNode (record a { children = v; buffer = b })
  pub stays : StaysInMeaning (subtree_of a) (subtree_of (record a { children = v; buffer = b }))

pub refused : {A : Type 0} (a : Inside A) (i bytes : ℕ) (x y : Subtree) (l : List (Child A)) (b : MessageList) → IsNode a → MessagesRise a.buffer.messages → IsNext a i bytes x → IsReallocated x y → MadeRoom a i x y → MayHandDown (set a.children.items i (in_child.Node y)) i a.buffer l b → Refused a (with_items (with_item a.children i (in_child.Node y)) l) b
refused {A} a i bytes x y l b node rise n q m may = ⊎_elim
    (λ (k : (l ≡ set a.children.items i (in_child.Node y)) × (b ≡ a.buffer)).
    let items = lent_items a.children i (in_child.Node y) l (ap length k.0 ∙ length-set a.children.items i (in_child.Node y)) ∙ k.0 in
    let kept : ChildStays a x y (with_items (with_item a.children i (in_child.Node y)) l) = child_stays a (with_items (with_item a.children i (in_child.Node y)) l) i x y node n.at items (reallocated_same x y q).0 in
    subst (Refused a (with_items (with_item a.children i (in_child.Node y)) l)) (sym k.1) (record { is_node = kept.is_node; stays = kept.stays }))
    (λ (h : HandsDown (set a.children.items i (in_child.Node y)) i a.buffer l b).
    let items = new_items a.children i (in_child.Node y) l a.buffer b h in
    let went : WentInto a (with_items (with_item a.children i (in_child.Node y)) l) b = went_into a i x y (with_items (with_item a.children i (in_child.Node y)) l) b node rise m (let s = n.some in let e = n.bytes_are in omega (arith, s, e)) (subst (λ (k : List (Child A)). HandsDown (set a.children.items i (in_child.Node y)) i a.buffer k b) (sym items) h) in
    record { is_node = went.is_node; stays = went.stays })
    may

-- the node once the child merged
pub record IsUnladen {A : Type 0} (a : Inside A) (v : Vec (Child A) A) (b : MessageList) (i bytes : ℕ) (x y : Subtree) (behind : List (Child A)) (pins : TenantPins) (cache cache' : Cache) : Type 0 where
  pub drained : Drained a v b pins cache cache'
  pub wide : length v.items ≡ length a.children.items + length behind
  pub goes : (new : Subtree) (came : List (Child A)) → IsHeaviest (parts_of a.children.items) a.buffer i → Grows pins (subtree_of (record a { children = v; buffer = b })) new came → Goes a.height pins (subtree_of a) new came cache cache'

pub unladen : {A : Type 0} (a : Inside A) (v : Vec (Child A) A) (b : MessageList) (i bytes : ℕ) (x y : Subtree) (above : List ℕ) (room : Room A) (l : List (Child A)) (pins : TenantPins) (cache cache' : Cache) → IsNode a → MessagesRise a.buffer.messages → IsNext a i bytes x → IsReallocated x y → MadeRoom a i x y → MergesDown pins (set a.children.items i (in_child.Node y)) i a.buffer above room l b cache cache'
    → v.items ≡ take (i + 1) (with_items (with_item a.children i (in_child.Node y)) l).items ++ (room.came.items ++ drop (i + 1) (with_items (with_item a.children i (in_child.Node y)) l).items) → IsUnladen a v b i bytes x y room.came.items pins cache cache'
unladen {A} a v b i bytes x y above room l pins cache cache' node rise n q m d items = record {
  drained = drained a w v b i d.filled d.merged room.came.items pins cache cache' went (ap (λ (k : List (Child A)). slice_get k i) w_items ∙ d.taken) d.steps d.forgets
      (are ∙ (λ j. take (i + 1) (set (sym w_items j) i (in_child.Node d.merged)) ++ (room.came.items ++ drop (i + 1) (set (sym w_items j) i (in_child.Node d.merged)))));
  wide =
      let e = ap length are ∙ behind_length (set d.after i (in_child.Node d.merged)) i room.came.items (let k = length-set d.after i (in_child.Node d.merged) in let h = inside_of d.after i (in_child.Node d.filled) d.taken in omega (arith, h, k)) in
      let k = length-set d.after i (in_child.Node d.merged) in
      omega (arith, e, k, many);
  goes = λ new came heavy grows.
      goes_merging a v b i bytes x y d.merged new room.came.items came pins cache cache' node drained_node heavy n q d.after d.down d.filled d.taken d.laden d.merges are grows;
}
  where
    many : length d.after ≡ length a.children.items
    many = down_length a.children.items d.after i (in_child.Node y) a.buffer b d.down

    w : Vec (Child A) A
    w = with_items (with_item a.children i (in_child.Node y)) d.after

    w_items : w.items ≡ d.after
    w_items = new_items a.children i (in_child.Node y) d.after a.buffer b d.down

    l_items : (with_items (with_item a.children i (in_child.Node y)) l).items ≡ set d.after i (in_child.Node d.merged)
    l_items = lent_items a.children i (in_child.Node y) l (ap length d.into ∙ length-set d.after i (in_child.Node d.merged) ∙ many) ∙ d.into

    are : v.items ≡ take (i + 1) (set d.after i (in_child.Node d.merged)) ++ (room.came.items ++ drop (i + 1) (set d.after i (in_child.Node d.merged)))
    are = items ∙ (λ j. take (i + 1) (l_items j) ++ (room.came.items ++ drop (i + 1) (l_items j)))

    went : WentInto a w b
    went = went_into a i x y w b node rise m (let s = n.some in let e = n.bytes_are in omega (arith, s, e)) (subst (λ (k : List (Child A)). HandsDown (set a.children.items i (in_child.Node y)) i a.buffer k b) (sym w_items) d.down)

    drained_node : IsNode (record a { children = v; buffer = b })
    drained_node = (drained a w v b i d.filled d.merged room.came.items pins cache cache' went (ap (λ (k : List (Child A)). slice_get k i) w_items ∙ d.taken) d.steps d.forgets
        (are ∙ (λ j. take (i + 1) (set (sym w_items j) i (in_child.Node d.merged)) ++ (room.came.items ++ drop (i + 1) (set (sym w_items j) i (in_child.Node d.merged)))))).is_node

-- there is room above it
pub merging_room : {A : Type 0} (a : Inside A) (b : MessageList) (i bytes : ℕ) (x y : Subtree) (above : List ℕ) (room : Room A) (l : List (Child A)) (pins : TenantPins) (cache cache' : Cache) → IsNode a → MessagesRise a.buffer.messages → IsNext a i bytes x → MadeRoom a i x y → MergesDown pins (set a.children.items i (in_child.Node y)) i a.buffer above room l b cache cache' → HasRoom a.shape above room
merging_room {A} a b i bytes x y above room l pins cache cache' node rise n m d =
    let w : Vec (Child A) A = with_items (with_item a.children i (in_child.Node y)) d.after in
    let items : w.items ≡ d.after = new_items a.children i (in_child.Node y) d.after a.buffer b d.down in
    let went : WentInto a w b = went_into a i x y w b node rise m (let s = n.some in let e = n.bytes_are in omega (arith, s, e)) (subst (λ (k : List (Child A)). HandsDown (set a.children.items i (in_child.Node y)) i a.buffer k b) (sym items) d.down) in
    let level : IsBelow {A = A} a.height a.shape (in_child.Node d.filled) = level_at a.height a.shape w.items i (in_child.Node d.filled) went.is_node.level (ap (λ (k : List (Child A)). slice_get k i) items ∙ d.taken) in
    subst (λ (s : Shape). HasRoom s above room) level.same.0 d.has_room
