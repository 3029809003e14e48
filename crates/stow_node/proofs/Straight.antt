-- A child that takes its messages, and may merge all that it has then, in a row of children.
use Rattle.std.proofs.Common.{zero, suc, ◌≡◌, ℕ, List, [], ◌∷◌, ◌++◌, length, set, Option, Some, None, refl, sym, ap, ◌∙◌, subst, arith, inl, inr}
use Rattle.std.specs.Prelude.{slice_get, slice_set, Result, Ok, Err, OnErr}
use Rattle.std.specs.List.{sum_by}
use Rattle.stow_leaves.specs.StowLeafCache.Cache.{Cache}
use Rattle.stow_leaves.specs.StowLeaf.LeafRows.{LeafRows}
use Rattle.stow_leaves.specs.Forgets.{Forgets}
use Rattle.stow_leaves.proofs.StowLeaf.Steps.{inside_of}
use Rattle.stow_leaves.specs.StowMessage.MessageBuf.{MessageList, without_range}
use Rattle.stow_leaves.specs.StowMessage.Packed.{message_size}
use Rattle.stow_leaves.specs.StowMessage.Rising.{in_range}
use Rattle.stow_tree_model.specs.Agreement.{TenantPins}
use Rattle.stow_tree_model.specs.TreeMessage.{TreeMessage}
use Rattle.stow_node.specs.declared.child.Child.{Child}
use Rattle.stow_node.specs.declared.child.Child.TheVariants as in_child
use Rattle.stow_node.specs.declared.room.Room.{Room}
use Rattle.stow_node.specs.Moves.{accepted, bytes_for, HandsDown, IsLaden, messages_for}
use Rattle.stow_node.specs.Nodes.{node_part, parts_of}
use Rattle.stow_node.specs.Parts.{Part, high_of}
use Rattle.stow_node.specs.Regroups.{StepsAsOne, ForgetsCame}
use Rattle.stow_node.specs.Rooms.{HasRoom}
use Rattle.stow_node.specs.Subtree.{Subtree}
use Rattle.stow_node.specs.TakesDown.{CanMergeFrom, CanTakeDown, CanUnlade, MaySkip, MergesDown, TakesDown, Unlades}
use Rattle.stow_node.specs.Ways.{MergesInto}
use Rattle.stow_node.proofs.Accepted.{length-all_placed}
use Rattle.stow_node.proofs.Down.{get-set}
use Rattle.stow_node.proofs.HandedDown.{Opened, set_at, same_node}
use Rattle.stow_node.proofs.Stayed.{part_at}

pub opened_set : {A : Type 0} (children before here after : List (Child A)) (i : ℕ) (x y : Child A) → Opened children before here after i x → (before ++ slice_set here 0 y) ++ after ≡ slice_set children i y
opened_set children before here after i x y o = rw o.only (sym (rw (o.is, o.only, ← o.many) (set_at before after x y)))

set_twice : {X : Type 0} (cs : List X) (i : ℕ) (c d : X) → set cs i d ≡ set (set cs i c) i d
set_twice [] i c d = refl
set_twice (b ∷ cs) zero c d = refl
set_twice (b ∷ cs) (suc i) c d = ap (λ l. b ∷ l) (set_twice cs i c d)

pub none_there : (ms : List TreeMessage) → length ms ≡ 0 → ms ≡ []
none_there [] e = refl
none_there (m ∷ ms) e = absurd (omega arith)

-- the bytes of its messages
pub own_bytes : {A : Type 0} (cs : List (Child A)) (i : ℕ) (b : MessageList) (node : Subtree) (bytes : ℕ) → slice_get cs i ≡ Some (in_child.Node node) → ((d : Part) → bytes ≡ bytes_for (parts_of cs) b i d) → bytes ≡ sum_by message_size (messages_for (parts_of cs) b i node)
own_bytes cs i b node bytes at are = are (node_part node) ∙ ap (λ (p : Part). sum_by message_size (in_range p.low (high_of (parts_of cs) i) b.messages)) (part_at cs i (in_child.Node node) (node_part node) at)

pub can_merge_from : {A : Type 0} (cs : List (Child A)) (i : ℕ) (b : MessageList) (node : Subtree) (end : List ℕ) (can : CanTakeDown cs i b) → can.node ≡ node → high_of (parts_of cs) i ≡ end → node.height ≡ 1 → node.buffer.messages ≡ [] → CanMergeFrom b.messages end node
can_merge_from cs i b node end can same ends level empty = subst (λ high. CanMergeFrom b.messages high node) ends
    (subst (λ (n : Subtree). n.height ≡ 1 → n.buffer.messages ≡ [] → CanMergeFrom b.messages (high_of (parts_of cs) i) n) same
    (λ l e. record { level = l; empty = e; can = can.can; some = can.some; tile = can.tile; ends = can.ends; fan_out = can.fan_out; short = can.short })
    level empty)

-- its messages were merged straight into its leaves
pub merged_down : {A : Type 0} (pins : TenantPins) (cs : List (Child A)) (i : ℕ) (b : MessageList) (above : List ℕ) (room : Room A) (cs' : List (Child A)) (b' : MessageList) (cache cache' : Cache) (node merged : Subtree) (end : List ℕ) (bytes : ℕ) → slice_get cs i ≡ Some (in_child.Node node) → high_of (parts_of cs) i ≡ end → node.buffer.messages ≡ [] → IsLaden bytes node
    → bytes ≡ sum_by message_size (messages_for (parts_of cs) b i node) → cs' ≡ slice_set cs i (in_child.Node merged) → b' ≡ without_range node.low end b → StepsAsOne pins (accepted (in_range node.low end b.messages) node) merged room.came.items → MergesInto end b.messages pins node merged room.came.items cache cache'
    → HasRoom node.shape above room → ForgetsCame node merged room.came.items cache cache' → MergesDown pins cs i b above room cs' b' cache cache'
merged_down {A} pins cs i b above room cs' b' cache cache' node merged end bytes at ends empty laden are into from steps merges has_room forgets = record {
  after = set cs i (in_child.Node filled);
  down = record { node = node; at = at; into = refl; from = from ∙ ap (λ high. without_range node.low high b) (sym ends) };
  filled = filled;
  taken = get-set cs i (in_child.Node filled) (inside_of cs i (in_child.Node node) at);
  laden = (laden.0, let l = laden.1 in omega (arith, l, are));
  merged = merged;
  into = into ∙ set_twice cs i (in_child.Node filled) (in_child.Node merged);
  steps = subst (λ high. StepsAsOne pins (accepted (in_range node.low high b.messages) node) merged room.came.items) (sym ends) steps;
  merges = inr (empty, subst (λ high. MergesInto high b.messages pins node merged room.came.items cache cache') (sym ends) merges);
  has_room = has_room;
  forgets = forgets;
}
  where
    filled : Subtree
    filled = accepted (messages_for (parts_of cs) b i node) node

-- ---- it took them first

pub can_unlade : {A : Type 0} (cs : List (Child A)) (i : ℕ) (b : MessageList) (l : List (Child A)) (b' : MessageList) → CanTakeDown cs i b → HandsDown cs i b l b' → CanUnlade l i
can_unlade {A} cs i b l b' can down = record {
  node = filled;
  at = ap (λ k. slice_get k i) (down.into ∙ ap (λ n. set cs i (in_child.Node (accepted (messages_for (parts_of cs) b i n) n))) same) ∙ get-set cs i (in_child.Node filled) (inside_of cs i (in_child.Node can.node) can.at);
  some = let n = length-all_placed (messages_for (parts_of cs) b i can.node) can.node.buffer.messages in let s = can.some in omega (arith, n, s);
  fan_out = can.fan_out;
  short = can.short;
}
  where
    filled : Subtree
    filled = accepted (messages_for (parts_of cs) b i can.node) can.node

    same : down.node ≡ can.node
    same = same_node {A = A} down.node can.node (sym down.at ∙ can.at)

pub taken_then : {A : Type 0} (pins : TenantPins) (cs : List (Child A)) (i : ℕ) (b : MessageList) (above : List ℕ) (l : List (Child A)) (b' : MessageList) (o : Option (Room A)) (l' : List (Child A)) (cache cache' : Cache) → HandsDown cs i b l b' → Unlades pins l i above o l' cache cache' → TakesDown pins cs i b above o l' b' cache cache'
taken_then {A} pins cs i b above l b' None l' cache cache' down u = record {
  down = subst (λ (k : List (Child A)). HandsDown cs i b k b') (sym u.stays) down;
  filled = u.node;
  taken = ap (λ (k : List (Child A)). slice_get k i) u.stays ∙ u.at;
  light = u.light;
  same = u.same;
}
taken_then {A} pins cs i b above l b' (Some room) l' cache cache' down u = record {
  after = l;
  down = down;
  filled = u.node;
  taken = u.at;
  laden = u.laden;
  merged = u.merged;
  into = u.into;
  steps = u.steps;
  merges = inl u.merges;
  has_room = u.has_room;
  forgets = u.forgets;
}

pub err_then : {T E : Type 0} (r : Result T E) {P Q : Type 0} → (P → Q) → OnErr r P → OnErr r Q
err_then (Ok x) f p = tt
err_then (Err e) f p = f p

-- ---- which of both it was

pub straight_of : {A : Type 0} (merges : Room A → List (Child A) → MessageList → Cache → Cache → Type 0) (r : Option (Room A)) (room : Room A) (cs cs' : List (Child A)) (b b' : MessageList) (cache cache' : Cache) → MaySkip merges r cs cs' b b' cache cache' → r ≡ Some room → merges room cs' b' cache cache'
straight_of {A} merges r room cs cs' b b' cache cache' m e = subst (λ (o : Option (Room A)). MaySkip merges o cs cs' b b' cache cache') e m

pub skipped : {A : Type 0} (merges : Room A → List (Child A) → MessageList → Cache → Cache → Type 0) (r : Option (Room A)) (cs cs' : List (Child A)) (b b' : MessageList) (cache cache' : Cache) → MaySkip merges r cs cs' b b' cache cache' → r ≡ None → (cs' ≡ cs) × ((b' ≡ b) × (cache' ≡ cache))
skipped {A} merges r cs cs' b b' cache cache' m e = subst (λ (o : Option (Room A)). MaySkip merges o cs cs' b b' cache cache') e m

-- where the leaves stayed after all, the cache holds no others
pub kept_again : (ls leaves : List LeafRows) (cache cache' : Cache) → Forgets ls ls cache cache' → Forgets leaves leaves cache cache'
kept_again ls leaves cache cache' f = record { limit = f.limit; held = f.held; stands = λ leaf c o. o }
