-- A node right above leaves, of which all messages were merged into its leaves.
use Rattle.std.proofs.Common.{◌≡◌, ℕ, cond, ◌*◌, ◌<◌, true, false, List, [], ◌∷◌, ◌++◌, length, map, None, refl, sym, ap, ◌∙◌, subst, arith, append-nil}
use Rattle.std.specs.List.{AllByRecursion}
use Rattle.std.specs.declared.vec.Vec.{Vec}
use Rattle.stow_tree_model.specs.StowBytes.Bytes.{bytes_cmp}
use Rattle.stow_leaves.proofs.StowMessage.RisingLists.{lt_is}
use Rattle.stow_leaves.proofs.StowMessage.RisingLaws.{rests_rise}
use Rattle.stow_leaves.specs.StowMessage.MessageBuf.{message_list, with_messages}
use Rattle.stow_leaves.specs.StowMessage.Rising.{in_range, all_placed}
use Rattle.stow_tree_model.specs.Agreement.{TenantPins}
use Rattle.stow_tree_model.specs.Keys.{tenant_of}
use Rattle.stow_tree_model.specs.Merged.{row_message}
use Rattle.stow_tree_model.specs.Messages.{ops_in}
use Rattle.stow_tree_model.specs.Operations.{or_else}
use Rattle.stow_tree_model.specs.Order.{MessagesRise}
use Rattle.stow_tree_model.specs.TreeMessage.{TreeMessage}
use Rattle.stow_leaves.specs.StowLeafCache.Cache.{Cache}
use Rattle.stow_leaves.specs.StowLeaf.Intervals.{top_key, spans, NoneOutside}
use Rattle.stow_leaves.specs.StowLeaf.LeafRows.{LeafRows, row_messages, first_fence, LeavesTo}
use Rattle.stow_leaves.specs.StowLeaf.Replacements.{AreThere, HasShortValues, MeanTheSame}
use Rattle.stow_leaves.proofs.StowLeaf.Found.{both_none, none_some, or_none}
use Rattle.stow_leaves.proofs.StowLeaf.Intervals.{lt, by_test, under, beyond, not_spanned, span_high}
use Rattle.stow_leaves.proofs.StowLeaf.Ops.{ops-all_placed, ops-append, ops-in_range}
use Rattle.stow_leaves.proofs.StowLeaf.Over.{or_none_left, or_none_right, same_pointwise}
use Rattle.stow_leaves.specs.Absorbs.{ops_above}
use Rattle.stow_leaves.specs.AbsorbsAll.{CanAbsorbAll, MergesAll, StandsForAll}
use Rattle.stow_leaves.proofs.GivenWay.{ends_above}
use Rattle.stow_leaves.proofs.Replaced.{outside_none}
use Rattle.stow_node.specs.declared.child.Child.{Child}
use Rattle.stow_node.specs.declared.node.Node.TheInside.{Inside}
use Rattle.stow_node.specs.Flushes.{AreShort, KeepsMeaning}
use Rattle.stow_node.specs.Moves.{accepted}
use Rattle.stow_node.specs.Nodes.{node_part, parts_of, leaves_of, AreLeaves, subtree_of, IsNode}
use Rattle.stow_node.specs.Parts.{IsTile, messages_in}
use Rattle.stow_node.specs.Regroups.{Grows}
use Rattle.stow_node.specs.Subtree.{Subtree, messages_of}
use Rattle.stow_node.specs.TakesDown.{CanMergeFrom}
use Rattle.stow_node.specs.Ways.{MergesInto}
use Rattle.stow_node.proofs.Accepted.{Took, length-all_placed, others, took}
use Rattle.stow_node.proofs.Leaves.{AreRow, row, own, children_are_leaves}
use Rattle.stow_node.proofs.Raised.{whole_tile}
use Rattle.stow_node.proofs.Standing.{outside_tile, stands}
use Rattle.stow_node.proofs.Ways.{are_children}

-- leaves that end further down
lower_end : (high low end : List ℕ) (ls : List LeafRows) → LeavesTo high ls → AllByRecursion (λ l. spans low end l.0 ≡ true) ls → NoneOutside low end (row_messages ls) → LeavesTo end ls
lower_end high low end [] t f n = tt
lower_end high low end (l ∷ []) t f n = (
  record {
    ordered = lt_is (bytes_cmp l.0 end) (span_high low end l.0 f.0);
    rows = record {
      outside = λ key k o. not_spanned l.0 end key o
          (λ below. t.0.rows.outside key k (under l.0 high key below))
          (λ _ above. ap (λ ms. ops_in ms key k) (sym (append-nil (map row_message l.1))) ∙ n.outside key k (beyond low end key above));
    };
  },
  tt,
)
lower_end high low end (l ∷ m ∷ ls) t f n = (
  t.0,
  lower_end high low end (m ∷ ls) t.1 f.1 (record {
    outside = λ key k o. or_none_right (ops_in (map row_message l.1) key k) (ops_in (row_messages (m ∷ ls)) key k) (sym (ops-append (map row_message l.1) (row_messages (m ∷ ls)) key k) ∙ n.outside key k o);
  }),
)

first_any : (x y : List ℕ) (ls : List LeafRows) → 0 < length ls → first_fence x ls ≡ first_fence y ls
first_any x y [] some = absurd (omega arith)
first_any x y (l ∷ ls) some = refl

-- a node right above leaves begins where they do
begins : {A : Type 0} (a : Inside A) (end : List ℕ) → IsNode a → AreRow a.children.items → first_fence end (leaves_of a.children.items) ≡ a.low
begins a end node r =
    first_any end top_key (leaves_of a.children.items) (let s = node.some in let c = r.count in omega (arith, s, c))
    ∙ sym (r.low top_key) ∙ node.first

-- its messages are those that were merged
pub record AreMerged {A : Type 0} (a : Inside A) (end : List ℕ) (ms : List TreeMessage) : Type 0 where
  pub level : a.height ≡ 1
  pub some : 0 < length a.buffer.messages
  pub tile : IsTile (node_part (subtree_of a)) end
  pub ends : lt top_key end ≡ false
  pub same : (key : List ℕ) (n : ℕ) → spans a.low end key ≡ true → ops_in a.buffer.messages key n ≡ ops_in ms key n

above_own : {A : Type 0} (a : Inside A) (end : List ℕ) (ms : List TreeMessage) → AreMerged a end ms → AreRow a.children.items → (key : List ℕ) (n : ℕ) → spans a.low end key ≡ true → ops_in (messages_of (subtree_of a)) key n ≡ ops_above ms (leaves_of a.children.items) key n
above_own a end ms m r key n s = (λ j. own a r key j n) ∙ ap (λ o. or_else o (ops_in (row_messages (leaves_of a.children.items)) key n)) (m.same key n s)

pub can_absorb_all : {A : Type 0} (a : Inside A) (end : List ℕ) (ms : List TreeMessage) → IsNode a → AreMerged a end ms → AreShort (messages_of (subtree_of a)) → CanAbsorbAll (leaves_of a.children.items) end ms a.shape.leaf
can_absorb_all a end ms node m short = record {
  some = let s = node.some in let c = r.count in omega (arith, s, c);
  tiled = lower_end top_key a.low end (leaves_of a.children.items) (r.tiled top_key node.tiled) m.tile.fences m.tile.rows;
  ends = m.ends;
  sizes = node.sizes;
  short = λ key s. subst HasShortValues (λ j n. above_own a end ms m r key n (ap (λ low. spans low end key) (sym (begins a end node r)) ∙ s) j) (short key);
}
  where
    r : AreRow a.children.items
    r = row a.children.items (children_are_leaves a node m.level)

-- the node with the fresh leaves
pub record Emptied {A : Type 0} (a : Inside A) (v : Vec (Child A) A) (pins : TenantPins) : Type 0 where
  pub is_node : IsNode (record a { children = v; buffer = message_list [] 0 a.buffer.capacity })
  pub keeps : KeepsMeaning pins (subtree_of a) (subtree_of (record a { children = v; buffer = message_list [] 0 a.buffer.capacity }))
  pub lighter : (subtree_of (record a { children = v; buffer = message_list [] 0 a.buffer.capacity })).weight < (subtree_of a).weight

pub emptied : {A : Type 0} (a : Inside A) (v : Vec (Child A) A) (end : List ℕ) (ms : List TreeMessage) (pins : TenantPins) → IsNode a → AreMerged a end ms → AreLeaves v.items → StandsForAll (leaves_of a.children.items) end ms pins a.shape.leaf (leaves_of v.items) → Emptied a v pins
emptied {A} a v end ms pins node m leaves s = record {
  is_node = is_node;
  keeps = record {
    low = refl;
    height = refl;
    shape = refl;
    capacity = refl;
    sizes = s.sizes;
    tile = λ high t. stands (subtree_of a) (subtree_of new) top_key high refl t (whole_tile new is_node)
        (s.fences a.low high t.fences (λ key i k. by_test (spans a.low high key) (λ e. e) (λ o. nothing high key t o (subst AreThere (λ j n. sym (above_own a end ms m was key n (own_span key i)) j) k))))
        (λ key. (means key).there);
    means = means;
  };
  lighter =
      let some = m.some in
      let times : (c : ℕ) → a.height * c ≡ c = λ c. ap (λ k. k * c) m.level ∙ omega arith in
      let before = was.weight in
      let after = now.weight in
      omega (arith, some, times (length a.buffer.messages), times 0, before, after);
}
  where
    new : Inside A
    new = record a { children = v; buffer = message_list [] 0 a.buffer.capacity }

    was : AreRow a.children.items
    was = row a.children.items (children_are_leaves a node m.level)

    now : AreRow v.items
    now = row v.items leaves

    own_span : (key : List ℕ) → spans (first_fence end (leaves_of a.children.items)) end key ≡ true → spans a.low end key ≡ true
    own_span key i = ap (λ low. spans low end key) (sym (begins a end node was)) ∙ i

    is_node : IsNode new
    is_node = record {
      tiled = now.tiles top_key (ends_above end top_key (leaves_of v.items) m.ends s.tiled);
      first = now.low top_key ∙ first_any top_key end (leaves_of v.items) s.some ∙ s.first ∙ begins a end node was;
      level = now.level a.height a.shape m.level;
      some = let c = now.count in let some = s.some in omega (arith, c, some);
      block = node.block;
      from = record { outside = λ key n o. refl };
      sizes = s.sizes;
      newer = record { above = λ key n k u l. absurd cc };
    }

    inside : (key : List ℕ) → spans a.low end key ≡ true → MeanTheSame (pins (tenant_of key)) (ops_in (messages_of (subtree_of a)) key) (ops_in (messages_of (subtree_of new)) key)
    inside key i = subst (λ f. MeanTheSame (pins (tenant_of key)) f (ops_in (messages_of (subtree_of new)) key)) (λ j n. sym (above_own a end ms m was key n i) j)
        (subst (MeanTheSame (pins (tenant_of key)) (ops_above ms (leaves_of a.children.items) key)) (sym (own new now key))
        (s.means key (ap (λ low. spans low end key) (begins a end node was) ∙ i)))

    outside : (key : List ℕ) (n : ℕ) → spans a.low end key ≡ false → ops_in (messages_of (subtree_of new)) key n ≡ None
    outside key n o = (λ j. own new now key j n) ∙ outside_none a.low end (leaves_of v.items) key n s.tiled (s.first ∙ begins a end node was) o

    means : (key : List ℕ) → MeanTheSame (pins (tenant_of key)) (ops_in (messages_of (subtree_of a)) key) (ops_in (messages_of (subtree_of new)) key)
    means key = by_test (spans a.low end key) (inside key)
        (λ o. same_pointwise (pins (tenant_of key)) (ops_in (messages_of (subtree_of a)) key) (ops_in (messages_of (subtree_of new)) key) (λ n. outside key n o ∙ sym (outside_tile (subtree_of a) end key n m.tile o)))

    -- it has no key outside
    nothing : {X : Type 0} (high key : List ℕ) → IsTile (node_part (subtree_of a)) high → spans a.low high key ≡ false → AreThere (ops_in (messages_of (subtree_of a)) key) → X
    nothing high key t o k = absurd (none_some (ops_in (messages_of (subtree_of a)) key k.0) (outside_tile (subtree_of a) high key k.0 t o) k.1)

-- the way that its messages went
pub merges_into : {A : Type 0} (a : Inside A) (v : Vec (Child A) A) (end : List ℕ) (ms : List TreeMessage) (pins : TenantPins) (new : Subtree) (came : List (Child A)) (cache cache' : Cache) → IsNode a → IsNode (record a { children = v; buffer = message_list [] 0 a.buffer.capacity }) → AreLeaves v.items
    → MergesAll (leaves_of a.children.items) end ms pins a.shape.leaf (leaves_of v.items) cache cache' → Grows pins (subtree_of (record a { children = v; buffer = message_list [] 0 a.buffer.capacity })) new came → MergesInto end ms pins (subtree_of a) new came cache cache'
merges_into a v end ms pins new came cache cache' node after leaves m grows = record {
  children = a.children.items;
  stand = are_children a node;
  fresh = v.items;
  are_leaves = leaves;
  merges = m;
  cut = record {
    whole = subtree_of (record a { children = v; buffer = message_list [] 0 a.buffer.capacity });
    stand = are_children (record a { children = v; buffer = message_list [] 0 a.buffer.capacity }) after;
    own = refl;
    grows = grows;
  };
}

-- ---- as if it had taken them first

abbrev pub with_taken : {A : Type 0} → Inside A → List ℕ → List TreeMessage → Inside A
with_taken a end ms = record a { buffer = with_messages (in_range a.low end ms) a.buffer }

pub record Taking {A : Type 0} (a : Inside A) (end : List ℕ) (ms : List TreeMessage) : Type 0 where
  pub is_node : IsNode (with_taken a end ms)
  pub is : subtree_of (with_taken a end ms) ≡ accepted (in_range a.low end ms) (subtree_of a)
  pub are : AreMerged (with_taken a end ms) end ms
  pub short : AreShort (messages_of (subtree_of (with_taken a end ms)))

pub taking : {A : Type 0} (a : Inside A) (end : List ℕ) (ms : List TreeMessage) → IsNode a → MessagesRise ms → CanMergeFrom ms end (subtree_of a) → Taking a end ms
taking {A} a end ms node rising can = record {
  is_node = t.is_node;
  is = t.is;
  are = record {
    level = can.level;
    some = let l = length-all_placed own_ms a.buffer.messages in let s = can.some in omega (arith, l, s);
    tile = record {
      fences = can.tile.fences;
      first = can.tile.first;
      ordered = can.tile.ordered;
      messages = record { outside = outside };
      rows = can.tile.rows;
    };
    ends = can.ends;
    same = λ key n s. placed key n ∙ or_none (ops_in own_ms key n) (ops_in a.buffer.messages key n) (ap (λ l. ops_in l key n) can.empty) ∙ ops-in_range a.low end ms key n ∙ ap (λ b. cond b (ops_in ms key n) None) s;
  };
  short = subst (λ (s : Subtree). AreShort (messages_of s)) (sym t.is) can.short;
}
  where
    own_ms : List TreeMessage
    own_ms = in_range a.low end ms

    rise : MessagesRise own_ms
    rise = (rests_rise a.low end [] ms rising).0

    t : Took a own_ms (with_messages own_ms a.buffer)
    t = took a own_ms node can.can rise

    placed : (key : List ℕ) (n : ℕ) → ops_in (all_placed own_ms a.buffer.messages) key n ≡ or_else (ops_in own_ms key n) (ops_in a.buffer.messages key n)
    placed key n = ops-all_placed own_ms a.buffer.messages key n rise (others a own_ms can.can)

    outside : (key : List ℕ) (n : ℕ) → spans a.low end key ≡ false → ops_in (all_placed own_ms a.buffer.messages ++ messages_in (parts_of a.children.items)) key n ≡ None
    outside key n o =
        let was = sym (ops-append a.buffer.messages (messages_in (parts_of a.children.items)) key n) ∙ can.tile.messages.outside key n o in
        ops-append (all_placed own_ms a.buffer.messages) (messages_in (parts_of a.children.items)) key n
        ∙ both_none (ops_in (all_placed own_ms a.buffer.messages) key n) (ops_in (messages_in (parts_of a.children.items)) key n)
        (placed key n ∙ both_none (ops_in own_ms key n) (ops_in a.buffer.messages key n)
        (ops-in_range a.low end ms key n ∙ ap (λ b. cond b (ops_in ms key n) None) o)
        (or_none_left (ops_in a.buffer.messages key n) (ops_in (messages_in (parts_of a.children.items)) key n) was))
        (or_none_right (ops_in a.buffer.messages key n) (ops_in (messages_in (parts_of a.children.items)) key n) was)
