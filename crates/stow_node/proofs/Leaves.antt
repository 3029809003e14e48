-- A node right above leaves, of which all messages for one were merged into it.
use Rattle.std.proofs.Common.{zero, suc, ◌≡◌, ℕ, ◌+◌, ◌*◌, ◌<◌, false, cond, List, [], ◌∷◌, ◌++◌, length, map, get_or, Option, Some, None, refl, sym, ap, ◌∙◌, subst, arith, append-nil}
use Rattle.std.specs.Prelude.{IsSome, not, slice_get}
use Rattle.std.specs.List.{AllByRecursion, sum_by}
use Rattle.std.specs.Ordering.{is_lt}
use Rattle.std.specs.declared.vec.Vec.{Vec}
use Rattle.std.proofs.lemmas.List.{length-map}
use Rattle.std.proofs.lemmas.List.Filters.{length-filter_both}
use Rattle.std.proofs.lemmas.List.Sums.{sum_by-cons}
use Rattle.stow_leaves.specs.StowMessage.MessageBuf.{MessageList, without_range}
use Rattle.stow_leaves.specs.StowMessage.Packed.{message_size}
use Rattle.stow_leaves.specs.StowMessage.Rising.{is_between, in_range, out_of_range}
use Rattle.stow_tree_model.specs.Agreement.{TenantPins}
use Rattle.stow_tree_model.specs.Keys.{tenant_of}
use Rattle.stow_tree_model.specs.Merged.{row_message}
use Rattle.stow_tree_model.specs.Messages.{ops_in}
use Rattle.stow_tree_model.specs.Operations.{or_else}
use Rattle.stow_tree_model.specs.TreeMessage.{TreeMessage}
use Rattle.stow_leaves.specs.StowLeafCache.Cache.{Cache}
use Rattle.stow_leaves.specs.StowLeaf.Intervals.{top_key, spans, NoneOutside}
use Rattle.stow_leaves.specs.StowLeaf.LeafRows.{LeafRows, leaf_rows, row_messages, first_fence, IsLeafTile, LeavesTo}
use Rattle.stow_leaves.specs.StowLeaf.Replacements.{AreThere, HasShortValues, MeanTheSame}
use Rattle.stow_leaves.specs.StowLeaf.declared.leaf.Leaf.{Leaf}
use Rattle.stow_leaves.proofs.StowLeaf.Found.{none_some, some_left, some_right}
use Rattle.stow_leaves.proofs.StowLeaf.Intervals.{by_test, lt_self, spanned}
use Rattle.stow_leaves.proofs.StowLeaf.Ops.{ops-append, ops-out_of_range}
use Rattle.stow_leaves.specs.Absorbs.{fence_at, left_above, ops_above, CanAbsorb, Merges, StandsFor}
use Rattle.stow_leaves.proofs.Fences.{fence_is}
use Rattle.stow_node.specs.declared.child.Child.{Child}
use Rattle.stow_node.specs.declared.child.Child.TheVariants as in_child
use Rattle.stow_node.specs.declared.node.Node.TheInside.{Inside}
use Rattle.stow_node.specs.declared.shape.Shape.{Shape}
use Rattle.stow_node.specs.Flushes.{AreShort, KeepsMeaning}
use Rattle.stow_node.specs.Moves.{IsHeaviest}
use Rattle.stow_node.specs.Nodes.{leaf_part, part_of, node_part, parts_of, leaves_of, AreLeaves, AreNewer, IsBelow, subtree_of, IsNode}
use Rattle.stow_node.specs.Parts.{Part, low_or, high_of, IsTile, TiledTo, messages_in, weight_in}
use Rattle.stow_node.specs.Regroups.{Grows}
use Rattle.stow_node.specs.Subtree.{Subtree, messages_of}
use Rattle.stow_node.specs.Ways.{MergesHeaviest}
use Rattle.stow_node.proofs.Accepted.{whole_ops}
use Rattle.stow_node.proofs.Cut.{none_cond, some_cond}
use Rattle.stow_node.proofs.Filled.{heaviest_has_bytes}
use Rattle.stow_node.proofs.Newer.{newer_than_part}
use Rattle.stow_node.proofs.Raised.{whole_tile}
use Rattle.stow_node.proofs.Standing.{outside_tile, stands}
use Rattle.stow_node.proofs.Ways.{merges_heaviest}

-- ---- children that are leaves

leaf_tile : {A : Type 0} (l : Leaf A) (high : List ℕ) → IsLeafTile (leaf_rows l) high → IsTile (leaf_part l) high
leaf_tile l high t = record {
  fences = (spanned l.low high l.low (lt_self l.low) (ap is_lt t.ordered), tt);
  first = refl;
  ordered = t.ordered;
  messages = record { outside = λ key n o. refl };
  rows = record { outside = λ key n o. ap (λ ms. ops_in ms key n) (append-nil (map row_message l.rows)) ∙ t.rows.outside key n o };
}

pub one_tile : {A : Type 0} (l : Leaf A) (high : List ℕ) → IsTile (leaf_part l) high → IsLeafTile (leaf_rows l) high
one_tile l high t = record {
  ordered = t.ordered;
  rows = record { outside = λ key n o. ap (λ ms. ops_in ms key n) (sym (append-nil (map row_message l.rows))) ∙ t.rows.outside key n o };
}

-- what leaves are as children
pub record AreRow {A : Type 0} (cs : List (Child A)) : Type 0 where
  pub count : length cs ≡ length (leaves_of cs)
  pub buffered : messages_in (parts_of cs) ≡ []
  pub weight : weight_in (parts_of cs) ≡ 0
  pub low : (high : List ℕ) → low_or high (parts_of cs) ≡ first_fence high (leaves_of cs)
  pub tiled : (high : List ℕ) → TiledTo high (parts_of cs) → LeavesTo high (leaves_of cs)
  pub tiles : (high : List ℕ) → LeavesTo high (leaves_of cs) → TiledTo high (parts_of cs)
  pub level : (h : ℕ) (shape : Shape) → h ≡ 1 → AllByRecursion (IsBelow {A = A} h shape) cs
  pub fence : (i : ℕ) (d : Part) → i < length cs → (get_or (parts_of cs) i d).low ≡ fence_at (leaves_of cs) i
  pub end : (i : ℕ) → high_of (parts_of cs) i ≡ fence_at (leaves_of cs) (i + 1)

none : (i : ℕ) → top_key ≡ fence_at [] (i + 1)
none zero = refl
none (suc i) = let e : suc (i + 1) ≡ suc i + 1 = omega arith in ap (fence_at []) e

pub row : {A : Type 0} (cs : List (Child A)) → AreLeaves cs → AreRow cs
row {A} cs h = subst (λ (l : List (Child A)). AreRow l) (sym h.are) (by_leaves h.leaves) where
  by_leaves : (ls : List (Leaf A)) → AreRow (map {B = Child A} in_child.Leaf ls)
  by_leaves [] = record { count = refl; buffered = refl; weight = refl; low = λ high. refl; tiled = λ high t. tt; tiles = λ high t. tt; level = λ h shape e. tt; fence = λ i d l. absurd (omega (arith, l)); end = none }
  by_leaves (l ∷ ls) =
      let r = by_leaves ls in
      record {
        count = ap suc r.count;
        buffered = r.buffered;
        weight = omega (arith, sum_by-cons (λ (p : Part). p.weight) (leaf_part l) (parts_of (map {B = Child A} in_child.Leaf ls)), r.weight);
        low = λ high. refl;
        tiled = λ high t. (one_tile l (first_fence high (leaves_of (map {B = Child A} in_child.Leaf ls))) (subst (IsTile (leaf_part l)) (r.low high) t.0), r.tiled high t.1);
        tiles = λ high t. (subst (IsTile (leaf_part l)) (sym (r.low high)) (leaf_tile l (first_fence high (leaves_of (map {B = Child A} in_child.Leaf ls))) t.0), r.tiles high t.1);
        level = λ h shape e. (record { level = sym e; same = tt }, r.level h shape e);
        fence = fence r;
        end = end r;
      }
    where
      fence : AreRow (map {B = Child A} in_child.Leaf ls) → (i : ℕ) (d : Part) → i < length (map {B = Child A} in_child.Leaf (l ∷ ls)) → (get_or (parts_of (map {B = Child A} in_child.Leaf (l ∷ ls))) i d).low ≡ fence_at (leaves_of (map {B = Child A} in_child.Leaf (l ∷ ls))) i
      fence r zero d k = refl
      fence r (suc i) d k = r.fence i d (omega arith)

      end : AreRow (map {B = Child A} in_child.Leaf ls) → (i : ℕ) → high_of (parts_of (map {B = Child A} in_child.Leaf (l ∷ ls))) i ≡ fence_at (leaves_of (map {B = Child A} in_child.Leaf (l ∷ ls))) (i + 1)
      end r zero = r.low top_key
      end r (suc i) =
          let e : suc i + 1 ≡ suc (i + 1) = omega arith in
          rw e (r.end i)

lowest_are_leaves : {A : Type 0} (h : ℕ) (shape : Shape) (children : List (Child A)) → AllByRecursion (IsBelow {A = A} h shape) children → h ≡ 1 → AreLeaves children
lowest_are_leaves h shape [] all one = record { leaves = []; are = refl }
lowest_are_leaves h shape (in_child.Leaf l ∷ children) all one =
    let more = lowest_are_leaves h shape children all.1 one in
    record { leaves = l ∷ more.leaves; are = ap (λ cs. in_child.Leaf l ∷ cs) more.are }
lowest_are_leaves h shape (in_child.Node n ∷ children) all one =
    let level = all.0.level in
    let above = all.0.same.2 in
    absurd (omega (arith, level, above, one))

-- right above leaves each child is one
pub children_are_leaves : {A : Type 0} (a : Inside A) → IsNode a → a.height ≡ 1 → AreLeaves a.children.items
children_are_leaves a node one = lowest_are_leaves a.height a.shape a.children.items node.level one

pub leaf_count : {A : Type 0} (cs : List (Child A)) → AreLeaves cs → length cs ≡ length (leaves_of cs)
leaf_count cs h = (row cs h).count

-- a leaf begins at its fence
pub fence_low : {A : Type 0} (a : Inside A) (i : ℕ) (d : Part) → IsNode a → a.height ≡ 1 → i < length a.children.items → (get_or (parts_of a.children.items) i d).low ≡ fence_at (leaves_of a.children.items) i
fence_low a i d node one l = (row a.children.items (children_are_leaves a node one)).fence i d l

-- .. and ends at the next one's
pub leaf_end : {A : Type 0} (a : Inside A) (i : ℕ) → IsNode a → a.height ≡ 1 → high_of (parts_of a.children.items) i ≡ fence_at (leaves_of a.children.items) (i + 1)
leaf_end a i node one = (row a.children.items (children_are_leaves a node one)).end i

-- the leaf at a place
pub leaf_there : {A : Type 0} (cs : List (Child A)) (i : ℕ) (leaf : Leaf A) → AreLeaves cs → slice_get cs i ≡ Some (in_child.Leaf leaf) → slice_get (leaves_of cs) i ≡ Some (leaf_rows leaf)
leaf_there {A} cs i leaf are at = ap (λ (l : List (Child A)). slice_get (leaves_of l) i) are.are ∙ there are.leaves i (ap (λ (l : List (Child A)). slice_get l i) (sym are.are) ∙ at) where
  there : (ls : List (Leaf A)) (i : ℕ) → slice_get (map {B = Child A} in_child.Leaf ls) i ≡ Some (in_child.Leaf leaf) → slice_get (leaves_of (map {B = Child A} in_child.Leaf ls)) i ≡ Some (leaf_rows leaf)
  there [] i e = absurd cc
  there (l ∷ ls) zero e = ap (λ x. Some (leaf_rows x)) (same l e) where
    same : (l : Leaf A) → ◌≡◌ {A = Option (Child A)} (Some (in_child.Leaf l)) (Some (in_child.Leaf leaf)) → l ≡ leaf
    same l e = cc
  there (l ∷ ls) (suc i) e = there ls i e

-- its rows are among those of all
pub rows_there : (ls : List LeafRows) (i : ℕ) (leaf : LeafRows) (key : List ℕ) (n : ℕ) → slice_get ls i ≡ Some leaf → IsSome (ops_in (map row_message leaf.1) key n) → IsSome (ops_in (row_messages ls) key n)
rows_there [] i leaf key n e s = absurd cc
rows_there (l ∷ ls) zero leaf key n e s = subst IsSome (sym (ops-append (map row_message l.1) (row_messages ls) key n)) (some_left (ops_in (map row_message l.1) key n) (ops_in (row_messages ls) key n) (subst (λ (x : LeafRows). IsSome (ops_in (map row_message x.1) key n)) (same l e) s)) where
  same : (l : LeafRows) → ◌≡◌ {A = Option LeafRows} (Some l) (Some leaf) → leaf ≡ l
  same l e = cc
rows_there (l ∷ ls) (suc i) leaf key n e s = subst IsSome (sym (ops-append (map row_message l.1) (row_messages ls) key n)) (some_right (ops_in (map row_message l.1) key n) (ops_in (row_messages ls) key n) (rows_there ls i leaf key n e s))

-- a node's own messages are newer than a leaf's rows right below it
pub newer_than_rows : {A : Type 0} (a : Inside A) (i : ℕ) (leaf : Leaf A) → IsNode a → a.height ≡ 1 → slice_get a.children.items i ≡ Some (in_child.Leaf leaf) → AreNewer a.buffer.messages (map row_message leaf.rows)
newer_than_rows a i leaf node one at = newer_than_part a.buffer.messages (messages_in (parts_of a.children.items) ++ row_messages (leaves_of a.children.items)) (map row_message leaf.rows)
    (λ key k s. subst IsSome (sym (ops-append (messages_in (parts_of a.children.items)) (row_messages (leaves_of a.children.items)) key k))
    (some_right (ops_in (messages_in (parts_of a.children.items)) key k) (ops_in (row_messages (leaves_of a.children.items)) key k)
    (rows_there (leaves_of a.children.items) i (leaf_rows leaf) key k (leaf_there a.children.items i leaf (children_are_leaves a node one) at) s)))
    node.newer

pub no_node_there : {A : Type 0} (cs : List (Child A)) (h : AreLeaves cs) (i : ℕ) (d : Child A) (n : Subtree) → i < length cs → d ≡ get_or cs i d → d ≡ in_child.Node n → ⊥
no_node_there {A} cs h i d n l here is = there h.leaves i d (subst (λ (k : List (Child A)). i < length k) h.are l) (here ∙ ap (λ (k : List (Child A)). get_or k i d) h.are) is where
  other : (x : Leaf A) (d : Child A) → d ≡ in_child.Leaf x → d ≡ in_child.Node n → ⊥
  other x d f g = one x (sym f ∙ g) where
    one : (x : Leaf A) → ◌≡◌ {A = Child A} (in_child.Leaf x) (in_child.Node n) → ⊥
    one x e = cc

  there : (ls : List (Leaf A)) (i : ℕ) (d : Child A) → i < length (map {B = Child A} in_child.Leaf ls) → d ≡ get_or (map {B = Child A} in_child.Leaf ls) i d → d ≡ in_child.Node n → ⊥
  there [] i d l f g = absurd (omega arith)
  there (x ∷ ls) zero d l f g = other x d f g
  there (x ∷ ls) (suc i) d l f g = there ls i d (omega arith) f g

leaves_are : {A : Type 0} (leaves : List (Leaf A)) → map leaf_rows leaves ≡ leaves_of (map {B = Child A} in_child.Leaf leaves)
leaves_are [] = refl
leaves_are (l ∷ leaves) = ap (λ ls. leaf_rows l ∷ ls) (leaves_are leaves)

pub rows_of : {A : Type 0} (leaves : List (Leaf A)) (cs : List (Child A)) → cs ≡ map in_child.Leaf leaves → map leaf_rows leaves ≡ leaves_of cs
rows_of leaves cs e = leaves_are leaves ∙ ap leaves_of (sym e)

-- ---- what a node right above leaves has

-- what its own messages and its leaves have of a key
pub own : {A : Type 0} (a : Inside A) → AreRow a.children.items → (key : List ℕ) → ops_in (messages_of (subtree_of a)) key ≡ ops_above a.buffer.messages (leaves_of a.children.items) key
own a r key = λ j n. (whole_ops a key n ∙ ap (λ ms. or_else (ops_in a.buffer.messages key n) (ops_in (ms ++ row_messages (leaves_of a.children.items)) key n)) r.buffered) j

pub can_absorb : {A : Type 0} (a : Inside A) (i : ℕ) → IsNode a → a.height ≡ 1 → IsHeaviest (parts_of a.children.items) a.buffer i → 0 < length a.buffer.messages → AreShort (messages_of (subtree_of a)) → CanAbsorb (leaves_of a.children.items) i a.buffer.messages a.shape.leaf
can_absorb a i node one heavy many short = record {
  inside = omega (arith, inside, r.count);
  tiled = r.tiled top_key node.tiled;
  sizes = node.sizes;
  short = λ key. subst HasShortValues (own a r key) (short key);
  some = λ none.
      let some = heaviest_has_bytes (parts_of a.children.items) a.buffer i (node_part (subtree_of a)) heavy (subst (λ low. NoneOutside low top_key a.buffer.messages) (sym node.first) node.from) many in
      let is = (λ j. sum_by message_size (in_range (r.fence i (node_part (subtree_of a)) inside j) (r.end i j) a.buffer.messages)) ∙ ap (sum_by message_size) none in
      omega (arith, some, is);
}
  where
    r : AreRow a.children.items
    r = row a.children.items (children_are_leaves a node one)

    inside : i < length a.children.items
    inside = let l = heavy.inside in omega (arith, l, length-map a.children.items part_of)

-- ---- the node with the fresh leaves

pub record MergedLeaf {A : Type 0} (a : Inside A) (v : Vec (Child A) A) (low high : List ℕ) (pins : TenantPins) (cache cache' : Cache) : Type 0 where
  pub is_node : IsNode (record a { children = v; buffer = without_range low high a.buffer })
  pub keeps : KeepsMeaning pins (subtree_of a) (subtree_of (record a { children = v; buffer = without_range low high a.buffer }))
  pub lighter : (subtree_of (record a { children = v; buffer = without_range low high a.buffer })).weight < (subtree_of a).weight
  pub goes : (b : MessageList) (new : Subtree) (came : List (Child A)) → b ≡ without_range low high a.buffer → Grows pins (subtree_of (record a { children = v; buffer = b })) new came → MergesHeaviest pins (subtree_of a) new came cache cache'

pub merged_leaf : {A : Type 0} (a : Inside A) (v : Vec (Child A) A) (i : ℕ) (low high : List ℕ) (pins : TenantPins) (cache cache' : Cache) → IsNode a → a.height ≡ 1 → IsHeaviest (parts_of a.children.items) a.buffer i → CanAbsorb (leaves_of a.children.items) i a.buffer.messages a.shape.leaf
    → AreLeaves v.items → Merges (leaves_of a.children.items) i a.buffer.messages pins a.shape.leaf (leaves_of v.items) cache cache' → StandsFor (leaves_of a.children.items) i a.buffer.messages (left_above (leaves_of a.children.items) i a.buffer.messages) pins a.shape.leaf (leaves_of v.items)
    → low ≡ fence_at (leaves_of a.children.items) i → high ≡ high_of (parts_of a.children.items) i → MergedLeaf a v low high pins cache cache'
merged_leaf {A} a v i low high pins cache cache' node one heavy can leaves m s l h = record {
  is_node = is_node;
  keeps = record {
    low = refl;
    height = refl;
    shape = refl;
    capacity = refl;
    sizes = s.sizes;
    tile = λ end t. stands (subtree_of a) (subtree_of new) top_key end refl t (whole_tile new is_node) (s.fences a.low end t.fences (λ key k. by_test (spans a.low end key) (λ e. e) (λ o. nothing end key t o k))) (λ key. (means key).there);
    means = means;
  };
  lighter = lighter;
  goes = λ b to came e grows. merges_heaviest a v i low high pins to came cache cache' node is_node heavy leaves m (l ∙ fence_is (leaves_of a.children.items) i m.leaf m.at) h (subst (λ x. Grows pins (subtree_of (record a { children = v; buffer = x })) to came) e grows);
}
  where
    ms : List TreeMessage
    ms = a.buffer.messages

    new : Inside A
    new = record a { children = v; buffer = without_range low high a.buffer }

    was : AreRow a.children.items
    was = row a.children.items (children_are_leaves a node one)

    now : AreRow v.items
    now = row v.items leaves

    -- the messages of other leaves
    left : out_of_range (fence_at (leaves_of a.children.items) i) (fence_at (leaves_of a.children.items) (i + 1)) ms ≡ out_of_range low high ms
    left = λ j. out_of_range (sym l j) (sym (h ∙ was.end i) j) ms

    same_below : (key : List ℕ) (n : ℕ) → spans low high key ≡ false → ops_in (messages_in (parts_of v.items) ++ row_messages (leaves_of v.items)) key n ≡ ops_in (messages_in (parts_of a.children.items) ++ row_messages (leaves_of a.children.items)) key n
    same_below key n o =
        ap (λ k. ops_in (k ++ row_messages (leaves_of v.items)) key n) now.buffered
        ∙ s.beside key n ((λ j. spans (sym l j) (sym (h ∙ was.end i) j) key) ∙ o)
        ∙ sym (ap (λ k. ops_in (k ++ row_messages (leaves_of a.children.items)) key n) was.buffered)

    is_node : IsNode new
    is_node = record {
      tiled = now.tiles top_key m.tiled;
      first = now.low top_key ∙ s.first ∙ sym (was.low top_key) ∙ node.first;
      level = now.level a.height a.shape one;
      some = let c = now.count in let some = s.some in omega (arith, c, some);
      block = node.block;
      from = record { outside = λ key n o. ops-out_of_range low high ms key n ∙ none_cond (not (spans low high key)) (ops_in ms key n) (node.from.outside key n o) };
      sizes = s.sizes;
      newer = record {
        above = λ key n k u w. by_test (spans low high key)
            (λ t. absurd (none_some (ops_in (out_of_range low high ms) key n) (ops-out_of_range low high ms key n ∙ ap (λ b. cond (not b) (ops_in ms key n) None) t) u))
            (λ t. node.newer.above key n k (some_cond (not (spans low high key)) (ops_in ms key n) (subst IsSome (ops-out_of_range low high ms key n) u)) (subst IsSome (same_below key k t) w));
      };
    }

    means : (key : List ℕ) → MeanTheSame (pins (tenant_of key)) (ops_in (messages_of (subtree_of a)) key) (ops_in (messages_of (subtree_of new)) key)
    means key = subst (λ f. MeanTheSame (pins (tenant_of key)) f (ops_in (messages_of (subtree_of new)) key)) (sym (own a was key))
        (subst (MeanTheSame (pins (tenant_of key)) (ops_above ms (leaves_of a.children.items) key)) (ap (λ k. ops_above k (leaves_of v.items) key) left ∙ sym (own new now key))
        (s.means key))

    -- it has no key outside
    nothing : {X : Type 0} (end key : List ℕ) → IsTile (node_part (subtree_of a)) end → spans a.low end key ≡ false → AreThere (ops_above ms (leaves_of a.children.items) key) → X
    nothing end key t o k =
        let u = subst AreThere (sym (own a was key)) k in
        absurd (none_some (ops_in (messages_of (subtree_of a)) key u.0) (outside_tile (subtree_of a) end key u.0 t o) u.1)

    -- some message is gone
    gone : 0 < length (in_range low high ms)
    gone = by_list (in_range low high ms) refl where
      by_list : (k : List TreeMessage) → k ≡ in_range low high ms → 0 < length (in_range low high ms)
      by_list [] e = absurd (can.some ((λ j. in_range (sym l j) (sym (h ∙ was.end i) j) ms) ∙ sym e))
      by_list (x ∷ k) e = let n = ap length e in omega (arith, n)

    lighter : (subtree_of new).weight < (subtree_of a).weight
    lighter =
        let split = length-filter_both (is_between low high) (λ x. not (is_between low high x)) (λ x. refl) ms in
        let times : (c : ℕ) → a.height * c ≡ c = λ c. ap (λ k. k * c) one ∙ omega arith in
        let before = was.weight in
        let after = now.weight in
        omega (arith, split, times (length ms), times (length (out_of_range low high ms)), before, after, gone)
