-- A node that is cut into several, and a root above several.
use Rattle.std.proofs.Common.{suc, ◌≡◌, ℕ, ◌+◌, ◌-◌, ◌*◌, ◌<◌, ◌≤◌, List, [], ◌∷◌, ◌++◌, length, refl, sym, ap, ◌∙◌, subst, arith, append_assoc, append-nil, true, inl}
use Rattle.std.specs.List.{AllByRecursion}
use Rattle.std.specs.Ordering.{is_lt}
use Rattle.std.specs.Prelude.{IsSome}
use Rattle.std.specs.declared.vec.Vec.{Vec}
use Rattle.std.proofs.lemmas.List.Sums.{sum_by-cons}
use Rattle.stow_tree_model.specs.StowBytes.Bytes.{bytes_cmp}
use Rattle.stow_leaves.proofs.StowMessage.RisingLists.{lt_is}
use Rattle.stow_leaves.specs.StowMessage.MessageBuf.{MessageList, message_list}
use Rattle.stow_tree_model.specs.Agreement.{TenantPins}
use Rattle.stow_tree_model.specs.Keys.{tenant_of}
use Rattle.stow_tree_model.specs.Messages.{ops_in}
use Rattle.stow_tree_model.specs.Operations.{or_else}
use Rattle.stow_leaves.specs.StowLeaf.Intervals.{top_key, spans}
use Rattle.stow_leaves.specs.StowLeaf.LeafRows.{LeafRows, row_messages, first_fence}
use Rattle.stow_leaves.proofs.StowLeaf.Intervals.{lt}
use Rattle.stow_leaves.proofs.StowLeaf.Ops.{ops-append}
use Rattle.stow_node.specs.declared.child.Child.{Child}
use Rattle.stow_node.specs.declared.child.Child.TheVariants as in_child
use Rattle.stow_node.specs.declared.node.Node.TheInside.{Inside}
use Rattle.stow_node.specs.declared.room.Room.{Room}
use Rattle.stow_node.specs.declared.shape.Shape.{Shape}
use Rattle.stow_groups.specs.Groups.{groups, IsLast}
use Rattle.stow_node.specs.Rooms.{AreShells}
use Rattle.std.specs.Vec.{vec_capacity}
use Rattle.stow_leaves.specs.StowLeaf.Replacements.{MeanTheSame}
use Rattle.stow_node.specs.Flushes.{KeepsMeaning}
use Rattle.stow_node.specs.Halves.{IsLike, AreHalves}
use Rattle.stow_node.specs.Nodes.{leaves_of, nearest_in, AreAmong, HasNodeBlock}
use Rattle.stow_node.specs.Nodes.{node_part, parts_of, AreLeafSizes, IsBelow, subtree_of, IsNode}
use Rattle.stow_node.specs.Parts.{Part, low_or, IsTile, TiledTo, messages_in, leaves_in, weight_in}
use Rattle.stow_node.specs.Regroups.{nodes, run_parts, run_messages, TakePlace, AreFew, Grows, StandAsOne, StepsAsOne, AreBehind}
use Rattle.stow_node.specs.Subtree.{Subtree, buffered, messages_of, right_above_leaves}
use Rattle.stow_node.proofs.Cut.{below_end}
use Rattle.stow_groups.proofs.Counts.{groups_few, groups_hold}
use Rattle.stow_node.proofs.Lowered.{rows_by_part}
use Rattle.stow_leaves.proofs.StowLeaf.Over.{same_pointwise, same_then}
use Rattle.stow_node.proofs.Nearest.{nearest_halves, nearest_alone, nearest_up}
use Rattle.stow_node.proofs.Raised.{row_fences, first_of_row, above_leaves}
use Rattle.stow_node.proofs.Row.{message_taken, row_taken, messages_apart, rows_apart, row_out}
use Rattle.stow_node.proofs.Spliced.{one_takes_place, halves_take_place, row_ops_are}

-- ---- places taken one after another

-- where one node takes the place, and others take its
pub place_then : (pins : TenantPins) (x y : Subtree) (run : List Subtree) → y.shape ≡ x.shape → TakePlace pins x (y ∷ []) → TakePlace pins y run → TakePlace pins x run
place_then pins x y run shape p q = record {
  tiled = λ high t. let one = p.tiled high t in let two = q.tiled high one.0.0 in (two.0, two.1 ∙ one.1);
  sizes = subst (λ (s : Shape). AreLeafSizes s.leaf (leaves_in (run_parts run))) shape q.sizes;
  means = λ key. same_then (pins (tenant_of key)) (ops_in (messages_of x) key) (ops_in (messages_of y) key) (ops_in (run_messages run) key)
      (subst (MeanTheSame (pins (tenant_of key)) (ops_in (messages_of x) key)) (λ j n. alone y key n j) (p.means key)) (q.means key);
}
  where
    alone : (t : Subtree) (key : List ℕ) (n : ℕ) → ops_in (run_messages (t ∷ [])) key n ≡ ops_in (messages_of t) key n
    alone t key n = λ i. ops_in (append-nil (buffered t) i ++ row_messages (append-nil t.leaves i)) key n

-- ---- a node is cut

-- how far it is cut: the lowest children are still with it
pub record Settling {A : Type 0} (pins : TenantPins) (old now : Subtree) (came : List (Child A)) : Type 0 where
  pub run : List Subtree
  pub are : came ≡ nodes A run
  pub capacity : now.buffer.capacity ≡ old.buffer.capacity
  pub like : AllByRecursion (IsLike old) (now ∷ run)
  pub place : TakePlace pins old (now ∷ run)
  pub few : AreFew run
  pub weight : weight_in (run_parts (now ∷ run)) ≡ old.weight
  pub leaves : leaves_in (run_parts (now ∷ run)) ≡ old.leaves
  pub whole : IsTile (node_part old) top_key
  pub nearest : AreAmong (nearest_in (nodes A (now ∷ run))) (right_above_leaves old)

pub settling_first : (A : Type 0) (pins : TenantPins) (x : Subtree) → HasNodeBlock x → AreLeafSizes x.shape.leaf x.leaves → IsTile (node_part x) top_key → Settling {A = A} pins x x []
settling_first A pins x block sizes whole = record {
  run = [];
  are = refl;
  capacity = refl;
  like = (record { height = refl; shape = refl; block = block }, tt);
  place = one_takes_place pins x x (record {
    low = refl;
    height = refl;
    shape = refl;
    capacity = refl;
    sizes = sizes;
    tile = λ high t. t;
    means = λ key. same_pointwise (pins (tenant_of key)) (ops_in (messages_of x) key) (ops_in (messages_of x) key) (λ n. refl);
  });
  few = tt;
  weight = let one = sum_by-cons (λ (p : Part). p.weight) (node_part x) [] in omega (arith, one);
  leaves = append-nil x.leaves;
  whole = whole;
  nearest = nearest_alone A x;
}

pub parts_of_nodes : (A : Type 0) (ts : List Subtree) → parts_of (nodes A ts) ≡ run_parts ts
parts_of_nodes A [] = refl
parts_of_nodes A (t ∷ ts) = ap (λ ps. node_part t ∷ ps) (parts_of_nodes A ts)

pub settling_next : {A : Type 0} (pins : TenantPins) (old now lower upper : Subtree) (came : List (Child A)) → Settling pins old now came → AreHalves now lower upper → upper.width ≤ upper.shape.fan_out → Settling pins old lower (in_child.Node upper ∷ came)
settling_next {A} pins old now lower upper came s h fits = record {
  run = upper ∷ s.run;
  are = ap (λ l. in_child.Node upper ∷ l) s.are;
  capacity = h.capacity ∙ s.capacity;
  like = (
    record { height = h.lower_like.height ∙ s.like.0.height; shape = h.lower_like.shape ∙ s.like.0.shape; block = h.lower_like.block },
    (
      record { height = h.upper_like.height ∙ s.like.0.height; shape = h.upper_like.shape ∙ s.like.0.shape; block = h.upper_like.block },
      s.like.1,
    ),
  );
  place = record {
    tiled = λ high t.
        let all = s.place.tiled high t in
        let two = (halves_take_place pins now lower upper own h).tiled (low_or high (run_parts s.run)) all.0.0 in
        ((two.0.0, (two.0.1.0, all.0.1)), h.low ∙ all.1);
    sizes = subst (AreLeafSizes old.shape.leaf) (sym leaves_are) s.place.sizes;
    means = λ key. subst (MeanTheSame (pins (tenant_of key)) (ops_in (messages_of old) key)) (λ j n. sym (same key n) j) (s.place.means key);
  };
  few = (fits, s.few);
  weight =
      let w = s.weight in
      let e = h.weight in
      let one = sum_by-cons (λ (p : Part). p.weight) (node_part now) (run_parts s.run) in
      let two = sum_by-cons (λ (p : Part). p.weight) (node_part lower) (node_part upper ∷ run_parts s.run) in
      let three = sum_by-cons (λ (p : Part). p.weight) (node_part upper) (run_parts s.run) in
      omega (arith, w, e, one, two, three);
  leaves = leaves_are ∙ s.leaves;
  whole = s.whole;
  nearest = λ key n there. s.nearest key n (nearest_halves now lower upper (nodes A s.run) h below_rest key n there);
}
  where
    leaves_are : leaves_in (run_parts (lower ∷ upper ∷ s.run)) ≡ leaves_in (run_parts (now ∷ s.run))
    leaves_are = sym (append_assoc lower.leaves upper.leaves (leaves_in (run_parts s.run))) ∙ ap (λ l. l ++ leaves_in (run_parts s.run)) (sym h.leaves)

    own : AreLeafSizes now.shape.leaf now.leaves
    own = subst (λ (k : Shape). AreLeafSizes k.leaf now.leaves) (sym s.like.0.shape) (front now.leaves (leaves_in (run_parts s.run)) s.place.sizes) where
      front : (xs ys : List LeafRows) → AreLeafSizes old.shape.leaf (xs ++ ys) → AreLeafSizes old.shape.leaf xs
      front [] ys a = tt
      front (x ∷ xs) ys a = (a.0, front xs ys a.1)

    below_rest : lt upper.low (low_or top_key (parts_of (nodes A s.run))) ≡ true
    below_rest =
        let all = s.place.tiled top_key s.whole in
        let two = (halves_take_place pins now lower upper own h).tiled (low_or top_key (run_parts s.run)) all.0.0 in
        ap (λ ps. lt upper.low (low_or top_key ps)) (parts_of_nodes A s.run) ∙ ap is_lt two.0.1.0.ordered

    buffers : (key : List ℕ) (n : ℕ) → ops_in (messages_in (run_parts (lower ∷ upper ∷ s.run))) key n ≡ ops_in (messages_in (run_parts (now ∷ s.run))) key n
    buffers key n =
        ap (λ l. ops_in l key n) (sym (append_assoc (buffered lower) (buffered upper) (messages_in (run_parts s.run))))
        ∙ ops-append (buffered lower ++ buffered upper) (messages_in (run_parts s.run)) key n
        ∙ ap (λ o. or_else o (ops_in (messages_in (run_parts s.run)) key n)) (ops-append (buffered lower) (buffered upper) key n ∙ sym (h.messages key n))
        ∙ sym (ops-append (buffered now) (messages_in (run_parts s.run)) key n)

    same : (key : List ℕ) (n : ℕ) → ops_in (run_messages (lower ∷ upper ∷ s.run)) key n ≡ ops_in (run_messages (now ∷ s.run)) key n
    same key n =
        row_ops_are (run_parts (lower ∷ upper ∷ s.run)) key n
        ∙ (λ j. or_else (buffers key n j) (ops_in (row_messages (leaves_are j)) key n))
        ∙ sym (row_ops_are (run_parts (now ∷ s.run)) key n)

pub settled : {A : Type 0} (pins : TenantPins) (old now : Subtree) (came : List (Child A)) → Settling pins old now came → now.width ≤ now.shape.fan_out → Grows pins old now came
settled pins old now came s fits = record { run = s.run; are = s.are; capacity = s.capacity; like = s.like; place = s.place; few = (fits, s.few); weight = s.weight; leaves = s.leaves; nearest = s.nearest }

-- how far the code is: so many nodes are still to be one
pub record IsSettling {A : Type 0} (old : Subtree) (room : Room A) (now : Subtree) (room' : Room A) (left : ℕ) : Type 0 where
  pub settling : (pins : TenantPins) → Settling pins old now room'.came.items
  pub shape : now.shape ≡ old.shape
  pub some : 1 ≤ left
  pub few : left ≤ now.width
  pub hold : now.width ≤ left * old.shape.fan_out
  pub count : length room'.came.items + left ≡ groups old.shape.fan_out old.width
  pub capacity : vec_capacity room.came ≤ vec_capacity room'.came
  pub wides : room'.wides ≡ room.wides
  pub shells : (rest : ℕ) → AreShells ((groups old.shape.fan_out old.width - 1) + rest) old.shape room.shells.items → AreShells ((left - 1) + rest) old.shape room'.shells.items

pub settling_begins : {A : Type 0} (x : Subtree) (room : Room A) (left : ℕ) → HasNodeBlock x → AreLeafSizes x.shape.leaf x.leaves → IsTile (node_part x) top_key → 1 ≤ x.shape.fan_out → 1 ≤ x.width → room.came.items ≡ [] → left ≡ groups x.shape.fan_out x.width → IsSettling x room x room left
settling_begins {A} x room left block sizes whole fan some none e = subst (IsSettling x room x room) (sym e) (record {
  settling = λ pins. subst (Settling pins x x) (sym none) (settling_first A pins x block sizes whole);
  shape = refl;
  some = omega arith;
  few = groups_few x.shape.fan_out x.width some;
  hold = groups_hold x.shape.fan_out x.width fan some;
  count = let n = ap length none in omega (arith, n);
  capacity = omega arith;
  wides = refl;
  shells = λ rest h. h;
})

-- there is a shell for the next one
pub shells_now : {A : Type 0} (old now : Subtree) (room room' : Room A) (left rest : ℕ) → IsSettling old room now room' left → 2 ≤ left → AreShells ((groups old.shape.fan_out old.width - 1) + rest) old.shape room.shells.items → AreShells (suc ((left - 2) + rest)) old.shape room'.shells.items
shells_now old now room room' left rest s two h =
    let e : (left - 1) + rest ≡ suc ((left - 2) + rest) = omega (arith, two) in
    subst (λ n. AreShells n old.shape room'.shells.items) e (s.shells rest h)

pub no_rest : (n : ℕ) (shape : Shape) (shells : List Shape) → AreShells n shape shells → AreShells (n + 0) shape shells
no_rest n shape shells h = let e : n ≡ n + 0 = omega arith in subst (λ k. AreShells k shape shells) e h

pub settling_cut : {A : Type 0} (old now lower upper : Subtree) (room room' room'' : Room A) (left share : ℕ) → IsSettling old room now room' left → 2 ≤ left → IsLast old.shape.fan_out now.width left share → AreHalves now lower upper → lower.width ≡ now.width - share
    → room''.came.items ≡ in_child.Node upper ∷ room'.came.items → vec_capacity room'.came ≤ vec_capacity room''.came → room''.wides ≡ room'.wides → ((nodes : ℕ) → AreShells (suc nodes) old.shape room'.shells.items → AreShells nodes old.shape room''.shells.items)
    → IsSettling old room lower room'' (left - 1)
settling_cut {A} old now lower upper room room' room'' left share s two last h at came cap wides shells = record {
  settling = λ pins. subst (Settling pins old lower) (sym came) (settling_next pins old now lower upper room'.came.items (s.settling pins) h fits);
  shape = h.lower_like.shape ∙ s.shape;
  some = omega (arith, two);
  few = let r = last.rest_some in omega (arith, r, at);
  hold = let r = last.rest_hold in omega (arith, r, at);
  count = let n = ap length came in let m = s.count in omega (arith, n, m, two);
  capacity = let c = s.capacity in omega (arith, c, cap);
  wides = wides ∙ s.wides;
  shells = λ rest k.
      let e : (left - 2) + rest ≡ (left - 1 - 1) + rest = omega (arith, two) in
      subst (λ n. AreShells n old.shape room''.shells.items) e (shells ((left - 2) + rest) (shells_now old now room room' left rest s two k));
}
  where
    fits : upper.width ≤ upper.shape.fan_out
    fits =
        let w = h.widths in
        let f = last.few in
        let l = last.less in
        let e = ap (λ (k : Shape). k.fan_out) (h.upper_like.shape ∙ s.shape) in
        omega (arith, w, f, l, e, at)

-- in the end one node is left
pub settling_ends : {A : Type 0} (old now : Subtree) (room room' : Room A) (left : ℕ) (pins : TenantPins) → IsSettling old room now room' left → left ≤ 1 → Grows pins old now room'.came.items
settling_ends old now room room' left pins s l = settled pins old now room'.came.items (s.settling pins)
    (let h = s.hold in
    let e = ap (λ (k : Shape). k.fan_out) s.shape in
    let o : left ≡ 1 = (let some = s.some in omega (arith, some, l)) in
    let t : left * old.shape.fan_out ≡ old.shape.fan_out = ap (λ n. n * old.shape.fan_out) o ∙ grind arith in
    omega (arith, h, e, t))

-- ---- a node that means the same grew

pub steps : {A : Type 0} (pins : TenantPins) (x y z : Subtree) (came : List (Child A)) → KeepsMeaning pins x y → y.weight < x.weight → Grows pins y z came → length came < 4294967296 → StepsAsOne pins x z came
steps {A} pins x y z came k less g few = record {
  stands = record {
    run = g.run;
    are = g.are;
    shape = g.like.0.shape ∙ k.shape;
    capacity = g.capacity ∙ k.capacity;
    like = all_like g.run g.like.1;
    place = place_then pins x y (z ∷ g.run) k.shape (one_takes_place pins x y k) g.place;
    few = g.few;
    lighter = let w = g.weight in omega (arith, w, less);
  };
  height = g.like.0.height ∙ k.height;
  counted = few;
}
  where
    all_like : (ts : List Subtree) → AllByRecursion (IsLike y) ts → AllByRecursion (IsLike z) ts
    all_like [] h = tt
    all_like (t ∷ ts) h = (record { height = h.0.height ∙ sym g.like.0.height; shape = h.0.shape ∙ sym g.like.0.shape; block = h.0.block }, all_like ts h.1)

-- the leaves of what grew
pub grown_leaves : {A : Type 0} (pins : TenantPins) (y z : Subtree) (came : List (Child A)) → Grows pins y z came → z.leaves ++ leaves_of came ≡ y.leaves
grown_leaves {A} pins y z came g = ap (λ (l : List (Child A)). z.leaves ++ leaves_of l) g.are ∙ ap (λ l. z.leaves ++ leaves_in l) (parts_of_nodes A g.run) ∙ g.leaves

-- ---- a root above several nodes

-- a row is one part
pub row_tile : (high : List ℕ) (ps : List Part) (p : Part) → TiledTo high ps → 0 < length ps → p.low ≡ low_or high ps → p.messages ≡ messages_in ps → p.leaves ≡ leaves_in ps → IsTile p high
row_tile high ps p t some low messages leaves = record {
  fences = subst (λ ls. AllByRecursion (λ leaf. spans p.low high leaf.0 ≡ true) ls) (sym leaves) (subst (λ l. AllByRecursion (λ leaf. spans l high leaf.0 ≡ true) (leaves_in ps)) (sym low) (row_fences high ps t));
  first = ap (λ ls. first_fence high ls) leaves ∙ first_of_row high ps t ∙ sym low;
  ordered = lt_is (bytes_cmp p.low high) (subst (λ l. lt l high ≡ true) (sym low) (below_end high ps t some));
  messages = record { outside = λ key n o. ap (λ l. ops_in l key n) messages ∙ row_out message_taken p.low high ps key n (messages_apart high ps t) (sym low) o };
  rows = record { outside = λ key n o. ap (λ l. ops_in (row_messages l) key n) leaves ∙ ap (λ l. ops_in l key n) (rows_by_part ps) ∙ row_out row_taken p.low high ps key n (rows_apart high ps t) (sym low) o };
}

-- a node above a node and those that came behind it
abbrev pub root_above : {A : Type 0} → Inside A → Vec (Child A) A → MessageList → Inside A
root_above a v b =
    record {
      low = a.low;
      height = a.height + 1;
      shape = a.shape;
      buffer = b;
      children = v;
    }

pub record Rooted {A : Type 0} (a : Inside A) (v : Vec (Child A) A) (came : List (Child A)) : Type 0 where
  pub is_node : IsNode (root_above a v (message_list [] 0 a.shape.buffer))
  pub stands : (pins : TenantPins) (x z : Subtree) (came' : List (Child A)) → StandAsOne pins x (subtree_of a) came → Grows pins (subtree_of (root_above a v (message_list [] 0 a.shape.buffer))) z came' → StandAsOne pins x z came'
  pub leaves : leaves_in (parts_of v.items) ≡ (subtree_of a).leaves ++ leaves_of came
  pub nearest : (pins : TenantPins) (z : Subtree) (came' : List (Child A)) → Grows pins (subtree_of (root_above a v (message_list [] 0 a.shape.buffer))) z came' → AreAmong (nearest_in (in_child.Node z ∷ came')) (nearest_in (in_child.Node (subtree_of a) ∷ came))

pub rooted : {A : Type 0} (a : Inside A) (v : Vec (Child A) A) (came : List (Child A)) → IsNode a → a.buffer.capacity ≡ a.shape.buffer → AreBehind (subtree_of a) came → v.items ≡ in_child.Node (subtree_of a) ∷ came → Rooted a v came
rooted {A} a v came node whole_block b items = record {
  is_node = record {
    tiled = subst (TiledTo top_key) (sym parts) tiled.0;
    first = ap (low_or top_key) parts;
    level = subst (AllByRecursion (IsBelow {A = A} (a.height + 1) a.shape)) (sym items) (
      record { level = refl; same = (refl, node.block, above_leaves a node, b.stands.few.0) },
      subst (AllByRecursion (IsBelow {A = A} (a.height + 1) a.shape)) (sym b.stands.are) (each b.stands.run b.stands.like b.stands.few.1),
    );
    some = subst (λ (l : List (Child A)). 1 ≤ length l) (sym items) (omega arith);
    block = inl refl;
    from = record { outside = λ key n o. refl };
    newer = record { above = λ key n k u l. absurd cc };
    sizes = subst (λ ps. AreLeafSizes a.shape.leaf (leaves_in ps)) (sym parts) (subst (λ (s : Shape). AreLeafSizes s.leaf (leaves_in (run_parts (subtree_of a ∷ b.stands.run)))) (sym b.stands.shape) b.stands.place.sizes);
  };
  stands = λ pins x z came' s g. above pins x z came' s g;
  leaves = ap (λ (l : List (Child A)). leaves_in (parts_of l)) items;
  nearest = λ pins z came' g key n there.
      subst (λ ms. IsSome (ops_in ms key n)) (nearest_up (a.height + 1) [] (nearest_in v.items) (let l = above_leaves a node in omega (arith, l)) ∙ ap nearest_in items)
      (g.nearest key n (subst (λ (l : List (Child A)). IsSome (ops_in (nearest_in (in_child.Node z ∷ l)) key n)) g.are there));
}
  where
    parts_by : (run : List Subtree) → came ≡ nodes A run → parts_of v.items ≡ run_parts (subtree_of a ∷ run)
    parts_by run e = ap parts_of (items ∙ ap (λ l. in_child.Node (subtree_of a) ∷ l) e) ∙ ap (λ ps. node_part (subtree_of a) ∷ ps) (parts_of_nodes A run)

    parts : parts_of v.items ≡ run_parts (subtree_of a ∷ b.stands.run)
    parts = parts_by b.stands.run b.stands.are

    tiled : TiledTo top_key (run_parts (subtree_of a ∷ b.stands.run)) × (low_or top_key (run_parts (subtree_of a ∷ b.stands.run)) ≡ b.old.low)
    tiled = b.stands.place.tiled top_key b.tile

    each : (ts : List Subtree) → AllByRecursion (IsLike (subtree_of a)) ts → AreFew ts → AllByRecursion (IsBelow {A = A} (a.height + 1) a.shape) (nodes A ts)
    each [] h f = tt
    each (t ∷ ts) h f = (
      record {
        level = ap (λ k. k + 1) h.0.height;
        same = (h.0.shape, h.0.block, let e = h.0.height in let l = above_leaves a node in omega (arith, e, l), subst (λ (s : Shape). t.width ≤ s.fan_out) h.0.shape f.0);
      },
      each ts h.1 f.1,
    )

    root : Subtree
    root = subtree_of (root_above a v (message_list [] 0 a.shape.buffer))

    above : (pins : TenantPins) (x z : Subtree) (came' : List (Child A)) → StandAsOne pins x (subtree_of a) came → Grows pins root z came' → StandAsOne pins x z came'
    above pins x z came' s g = record {
      run = g.run;
      are = g.are;
      shape = g.like.0.shape ∙ s.shape;
      capacity = g.capacity ∙ sym whole_block ∙ s.capacity;
      like = all_like g.run g.like.1;
      place = place_then pins x root (z ∷ g.run) s.shape one g.place;
      few = g.few;
      lighter =
          let w = g.weight in
          let l = s.lighter in
          let e = ap weight_in (parts_by s.run s.are) in
          omega (arith, w, l, e);
    }
      where
        all_like : (ts : List Subtree) → AllByRecursion (IsLike root) ts → AllByRecursion (IsLike z) ts
        all_like [] h = tt
        all_like (t ∷ ts) h = (record { height = h.0.height ∙ sym g.like.0.height; shape = h.0.shape ∙ sym g.like.0.shape; block = h.0.block }, all_like ts h.1)

        one : TakePlace pins x (root ∷ [])
        one = record {
          tiled = λ high t.
              let all = s.place.tiled high t in
              ((row_tile high (run_parts (subtree_of a ∷ s.run)) (node_part root) all.0 (omega arith) refl (ap messages_in (parts_by s.run s.are)) (ap leaves_in (parts_by s.run s.are)), tt), all.1);
          sizes = subst (AreLeafSizes x.shape.leaf) (sym (append-nil root.leaves ∙ ap leaves_in (parts_by s.run s.are))) s.place.sizes;
          means = λ key. subst (MeanTheSame (pins (tenant_of key)) (ops_in (messages_of x) key)) (λ j n. ap (λ ms. ops_in ms key n) (sym whole) j) (s.place.means key);
        }
          where
            whole : run_messages (root ∷ []) ≡ run_messages (subtree_of a ∷ s.run)
            whole =
                (λ i. append-nil (messages_in (parts_of v.items)) i ++ row_messages (append-nil (leaves_in (parts_of v.items)) i))
                ∙ ap (λ ps. messages_in ps ++ row_messages (leaves_in ps)) (parts_by s.run s.are)
