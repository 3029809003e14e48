-- One step of a node's messages towards the leaves: what the node is after each of its ends.
use Rattle.std.proofs.Common.{zero, suc, ◌≡◌, ◌≢◌, ℕ, ◌+◌, ◌<◌, ◌≤◌, List, [], ◌∷◌, length, take, drop, get_or, set, Some, refl, sym, ap, ◌∙◌, subst, arith, ◌++◌, length-append, length-drop}
use Rattle.std.specs.Prelude.{slice_get, Result, Ok, Err, OnOk}
use Rattle.std.specs.List.{AllByRecursion, sum_by}
use Rattle.std.specs.declared.vec.Vec.{Vec}
use Rattle.std.proofs.lemmas.Grind.{flat_map-append}
use Rattle.std.proofs.lemmas.List.{map-append, take-map, drop-map, length-take-le}
use Rattle.std.proofs.lemmas.List.Sums.{sum_by-cons}
use Rattle.stow_leaves.specs.StowMessage.Packed.{message_size}
use Rattle.stow_leaves.specs.StowMessage.Rising.{is_between}
use Rattle.stow_tree_model.specs.Agreement.{TenantPins}
use Rattle.stow_tree_model.specs.Keys.{tenant_of}
use Rattle.stow_tree_model.specs.Messages.{ops_in}
use Rattle.stow_tree_model.specs.Operations.{or_else}
use Rattle.stow_leaves.specs.StowLeaf.LeafRows.{row_messages}
use Rattle.stow_leaves.specs.StowLeafCache.Cache.{Cache}
use Rattle.stow_leaves.proofs.StowLeaf.Steps.{inside_of}
use Rattle.stow_node.specs.declared.child.Child.{Child}
use Rattle.stow_node.specs.declared.child.Child.TheVariants as in_child
use Rattle.stow_node.specs.declared.node.Node.TheInside.{Inside}
use Rattle.stow_node.specs.declared.shape.Shape.{Shape}
use Rattle.stow_node.specs.Flushes.{AreShort, KeepsMeaning}
use Rattle.stow_leaves.specs.Forgets.{Forgets}
use Rattle.stow_node.specs.Halves.{IsLike}
use Rattle.stow_node.specs.Nodes.{leaves_of}
use Rattle.stow_node.specs.Moves.{IsReallocated, StaysInMeaning, bytes_for, IsHeaviest}
use Rattle.stow_node.specs.Nodes.{part_of, node_part, parts_of, AreLeafSizes, IsBelow, subtree_of, IsNode}
use Rattle.stow_node.specs.Parts.{Part, high_of, leaves_in}
use Rattle.stow_node.specs.Regroups.{nodes, run_parts, run_messages, TakePlace, StepsAsOne, ForgetsCame}
use Rattle.stow_node.specs.Subtree.{Subtree, messages_of}
use Rattle.stow_node.proofs.Down.{IsNext, node_at, full_has_messages}
use Rattle.stow_node.proofs.Entered.{Entered, entered}
use Rattle.stow_node.proofs.Reallocated.{StaysLike, block_kept, block_most, like_itself, reallocated_same, stays_like}
use Rattle.stow_node.proofs.Filled.{some_bytes}
use Rattle.stow_node.proofs.Spliced.{old_parts}
use Rattle.stow_leaves.proofs.Forgotten.{forgets_within}
use Rattle.stow_leaves.proofs.StowLeaf.Over.{same_pointwise, same_then}
use Rattle.stow_node.proofs.Spliced.{Spliced, spliced, one_takes_place, child_short, before_of, after_of}
use Rattle.stow_node.proofs.Standing.{parts_ops}
use Rattle.stow_node.proofs.Stayed.{same_tile, level_at}

-- a node whose messages only moved below it means the same
pub stays_keeps : (pins : TenantPins) (x y : Subtree) → StaysInMeaning x y → AreLeafSizes y.shape.leaf y.leaves → KeepsMeaning pins x y
stays_keeps pins x y s sizes = record {
  low = s.low;
  height = s.height;
  shape = s.shape;
  capacity = s.capacity;
  sizes = sizes;
  tile = λ high t. same_tile x y high (stays_like s) t;
  means = λ key. same_pointwise (pins (tenant_of key)) (ops_in (messages_of x) key) (ops_in (messages_of y) key) (λ n.
      parts_ops y key n
      ∙ (λ i. or_else (s.messages key n i) (ops_in (row_messages (s.leaves i)) key n))
      ∙ sym (parts_ops x key n));
}

-- what is known of the child that most bytes are buffered for
pub next_is : {A : Type 0} (a : Inside A) (i bytes : ℕ) (x : Subtree) (c : Child A) (lent lent' : List (Child A)) → IsNode a → a.height ≢ 1 → 0 < length a.buffer.messages → lent ≡ a.children.items → IsHeaviest (parts_of lent) a.buffer i → c ≡ get_or a.children.items i c → c ≡ in_child.Node x
    → lent' ≡ a.children.items → ((d : Part) → bytes ≡ bytes_for (parts_of lent') a.buffer i d) → sum_by message_size a.buffer.messages ≤ a.buffer.capacity → IsNext a i bytes x
next_is {A} a i bytes x c lent lent' node high_up many e heavy here is e' given live = record {
  at = at;
  bytes_are = are (node_part x);
  some = let b = are (node_part h.node) in let s = h.some in omega (arith, b, s);
  few = let less = some_bytes (is_between (get_or (parts_of a.children.items) i (node_part x)).low (high_of (parts_of a.children.items) i)) a.buffer.messages in let b = are (node_part x) in omega (arith, b, less, live);
  lower = let up : x.height + 1 ≡ a.height = level.level in omega arith;
}
  where
    h : Entered a i
    h = entered a i lent node high_up many e heavy

    at : slice_get a.children.items i ≡ Some (in_child.Node x)
    at = node_at a.children.items i c x (inside_of a.children.items i (in_child.Node h.node) h.at) here is

    are : (d : Part) → bytes ≡ bytes_for (parts_of a.children.items) a.buffer i d
    are d = subst (λ (l : List (Child A)). bytes ≡ bytes_for (parts_of l) a.buffer i d) e' (given d)

    level : IsBelow {A = A} a.height a.shape (in_child.Node x)
    level = level_at a.height a.shape a.children.items i (in_child.Node x) node.level at

-- ---- a step of the child's own

-- a child that lacks room, of a node that has messages for it, has messages
pub next_filled : {A : Type 0} (a : Inside A) (i bytes ample : ℕ) (x y : Subtree) → IsNode a → IsNext a i bytes x → IsReallocated x y → y.buffer.capacity ≡ y.shape.buffer → y.buffer.capacity < sum_by message_size y.buffer.messages + ample → (bytes ≤ a.shape.buffer → ample ≤ a.shape.buffer) → 0 < length y.buffer.messages
next_filled {A} a i bytes ample x y node n q block full most =
    let level : IsBelow {A = A} a.height a.shape (in_child.Node x) = level_at a.height a.shape a.children.items i (in_child.Node x) node.level n.at in
    let size = ap (λ (s : Shape). s.buffer) ((reallocated_same x y q).0.shape ∙ level.same.0) in
    let own = block_most a.shape.buffer a.buffer node.block in
    let f = most (let l = n.few in omega (arith, l, own)) in
    full_has_messages y ample full (omega (arith, f, block, size))

pub record CanStep (y : Subtree) (height size fan_out : ℕ) : Type 0 where
  pub filled : 0 < length y.buffer.messages
  pub few : y.width ≤ y.shape.fan_out
  pub wide : y.shape.fan_out ≡ fan_out
  pub short : AreShort (messages_of y)
  pub same : y.shape.buffer ≡ size
  pub lower : y.height < height

pub can_step : {A : Type 0} (a : Inside A) (i bytes ample : ℕ) (x y : Subtree) → IsNode a → IsNext a i bytes x → IsReallocated x y → y.buffer.capacity ≡ y.shape.buffer → y.buffer.capacity < sum_by message_size y.buffer.messages + ample → (bytes ≤ a.shape.buffer → ample ≤ a.shape.buffer) → AreShort (messages_of (subtree_of a)) → CanStep y a.height a.shape.buffer a.shape.fan_out
can_step {A} a i bytes ample x y node n q block full most short = record {
  filled = next_filled a i bytes ample x y node n q block full most;
  few = let e = fan_out in let w = like.width in let f = level.same.3 in omega (arith, e, w, f);
  wide = fan_out;
  short = rw q.is (child_short a i x node n.at short);
  same = ap (λ (t : Shape). t.buffer) (like.shape ∙ level.same.0);
  lower = let h = like.height in let l = n.lower in omega (arith, h, l);
}
  where
    like : StaysLike x y
    like = (reallocated_same x y q).0

    level : IsBelow {A = A} a.height a.shape (in_child.Node x)
    level = level_at a.height a.shape a.children.items i (in_child.Node x) node.level n.at

    fan_out : y.shape.fan_out ≡ a.shape.fan_out
    fan_out = ap (λ (t : Shape). t.fan_out) (like.shape ∙ level.same.0)

-- ---- the node with the child after its step, and what came behind it

-- a place in a list where one element was set
pub behind_set : {X : Type 0} (xs : List X) (i : ℕ) (x : X) (came : List X) → i < length xs → take (i + 1) (set xs i x) ++ (came ++ drop (i + 1) (set xs i x)) ≡ take i xs ++ ((x ∷ came) ++ drop (i + 1) xs)
behind_set [] i x came h = absurd (omega arith)
behind_set (y ∷ ys) zero x came h = refl
behind_set (y ∷ ys) (suc i) x came h =
    let e : suc i + 1 ≡ suc (i + 1) = omega arith in
    (λ j. take (e j) (y ∷ set ys i x) ++ (came ++ drop (e j) (y ∷ set ys i x)))
    ∙ ap (λ l. y ∷ l) (behind_set ys i x came (omega arith))
    ∙ (λ j. y ∷ (take i ys ++ ((x ∷ came) ++ drop (sym e j) (y ∷ ys))))

pub behind_length : {X : Type 0} (xs : List X) (i : ℕ) (came : List X) → i < length xs → length (take (i + 1) xs ++ (came ++ drop (i + 1) xs)) ≡ length xs + length came
behind_length xs i came l =
    let a = length-append (take (i + 1) xs) (came ++ drop (i + 1) xs) in
    let b = length-append came (drop (i + 1) xs) in
    let t = length-take-le (i + 1) xs (omega (arith, l)) in
    let d = length-drop (i + 1) xs in
    omega (arith, a, b, t, d, l)

-- a node that has none behind it
pub steps_alone : {A : Type 0} (pins : TenantPins) (x y : Subtree) (came : List (Child A)) → StaysInMeaning x y → AreLeafSizes y.shape.leaf y.leaves → y.weight < x.weight → x.width ≤ x.shape.fan_out → came ≡ [] → StepsAsOne pins x y came
steps_alone pins x y came s sizes less few none = record {
  stands = record {
    run = [];
    are = none;
    shape = s.shape;
    capacity = s.capacity;
    like = tt;
    place = one_takes_place pins x y (stays_keeps pins x y s sizes);
    few = (let w = s.width in let f = ap (λ (k : Shape). k.fan_out) s.shape in omega (arith, w, f, few), tt);
    lighter = let one = sum_by-cons (λ (p : Part). p.weight) (node_part y) [] in omega (arith, one, less);
  };
  height = s.height;
  counted = let n = ap length none in omega (arith, n);
}

-- a node that stands where another stays
pub place_of_stayed : (pins : TenantPins) (x y : Subtree) (run : List Subtree) → StaysLike x y → TakePlace pins y run → TakePlace pins x run
place_of_stayed pins x y run s p = record {
  tiled = λ high t. let u = p.tiled high (same_tile x y high s t) in (u.0, u.1 ∙ s.low);
  sizes = subst (λ (h : Shape). AreLeafSizes h.leaf (leaves_in (run_parts run))) s.shape p.sizes;
  means = λ key. same_then (pins (tenant_of key)) (ops_in (messages_of x) key) (ops_in (messages_of y) key) (ops_in (run_messages run) key)
      (same_pointwise (pins (tenant_of key)) (ops_in (messages_of x) key) (ops_in (messages_of y) key) (λ n.
      parts_ops y key n
      ∙ (λ i. or_else (s.messages key n i) (ops_in (row_messages (s.leaves i)) key n))
      ∙ sym (parts_ops x key n)))
      (p.means key);
}

pub record Stepped {A : Type 0} (a : Inside A) (v : Vec (Child A) A) (pins : TenantPins) : Type 0 where
  pub is_node : IsNode (record a { children = v })
  pub keeps : KeepsMeaning pins (subtree_of a) (subtree_of (record a { children = v }))
  pub lighter : (subtree_of (record a { children = v })).weight < (subtree_of a).weight

-- the child, in whose place another stays, stepped, and what came behind it stands there
came_from : {A : Type 0} (a : Inside A) (v : Vec (Child A) A) (i : ℕ) (x y z : Subtree) (came : List (Child A)) (pins : TenantPins) → IsNode a → slice_get a.children.items i ≡ Some (in_child.Node x) → StaysLike x y → y.weight ≡ x.weight → StepsAsOne pins y z came → v.items ≡ take (i + 1) (set a.children.items i (in_child.Node z)) ++ (came ++ drop (i + 1) (set a.children.items i (in_child.Node z))) → Stepped a v pins
came_from {A} a v i x y z came pins node at st weight s items = record {
  is_node = whole.is_node;
  keeps = whole.keeps;
  lighter = let w = whole.weight in let l = s.stands.lighter in omega (arith, w, l, weight);
}
  where
    level : IsBelow {A = A} a.height a.shape (in_child.Node x)
    level = level_at a.height a.shape a.children.items i (in_child.Node x) node.level at

    like_x : IsLike x z
    like_x = record { height = s.height ∙ st.height; shape = s.stands.shape ∙ st.shape; block = block_kept y z s.stands.shape s.stands.capacity (st.block level.same.1) }

    all_like : (ts : List Subtree) → AllByRecursion (IsLike z) ts → AllByRecursion (IsLike x) ts
    all_like [] h = tt
    all_like (t ∷ ts) h = (record { height = h.0.height ∙ like_x.height; shape = h.0.shape ∙ like_x.shape; block = h.0.block }, all_like ts h.1)

    whole : Spliced a v x (z ∷ s.stands.run) pins
    whole = spliced a v i x (z ∷ s.stands.run) pins node at (place_of_stayed pins x y (z ∷ s.stands.run) st s.stands.place) (like_x, all_like s.stands.run s.stands.like) s.stands.few (omega arith)
        (items ∙ ap (λ (l : List (Child A)). take (i + 1) (set a.children.items i (in_child.Node z)) ++ (l ++ drop (i + 1) (set a.children.items i (in_child.Node z)))) s.stands.are
        ∙ behind_set a.children.items i (in_child.Node z) (nodes A s.stands.run) (inside_of a.children.items i (in_child.Node x) at))

-- the child stepped, and what came behind it stands there
pub came_in : {A : Type 0} (a : Inside A) (v : Vec (Child A) A) (i : ℕ) (x z : Subtree) (came : List (Child A)) (pins : TenantPins) → IsNode a → slice_get a.children.items i ≡ Some (in_child.Node x) → StepsAsOne pins x z came → v.items ≡ take (i + 1) (set a.children.items i (in_child.Node z)) ++ (came ++ drop (i + 1) (set a.children.items i (in_child.Node z))) → Stepped a v pins
came_in a v i x z came pins node at s items = came_from a v i x x z came pins node at (like_itself x) refl s items

-- the leaves that went with the child, the cache lost
pub came_forgets : {A : Type 0} (a : Inside A) (v : Vec (Child A) A) (i : ℕ) (x z : Subtree) (came : List (Child A)) (cache cache' : Cache) → slice_get a.children.items i ≡ Some (in_child.Node x) → v.items ≡ take (i + 1) (set a.children.items i (in_child.Node z)) ++ (came ++ drop (i + 1) (set a.children.items i (in_child.Node z)))
    → ForgetsCame x z came cache cache' → Forgets (leaves_in (parts_of a.children.items)) (leaves_in (parts_of v.items)) cache cache'
came_forgets {A} a v i x z came cache cache' at items f =
    forgets_within (leaves_in (before_of a i)) x.leaves (z.leaves ++ leaves_of came) (leaves_in (after_of a i)) (leaves_in (parts_of a.children.items)) (leaves_in (parts_of v.items)) cache cache' f
    (ap leaves_in (old_parts a i (in_child.Node x) at) ∙ flat_map-append (λ (p : Part). p.leaves) (before_of a i) (node_part x ∷ after_of a i))
    are
  where
    parts : parts_of v.items ≡ before_of a i ++ ((node_part z ∷ parts_of came) ++ after_of a i)
    parts =
        ap parts_of (items ∙ behind_set a.children.items i (in_child.Node z) came (inside_of a.children.items i (in_child.Node x) at))
        ∙ map-append part_of (take i a.children.items) ((in_child.Node z ∷ came) ++ drop (i + 1) a.children.items)
        ∙ (λ j. sym (take-map part_of i a.children.items) j ++ (map-append part_of (in_child.Node z ∷ came) (drop (i + 1) a.children.items) ∙ (λ k. (node_part z ∷ parts_of came) ++ sym (drop-map part_of (i + 1) a.children.items) k)) j)

    are : leaves_in (parts_of v.items) ≡ leaves_in (before_of a i) ++ ((z.leaves ++ leaves_of came) ++ leaves_in (after_of a i))
    are =
        ap leaves_in parts ∙ flat_map-append (λ (p : Part). p.leaves) (before_of a i) ((node_part z ∷ parts_of came) ++ after_of a i)
        ∙ ap (λ l. leaves_in (before_of a i) ++ l) (flat_map-append (λ (p : Part). p.leaves) (node_part z ∷ parts_of came) (after_of a i))

pub stepped : {A : Type 0} (a : Inside A) (v : Vec (Child A) A) (i bytes : ℕ) (x y z : Subtree) (came : List (Child A)) (pins : TenantPins) → IsNode a → IsNext a i bytes x → IsReallocated x y → StepsAsOne pins y z came → v.items ≡ take (i + 1) (set a.children.items i (in_child.Node z)) ++ (came ++ drop (i + 1) (set a.children.items i (in_child.Node z))) → Stepped a v pins
stepped a v i bytes x y z came pins node n q s items = let st = reallocated_same x y q in came_from a v i x y z came pins node n.at st.0 st.1 s items

pub stepped_forgets : {A : Type 0} (a : Inside A) (v : Vec (Child A) A) (i bytes : ℕ) (x y z : Subtree) (came : List (Child A)) (pins : TenantPins) (cache cache' : Cache) → IsNode a → IsNext a i bytes x → IsReallocated x y → StepsAsOne pins y z came → v.items ≡ take (i + 1) (set a.children.items i (in_child.Node z)) ++ (came ++ drop (i + 1) (set a.children.items i (in_child.Node z)))
    → ForgetsCame y z came cache cache' → Forgets (leaves_in (parts_of a.children.items)) (leaves_in (parts_of v.items)) cache cache'
stepped_forgets a v i bytes x y z came pins cache cache' node n q s items f =
    came_forgets a v i x z came cache cache' n.at items (subst (λ ls. Forgets ls (z.leaves ++ leaves_of came) cache cache') (reallocated_same x y q).0.leaves f)

-- ---- results

pub ok_then : {T E : Type 0} (r : Result T E) {P Q : Type 0} → (P → Q) → OnOk r P → OnOk r Q
ok_then (Ok x) f p = f p
ok_then (Err e) f p = tt
