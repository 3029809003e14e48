-- A node right above leaves, in which the pages of a job's result are in its leaf's place.
use Rattle.std.proofs.Common.{◌≡◌, ◌≢◌, ℕ, ◌+◌, ◌*◌, ◌<◌, ◌≤◌, true, false, List, [], ◌∷◌, ◌++◌, length, map, Some, refl, sym, ap, ◌∙◌, subst, arith, ⊎_elim}
use Rattle.std.specs.Prelude.{Contains, IsSome, slice_get, not, if◌then◌else◌}
use Rattle.std.specs.List.{AllByRecursion, filter}
use Rattle.std.specs.Ordering.{is_eq, eq_by_cmp}
use Rattle.std.specs.declared.vec.Vec.{Vec}
use Rattle.std.proofs.lemmas.List.{length-map}
use Rattle.stow_leaves.specs.StowMerge.Covering.{Covers}
use Rattle.stow_leaves.specs.StowMerge.Pins.{pins_in}
use Rattle.stow_leaves.specs.StowMerge.declared.flush_job.FlushJob.{FlushJob}
use Rattle.stow_leaves.proofs.StowMessage.Ranges.{length-filter}
use Rattle.stow_leaves.specs.StowMessage.MessageBuf.{without_batch}
use Rattle.stow_leaves.specs.StowMessage.Rising.{without, AreHeld}
use Rattle.stow_tree_model.proofs.Latest.{contains_cases}
use Rattle.stow_tree_model.proofs.Orders.{place_cases}
use Rattle.stow_tree_model.proofs.Pruning.{none_in_nothing}
use Rattle.stow_tree_model.specs.Agreement.{TenantPins}
use Rattle.stow_tree_model.specs.Keys.{tenant_of}
use Rattle.stow_tree_model.specs.Merged.{row_message}
use Rattle.stow_tree_model.specs.Messages.{ops_in}
use Rattle.stow_tree_model.specs.Order.{VersionPlace, place_cmp, place_of}
use Rattle.stow_tree_model.specs.TreeMessage.{TreeMessage}
use Rattle.stow_tree_model.specs.Version.{Version}
use Rattle.stow_leaves.specs.StowLeaf.Intervals.{top_key, spans, NoneOutside}
use Rattle.stow_leaves.specs.StowLeaf.LeafRows.{LeafRows, leaf_rows, row_messages, IsLeafTile, LeavesTo}
use Rattle.stow_leaves.specs.StowLeaf.Replacements.{AreThere, IsLeafSize, MeanTheSame}
use Rattle.stow_leaves.specs.StowLeaf.declared.leaf.Leaf.{Leaf}
use Rattle.stow_leaves.proofs.StowLeaf.Found.{none_some, none_unless, some_or, some_left}
use Rattle.stow_leaves.proofs.StowLeaf.Intervals.{by_test}
use Rattle.stow_leaves.proofs.StowLeaf.Over.{above_same, or_none_left}
use Rattle.stow_leaves.specs.Absorbs.{fence_at, ops_above, BatchGoes, CanPutPages, PutsPages, StandsFor}
use Rattle.stow_leaves.proofs.Fences.{fence_is}
use Rattle.stow_leaves.proofs.Parted.{batch_goes}
use Rattle.stow_node.specs.declared.child.Child.{Child}
use Rattle.stow_node.specs.declared.child.Child.TheVariants as in_child
use Rattle.stow_node.specs.declared.node.Node.TheInside.{Inside}
use Rattle.stow_node.specs.Flushes.{KeepsMeaning}
use Rattle.stow_node.specs.Installs.{AreGone, CanInstall, CoversAll}
use Rattle.stow_node.specs.Nodes.{part_of, node_part, parts_of, leaves_of, nearest_in, AreLeaves, subtree_of, IsNode}
use Rattle.stow_node.specs.Parts.{high_of, IsFor, IsTile}
use Rattle.stow_node.specs.Regroups.{Grows}
use Rattle.stow_node.specs.Subtree.{Subtree, messages_of, right_above_leaves}
use Rattle.stow_node.proofs.Entered.{child_at}
use Rattle.stow_node.proofs.Installable.{InstallsHere, installs_at, fence_at_child}
use Rattle.stow_node.proofs.Leaves.{AreRow, row, own, one_tile, children_are_leaves, leaf_there, newer_than_rows}
use Rattle.stow_node.proofs.Planned.{AtPlace, at_place, key_within}
use Rattle.stow_node.proofs.Raised.{whole_tile}
use Rattle.stow_node.proofs.Standing.{outside_tile, stands}
use Rattle.stow_node.proofs.Ways.{are_children}

-- ---- a batch that is taken out

abbrev others_than : TreeMessage → List TreeMessage → List TreeMessage
others_than b ms = filter (λ m. not (is_eq (place_cmp (place_of m) (place_of b)))) ms

one_less : (b : TreeMessage) (ms : List TreeMessage) → Contains ms b → length (others_than b ms) < length ms
one_less b [] c = absurd (none_in_nothing b c)
one_less b (m ∷ ms) c = ⊎_elim
    (λ (e : m ≡ b). ⊎_elim
    (λ (s : (◌≡◌ {A = VersionPlace} (place_of m) (place_of b)) × (eq_by_cmp place_cmp (place_of m) (place_of b) ≡ true)).
    let l = length-filter (λ x. not (is_eq (place_cmp (place_of x) (place_of b)))) ms in
    let k = ap (λ t. length (if not t then m ∷ others_than b ms else others_than b ms)) s.1 in
    omega (arith, l, k))
    (λ (s : (◌≢◌ {A = VersionPlace} (place_of m) (place_of b)) × (eq_by_cmp place_cmp (place_of m) (place_of b) ≡ false)). absurd (s.0 (ap place_of e)))
    (place_cases (place_of m) (place_of b)))
    (λ (r : Contains ms b). by_test (is_eq (place_cmp (place_of m) (place_of b)))
    (λ t. let k = ap (λ t. length (if not t then m ∷ others_than b ms else others_than b ms)) t in let l = one_less b ms r in omega (arith, k, l))
    (λ t. let k = ap (λ t. length (if not t then m ∷ others_than b ms else others_than b ms)) t in let l = one_less b ms r in omega (arith, k, l)))
    (contains_cases m b ms c)

no_more : (bs ms : List TreeMessage) → length (without bs ms) ≤ length ms
no_more [] ms = omega arith
no_more (b ∷ bs) ms = let r = no_more bs (others_than b ms) in let l = length-filter (λ x. not (is_eq (place_cmp (place_of x) (place_of b)))) ms in omega (arith, r, l)

pub fewer : (bs ms : List TreeMessage) → AreHeld bs ms → bs ≢ [] → length (without bs ms) < length ms
fewer [] ms held some = absurd (some refl)
fewer (b ∷ bs) ms held some = let r = no_more bs (others_than b ms) in let l = one_less b ms (held 0 b (omega arith)) in omega (arith, r, l)

-- ---- the leaf of a job

pub record JobLeaf {A : Type 0} (a : Inside A) (i : ℕ) (job : FlushJob A) : Type 0 where
  pub leaf : Leaf A
  pub at : slice_get a.children.items i ≡ Some (in_child.Leaf leaf)
  pub here : InstallsHere (subtree_of a) (high_of (parts_of a.children.items) i) leaf job

pub job_leaf : {A : Type 0} (a : Inside A) (i : ℕ) (job : FlushJob A) (pins : TenantPins) → IsNode a → a.height ≡ 1 → IsFor (parts_of a.children.items) job.target.low_fence i → CanInstall (subtree_of a) job pins → JobLeaf a i job
job_leaf {A} a i job pins node one is can = by_child (child_at a.children.items i inside).0 (child_at a.children.items i inside).1 where
  inside : i < length a.children.items
  inside = let l = is.inside in omega (arith, l, length-map a.children.items part_of)

  by_child : (c : Child A) → slice_get a.children.items i ≡ Some c → JobLeaf a i job
  by_child (in_child.Leaf leaf) at = record {
    leaf = leaf;
    at = at;
    here = installs_at (subtree_of a) a.children.items i leaf job pins (are_children a node) at (fence_at_child a.children.items i (in_child.Leaf leaf) job.target.low_fence is at) can;
  }
  by_child (in_child.Node z) at =
      let child : AtPlace {A = A} a.children.items i (in_child.Node z) a.height a.shape = at_place (subtree_of a) a.children.items i (in_child.Node z) (are_children a node) at in
      let l = child.level.level in
      let h = child.level.same.2 in
      absurd (omega (arith, l, h, one))

pub can_put : {A : Type 0} (a : Inside A) (i : ℕ) (job : FlushJob A) (pins : TenantPins) → IsNode a → a.height ≡ 1 → IsFor (parts_of a.children.items) job.target.low_fence i → CanInstall (subtree_of a) job pins → CanPutPages (leaves_of a.children.items) i job
can_put {A} a i job pins node one is can = record {
  inside = let l = is.inside in let c = was.count in omega (arith, l, c, length-map a.children.items part_of);
  tiled = was.tiled top_key node.tiled;
  sizes = subst (λ t. AllByRecursion (λ (l : LeafRows). IsLeafSize t l.1) (leaves_of a.children.items)) (sym can.target) node.sizes;
  leaf = leaf_rows j.leaf;
  at = leaf_there a.children.items i j.leaf (children_are_leaves a node one) j.at;
  pins = pins;
  is = record {
    page = sym rows;
    tile = subst (IsLeafTile (leaf_rows j.leaf)) (was.end i) (one_tile j.leaf (high_of (parts_of a.children.items) i) child.tile);
    within = subst (λ f. NoneOutside f (fence_at (leaves_of a.children.items) (i + 1)) job.batch.messages) (sym low) (subst (λ h. NoneOutside job.target.low_fence h job.batch.messages) (was.end i) j.here.within);
    covers = subst (λ vs. Covers (pins_in job.pins) pins vs job.batch.messages) (sym rows) can.covered;
  };
}
  where
    j : JobLeaf a i job
    j = job_leaf a i job pins node one is can

    was : AreRow a.children.items
    was = row a.children.items (children_are_leaves a node one)

    child : AtPlace {A = A} a.children.items i (in_child.Leaf j.leaf) a.height a.shape
    child = at_place (subtree_of a) a.children.items i (in_child.Leaf j.leaf) (are_children a node) j.at

    low : j.leaf.low ≡ job.target.low_fence
    low = ap (λ (l : LeafRows). l.0) j.here.is

    rows : j.leaf.rows ≡ job.page
    rows = ap (λ (l : LeafRows). l.1) j.here.is

-- the batch alone goes, and nothing is left of it
batch_alone : (leaves : List LeafRows) (i : ℕ) (batch : List TreeMessage) (rows : List Version) → BatchGoes leaves i batch [] batch rows
batch_alone leaves i batch rows = record { parts = λ key n. refl; newer = λ key n k s t u. absurd (none_some (ops_in [] key n) refl t) }

pub some_come : {A : Type 0} (leaves fresh : List LeafRows) (i : ℕ) (job : FlushJob A) (pins : TenantPins) → CoversAll job pins → PutsPages leaves i job fresh → 0 < length fresh
some_come leaves fresh i job pins covers puts = (puts pins job.batch.messages [] covers (batch_alone leaves i job.batch.messages job.page)).some

-- ---- the node with the fresh leaves, and without the batch

pub record InstalledLeaf {A : Type 0} (a : Inside A) (v : Vec (Child A) A) (job : FlushJob A) : Type 0 where
  pub is_node : IsNode (record a { children = v; buffer = without_batch job.batch.messages a.buffer })
  pub keeps : (pins : TenantPins) → CoversAll job pins → KeepsMeaning pins (subtree_of a) (subtree_of (record a { children = v; buffer = without_batch job.batch.messages a.buffer }))
  pub lighter : (subtree_of (record a { children = v; buffer = without_batch job.batch.messages a.buffer })).weight < (subtree_of a).weight
  pub gone : AreGone job.batch.messages (without job.batch.messages a.buffer.messages)

pub installed_leaf : {A : Type 0} (a : Inside A) (v : Vec (Child A) A) (i : ℕ) (job : FlushJob A) (pins : TenantPins) → IsNode a → a.height ≡ 1 → IsFor (parts_of a.children.items) job.target.low_fence i → CanInstall (subtree_of a) job pins → AreHeld job.batch.messages a.buffer.messages → job.batch.messages ≢ []
    → AreLeaves v.items → PutsPages (leaves_of a.children.items) i job (leaves_of v.items) → LeavesTo top_key (leaves_of v.items) → InstalledLeaf a v job
installed_leaf {A} a v i job pins node one is can held some leaves puts tiled = record {
  is_node = is_node;
  keeps = λ under covers. record {
    low = refl;
    height = refl;
    shape = refl;
    capacity = refl;
    sizes = is_node.sizes;
    tile = λ end t. stands (subtree_of a) (subtree_of new) top_key end refl t (whole_tile new is_node)
        ((stand under covers).fences a.low end t.fences (λ key k. by_test (spans a.low end key) (λ e. e) (λ o. nothing end key t o k)))
        (λ key. (means under covers key).there);
    means = means under covers;
  };
  lighter =
      let times : (c : ℕ) → a.height * c ≡ c = λ c. ap (λ k. k * c) one ∙ omega arith in
      let before = was.weight in
      let after = now.weight in
      let less = fewer batch ms held some in
      omega (arith, times (length ms), times (length left), before, after, less);
  gone = λ key n s. none_unless (ops_in left key n) (λ u.
      let l : n < n = goes.newer key n n (own_key key n s) u (some_left (ops_in batch key n) (ops_in (map row_message job.page) key n) s) in
      omega (arith, l));
}
  where
    ms : List TreeMessage
    ms = a.buffer.messages

    batch : List TreeMessage
    batch = job.batch.messages

    left : List TreeMessage
    left = without batch ms

    new : Inside A
    new = record a { children = v; buffer = without_batch batch a.buffer }

    was : AreRow a.children.items
    was = row a.children.items (children_are_leaves a node one)

    now : AreRow v.items
    now = row v.items leaves

    j : JobLeaf a i job
    j = job_leaf a i job pins node one is can

    put : CanPutPages (leaves_of a.children.items) i job
    put = can_put a i job pins node one is can

    low : fence_at (leaves_of a.children.items) i ≡ job.target.low_fence
    low = fence_is (leaves_of a.children.items) i (leaf_rows j.leaf) (leaf_there a.children.items i j.leaf (children_are_leaves a node one) j.at) ∙ ap (λ (l : LeafRows). l.0) j.here.is

    -- a key of the batch is the leaf's
    own_key : (key : List ℕ) (n : ℕ) → IsSome (ops_in batch key n) → spans (fence_at (leaves_of a.children.items) i) (fence_at (leaves_of a.children.items) (i + 1)) key ≡ true
    own_key key n s = key_within (fence_at (leaves_of a.children.items) i) (fence_at (leaves_of a.children.items) (i + 1)) batch key n
        (subst (λ f. NoneOutside f (fence_at (leaves_of a.children.items) (i + 1)) batch) (sym low) (subst (λ h. NoneOutside job.target.low_fence h batch) (was.end i) j.here.within)) s

    goes : BatchGoes (leaves_of a.children.items) i ms left batch job.page
    goes = batch_goes (leaves_of a.children.items) i ms batch j.here.oldest
        (subst (λ vs. (key : List ℕ) (n k : ℕ) → IsSome (ops_in ms key n) → IsSome (ops_in (map row_message vs) key k) → k < n) (ap (λ (l : LeafRows). l.1) j.here.is) (newer_than_rows a i j.leaf node one j.at).above)

    stand : (under : TenantPins) → CoversAll job under → StandsFor (leaves_of a.children.items) i ms left under job.target.leaf_target (leaves_of v.items)
    stand under covers = puts under ms left covers goes

    below : StandsFor (leaves_of a.children.items) i batch [] pins job.target.leaf_target (leaves_of v.items)
    below = puts pins batch [] can.covered (batch_alone (leaves_of a.children.items) i batch job.page)

    below_means : (key : List ℕ) → MeanTheSame (pins (tenant_of key)) (ops_above batch (leaves_of a.children.items) key) (ops_in (row_messages (leaves_of v.items)) key)
    below_means key = below.means key

    left_was : (key : List ℕ) (n : ℕ) → IsSome (ops_in left key n) → IsSome (ops_in ms key n)
    left_was key n s = subst IsSome (sym (goes.parts key n)) (some_left (ops_in left key n) (ops_in batch key n) s)

    above_old : (key : List ℕ) (n k : ℕ) → IsSome (ops_in left key n) → IsSome (ops_above batch (leaves_of a.children.items) key k) → k < n
    above_old key n k u w = some_or (ops_in batch key k) (ops_in (row_messages (leaves_of a.children.items)) key k)
        (λ b. goes.newer key n k (own_key key k b) u (some_left (ops_in batch key k) (ops_in (map row_message job.page) key k) b))
        (λ r. node.newer.above key n k (left_was key n u) (subst (λ l. IsSome (ops_in (l ++ row_messages (leaves_of a.children.items)) key k)) (sym was.buffered) r)) w

    is_node : IsNode new
    is_node = record {
      tiled = now.tiles top_key tiled;
      first = now.low top_key ∙ below.first ∙ sym (was.low top_key) ∙ node.first;
      level = now.level a.height a.shape one;
      some = let c = now.count in let l = below.some in omega (arith, c, l);
      block = node.block;
      from = record { outside = λ key n o. or_none_left (ops_in left key n) (ops_in batch key n) (sym (goes.parts key n) ∙ node.from.outside key n o) };
      sizes = subst (λ t. AllByRecursion (λ (l : LeafRows). IsLeafSize t l.1) (leaves_of v.items)) can.target below.sizes;
      newer = record {
        above = λ key n k u w. above_same (pins (tenant_of key)) (ops_in left key) (ops_above batch (leaves_of a.children.items) key) (ops_in (row_messages (leaves_of v.items)) key) (above_old key) (below_means key) n k u
            (subst (λ l. IsSome (ops_in (l ++ row_messages (leaves_of v.items)) key k)) now.buffered w);
      };
    }

    means : (under : TenantPins) → CoversAll job under → (key : List ℕ) → MeanTheSame (under (tenant_of key)) (ops_in (messages_of (subtree_of a)) key) (ops_in (messages_of (subtree_of new)) key)
    means under covers key = subst (λ f. MeanTheSame (under (tenant_of key)) f (ops_in (messages_of (subtree_of new)) key)) (sym (own a was key))
        (subst (MeanTheSame (under (tenant_of key)) (ops_above ms (leaves_of a.children.items) key)) (sym (own new now key)) ((stand under covers).means key))

    -- it has no key outside
    nothing : {X : Type 0} (end key : List ℕ) → IsTile (node_part (subtree_of a)) end → spans a.low end key ≡ false → AreThere (ops_above ms (leaves_of a.children.items) key) → X
    nothing end key t o k =
        let u = subst AreThere (sym (own a was key)) k in
        absurd (none_some (ops_in (messages_of (subtree_of a)) key u.0) (outside_tile (subtree_of a) end key u.0 t o) u.1)

-- ---- the nodes that it is cut into

pub gone_grown : {A : Type 0} (pins : TenantPins) (batch : List TreeMessage) (y z : Subtree) (came : List (Child A)) → Grows pins y z came → AreGone batch (right_above_leaves y) → AreGone batch (nearest_in (in_child.Node z ∷ came))
gone_grown {A} pins batch y z came g gone key n s = none_unless (ops_in (nearest_in (in_child.Node z ∷ came)) key n) (λ t.
    none_some (ops_in (right_above_leaves y) key n) (gone key n s)
    (g.nearest key n (subst (λ (l : List (Child A)). IsSome (ops_in (nearest_in (in_child.Node z ∷ l)) key n)) g.are t)))
