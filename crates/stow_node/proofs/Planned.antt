-- A job that could be installed at a child could be at its node.
use Rattle.std.proofs.Common.{zero, suc, ◌≡◌, ◌≢◌, ℕ, ◌<◌, ◌≤◌, true, false, List, [], ◌∷◌, length, get_or, Option, Some, sym, ap, ◌∙◌, subst, arith, inl, ◌⊎◌, ⊎_elim}
use Rattle.std.specs.Prelude.{Contains, IsSome, slice_get, is_some, if◌then◌else◌}
use Rattle.std.proofs.lemmas.List.{length-map}
use Rattle.stow_leaves.proofs.StowMerge.Lists.{all_from_members}
use Rattle.stow_leaves.specs.StowMerge.Covering.{Covers, IsCovered}
use Rattle.stow_leaves.specs.StowMerge.Pins.{pins_in}
use Rattle.stow_leaves.specs.StowMerge.declared.flush_job.FlushJob.{FlushJob}
use Rattle.stow_leaves.specs.StowMessage.Rising.{in_range, AreOldest}
use Rattle.stow_leaves.proofs.StowMessage.RisingLists.{no_path}
use Rattle.stow_tree_model.specs.Agreement.{TenantPins}
use Rattle.stow_tree_model.specs.Messages.{ops_in}
use Rattle.stow_tree_model.specs.Keys.{tenant_of}
use Rattle.stow_tree_model.specs.TreeMessage.{TreeMessage}
use Rattle.stow_tree_model.specs.Version.{Version}
use Rattle.std.proofs.lemmas.List.Elements.{All-from_recursion}
use Rattle.stow_tree_model.proofs.Histories.{ops_in-at}
use Rattle.stow_tree_model.proofs.Latest.{contains_cases}
use Rattle.stow_tree_model.proofs.Pruning.{contains_here, none_in_nothing}
use Rattle.stow_leaves.specs.StowLeaf.Intervals.{top_key, spans, NoneOutside}
use Rattle.stow_leaves.specs.StowLeaf.declared.leaf.Leaf.{Leaf}
use Rattle.stow_leaves.proofs.StowLeaf.Found.{none_some, none_unless, none_or, or_none, some_left, some_right, first_stays}
use Rattle.stow_leaves.proofs.StowLeaf.Intervals.{lt, by_test, lt_self, le_le, span_low, span_high, spanned, not_spanned, under, beyond}
use Rattle.stow_leaves.proofs.StowLeaf.Ops.{ops-append, ops-in_range}
use Rattle.stow_leaves.proofs.StowLeaf.Steps.{inside_of}
use Rattle.stow_node.specs.declared.child.Child.{Child}
use Rattle.stow_node.specs.declared.child.Child.TheVariants as in_child
use Rattle.stow_node.specs.declared.node.Node.TheInside.{Inside}
use Rattle.stow_node.specs.declared.shape.Shape.{Shape}
use Rattle.stow_node.specs.Installs.{next_fence, CanInstall}
use Rattle.stow_node.specs.Nodes.{part_of, node_part, leaf_part, parts_of, nearest_of, nearest_in, subtree_of, IsBelow, IsNode, AreChildren}
use Rattle.stow_node.specs.Parts.{Part, low_or, high_of, IsTile, TiledTo, messages_in, leaves_in}
use Rattle.stow_node.specs.Plans.{IsPlanned}
use Rattle.stow_node.specs.Subtree.{Subtree, buffered, right_above_leaves}
use Rattle.stow_node.proofs.Cut.{some_cond}
use Rattle.stow_node.proofs.Fences.{next_of_part, leaf_of_part, fence_within, within_both}
use Rattle.stow_node.proofs.Nearest.{in_own, out_of_own, none_nearest, nearest_up, nearest_lowest}
use Rattle.stow_node.proofs.Row.{message_taken, messages_apart, at_part, low_below, tile_at}
use Rattle.stow_node.proofs.Stayed.{part_at, level_at}
use Rattle.stow_node.proofs.Ways.{are_children}

-- ---- messages

pub contained_there : (ms : List TreeMessage) (m : TreeMessage) → Contains ms m → IsSome (ops_in ms m.key m.number)
contained_there [] m c = absurd (none_in_nothing m c)
contained_there (x ∷ ms) m c = ⊎_elim
    (λ (e : x ≡ m). subst (λ (y : TreeMessage). IsSome (ops_in (x ∷ ms) y.key y.number)) e (ap is_some (ops_in-at x ms)))
    (λ (t : Contains ms m). first_stays x ms m.key m.number (contained_there ms m t))
    (contains_cases x m ms c)

-- a key that has a message is within what has no message outside
pub key_within : (low high : List ℕ) (ms : List TreeMessage) (key : List ℕ) (n : ℕ) → NoneOutside low high ms → IsSome (ops_in ms key n) → spans low high key ≡ true
key_within low high ms key n w s = by_test (spans low high key) (λ e. e) (λ e. absurd (none_some (ops_in ms key n) (w.outside key n e) s))

pub range_within : (low high : List ℕ) (ms : List TreeMessage) → NoneOutside low high (in_range low high ms)
range_within low high ms = record { outside = λ key n o. out_of_own low high ms key n o }

-- ---- the messages right above the leaves

-- of a key they are those of the child that it belongs to
nearest_at_child : {A : Type 0} (cs : List (Child A)) (i : ℕ) (c : Child A) (key : List ℕ) (n : ℕ) → TiledTo top_key (parts_of cs) → slice_get cs i ≡ Some c → spans (part_of c).low (high_of (parts_of cs) i) key ≡ true → ops_in (nearest_in cs) key n ≡ ops_in (nearest_of c) key n
nearest_at_child [] i c key n t e s = absurd cc
nearest_at_child {A} (x ∷ cs) zero c key n t e s =
    subst (λ (y : Child A). spans (part_of y).low (low_or top_key (parts_of cs)) key ≡ true → ops_in (nearest_in (x ∷ cs)) key n ≡ ops_in (nearest_of y) key n) (same x c e) here s
  where
    same : (x c : Child A) → ◌≡◌ {A = Option (Child A)} (Some x) (Some c) → x ≡ c
    same x c e = cc

    here : spans (part_of x).low (low_or top_key (parts_of cs)) key ≡ true → ops_in (nearest_in (x ∷ cs)) key n ≡ ops_in (nearest_of x) key n
    here w =
        ops-append (in_range (part_of x).low (low_or top_key (parts_of cs)) (nearest_of x)) (nearest_in cs) key n
        ∙ or_none (ops_in (in_range (part_of x).low (low_or top_key (parts_of cs)) (nearest_of x)) key n) (ops_in (nearest_in cs) key n)
        (none_nearest cs key n t.1 (span_high (part_of x).low (low_or top_key (parts_of cs)) key w))
        ∙ in_own (part_of x).low (low_or top_key (parts_of cs)) (nearest_of x) key n w
nearest_at_child {A} (x ∷ cs) (suc i) c key n t e s =
    ops-append (in_range (part_of x).low (low_or top_key (parts_of cs)) (nearest_of x)) (nearest_in cs) key n
    ∙ none_or (ops_in (in_range (part_of x).low (low_or top_key (parts_of cs)) (nearest_of x)) key n) (ops_in (nearest_in cs) key n)
    (out_of_own (part_of x).low (low_or top_key (parts_of cs)) (nearest_of x) key n (beyond (part_of x).low (low_or top_key (parts_of cs)) key (from cs i t.1 e s)))
    ∙ nearest_at_child cs i c key n t.1 e s
  where
    from : (ds : List (Child A)) (j : ℕ) → TiledTo top_key (parts_of ds) → slice_get ds j ≡ Some c → spans (part_of c).low (high_of (parts_of ds) j) key ≡ true → lt key (low_or top_key (parts_of ds)) ≡ false
    from [] j u f w = absurd cc
    from (d ∷ ds) j u f w =
        let p = part_at (d ∷ ds) j c (part_of c) f in
        le_le (part_of d).low (part_of c).low key
        (ap (λ (q : Part). lt q.low (part_of d).low) (sym p) ∙ low_below message_taken top_key (part_of d) (parts_of ds) j (part_of c) (messages_apart top_key (parts_of (d ∷ ds)) u) (inside_parts d ds j f))
        (span_low (part_of c).low (high_of (parts_of (d ∷ ds)) j) key w)
      where
        inside_parts : (d : Child A) (ds : List (Child A)) (j : ℕ) → slice_get (d ∷ ds) j ≡ Some c → j < length (parts_of (d ∷ ds))
        inside_parts d ds zero f = omega arith
        inside_parts d [] (suc j) f = absurd cc
        inside_parts d (x ∷ ds) (suc j) f = let r = inside_parts x ds j f in omega (arith, r)

-- ---- a node above the one that a job could be installed at

-- each key of messages within a leaf's and a child's ends is the child's
pub keys_of_child : (low f high key : List ℕ) (ms : List TreeMessage) (n : ℕ) → spans low high f ≡ true → NoneOutside f high ms → IsSome (ops_in ms key n) → spans low high key ≡ true
keys_of_child low f high key ms n s w there =
    let own = key_within f high ms key n w there in
    spanned low high key (le_le low f key (span_low low high f s) (span_low f high key own)) (span_high f high key own)

-- a child at its place
pub record AtPlace {A : Type 0} (cs : List (Child A)) (i : ℕ) (c : Child A) (height : ℕ) (shape : Shape) : Type 0 where
  pub inside : i < length (parts_of cs)
  pub here : get_or (parts_of cs) i (part_of c) ≡ part_of c
  pub tile : IsTile (part_of c) (high_of (parts_of cs) i)
  pub level : IsBelow {A = A} height shape c

pub at_place : {A : Type 0} (t : Subtree) (cs : List (Child A)) (i : ℕ) (c : Child A) → AreChildren t cs → slice_get cs i ≡ Some c → AtPlace cs i c t.height t.shape
at_place t cs i c stand at = record {
  inside = inside;
  here = here;
  tile = subst (λ p. IsTile p (high_of (parts_of cs) i)) here (tile_at top_key (parts_of cs) i (part_of c) stand.tiled inside);
  level = level_at t.height t.shape cs i c stand.level at;
}
  where
    inside : i < length (parts_of cs)
    inside = omega (arith, inside_of cs i c at, length-map cs part_of)

    here : get_or (parts_of cs) i (part_of c) ≡ part_of c
    here = part_at cs i c (part_of c) at

-- what a child that a job's fence belongs to has of it, the node has
pub record AtFence {A : Type 0} (t : Subtree) (cs : List (Child A)) (i : ℕ) (z : Subtree) (f : List ℕ) : Type 0 where
  pub next : next_fence top_key t.leaves f ≡ next_fence (high_of (parts_of cs) i) z.leaves f
  pub nearest : (key : List ℕ) (n : ℕ) → spans z.low (high_of (parts_of cs) i) key ≡ true → ops_in (right_above_leaves t) key n ≡ ops_in (right_above_leaves z) key n

pub at_fence : {A : Type 0} (t : Subtree) (cs : List (Child A)) (i : ℕ) (z : Subtree) (f : List ℕ) → AreChildren t cs → slice_get cs i ≡ Some (in_child.Node z) → spans z.low (high_of (parts_of cs) i) f ≡ true → AtFence t cs i z f
at_fence {A} t cs i z f stand at own = record {
  next = ap (λ ls. next_fence top_key ls f) stand.leaves
      ∙ next_of_part top_key ps i (node_part z) f stand.tiled child.inside (ap (λ (q : Part). spans q.low (high_of ps i) f) child.here ∙ own)
      ∙ ap (λ (q : Part). next_fence (high_of ps i) q.leaves f) child.here;
  nearest = λ key n s.
      ap (λ ms. ops_in ms key n) (nearest_up t.height t.buffer.messages t.nearest high ∙ stand.nearest)
      ∙ nearest_at_child cs i (in_child.Node z) key n stand.tiled at s;
}
  where
    ps : List Part
    ps = parts_of cs

    child : AtPlace {A = A} cs i (in_child.Node z) t.height t.shape
    child = at_place t cs i (in_child.Node z) stand at

    high : 2 ≤ t.height
    high = let l = child.level.level in let h = child.level.same.2 in omega (arith, l, h)

pub installs_above : {A : Type 0} (t : Subtree) (cs : List (Child A)) (i : ℕ) (z : Subtree) (job : FlushJob A) (pins : TenantPins) → AreChildren t cs → slice_get cs i ≡ Some (in_child.Node z) → NoneOutside job.target.low_fence (high_of (parts_of cs) i) job.batch.messages → CanInstall z job pins → CanInstall t job pins
installs_above {A} t cs i z job pins stand at below can = record {
  leaf = subst (λ ls. Contains ls (job.target.low_fence, job.page)) (sym stand.leaves)
      (leaf_of_part ps i (node_part z) (job.target.low_fence, job.page) child.inside (subst (λ (q : Part). Contains q.leaves (job.target.low_fence, job.page)) (sym child.here) can.leaf));
  target = can.target ∙ ap (λ (s : Shape). s.leaf) child.level.same.0;
  inside = subst (λ h. NoneOutside job.target.low_fence h job.batch.messages) (sym there.next)
      (within_both (high_of ps i) job.target.low_fence z.leaves job.batch.messages can.inside below);
  oldest = λ m c n l.
      there.nearest m.key n (keys_of_child z.low job.target.low_fence (high_of ps i) m.key job.batch.messages m.number own below (contained_there job.batch.messages m c))
      ∙ can.oldest m c n l;
  covered = can.covered;
}
  where
    ps : List Part
    ps = parts_of cs

    child : AtPlace {A = A} cs i (in_child.Node z) t.height t.shape
    child = at_place t cs i (in_child.Node z) stand at

    own : spans z.low (high_of ps i) job.target.low_fence ≡ true
    own = fence_within z.low (high_of ps i) z.leaves (job.target.low_fence, job.page) child.tile.fences can.leaf

    there : AtFence t cs i z job.target.low_fence
    there = at_fence t cs i z job.target.low_fence stand at own

-- .. and so a plan
pub planned_above : {A : Type 0} (a : Inside A) (i : ℕ) (z : Subtree) (job : FlushJob A) (pins : TenantPins) → IsNode a → slice_get a.children.items i ≡ Some (in_child.Node z) → IsPlanned pins z job → IsPlanned pins (subtree_of a) job
planned_above {A} a i z job pins node at p = record {
  some = p.some;
  among = λ key n s. subst IsSome (sym (ops-append a.buffer.messages (messages_in ps) key n))
      (some_right (ops_in a.buffer.messages key n) (ops_in (messages_in ps) key n)
      (subst IsSome (sym (at_part message_taken top_key ps i (node_part z) key n (messages_apart top_key ps node.tiled) child.inside (ap (λ (q : Part). spans q.low (high_of ps i) key) child.here ∙ within key n s)
      ∙ ap (λ (q : Part). ops_in q.messages key n) child.here))
      (p.among key n s)));
  pins = p.pins;
  can = installs_above (subtree_of a) a.children.items i z job pins (are_children a node) at below p.can;
}
  where
    ps : List Part
    ps = parts_of a.children.items

    child : AtPlace {A = A} a.children.items i (in_child.Node z) a.height a.shape
    child = at_place (subtree_of a) a.children.items i (in_child.Node z) (are_children a node) at

    -- the batch is of keys of the child
    within : (key : List ℕ) (n : ℕ) → IsSome (ops_in job.batch.messages key n) → spans z.low (high_of ps i) key ≡ true
    within key n s = key_within z.low (high_of ps i) (buffered z) key n child.tile.messages (p.among key n s)

    below : NoneOutside job.target.low_fence (high_of ps i) job.batch.messages
    below = record {
      outside = λ key n o. not_spanned job.target.low_fence (high_of ps i) key o
          (λ l. p.can.inside.outside key n (under job.target.low_fence (next_fence top_key z.leaves job.target.low_fence) key l))
          (λ _ h. none_unless (ops_in job.batch.messages key n) (λ s. no_path (sym h ∙ span_high z.low (high_of ps i) key (within key n s))));
    }

-- ---- a node right above leaves

-- pins cover what was merged under the same pins
covered_itself : (used present : TenantPins) (rows : List Version) (batch : List TreeMessage) → ((t : ℕ) → used t ≡ present t) → Covers used present rows batch
covered_itself used present rows batch same = record {
  rows_covered = All-from_recursion (λ (v : Version). IsCovered (used (tenant_of v.key)) (present (tenant_of v.key)) v.number) rows
      (all_from_members (λ (v : Version). IsCovered (used (tenant_of v.key)) (present (tenant_of v.key)) v.number) rows (λ v c. each (tenant_of v.key) v.number));
  batch_covered = All-from_recursion (λ (m : TreeMessage). IsCovered (used (tenant_of m.key)) (present (tenant_of m.key)) m.number) batch
      (all_from_members (λ (m : TreeMessage). IsCovered (used (tenant_of m.key)) (present (tenant_of m.key)) m.number) batch (λ m c. each (tenant_of m.key) m.number));
}
  where
    each : (t n : ℕ) → IsCovered (used t) (present t) n
    each t n = All-from_recursion (λ pin. Contains (used t) pin ⊎ n ≤ pin) (present t)
        (all_from_members (λ pin. Contains (used t) pin ⊎ n ≤ pin) (present t) (λ pin c. inl (subst (λ l. Contains l pin) (sym (same t)) c)))

-- the next fence above a leaf's is where the leaf ends
pub leaf_next : {A : Type 0} (t : Subtree) (cs : List (Child A)) (i : ℕ) (leaf : Leaf A) (f : List ℕ) → AreChildren t cs → slice_get cs i ≡ Some (in_child.Leaf leaf) → leaf.low ≡ f → next_fence top_key t.leaves f ≡ high_of (parts_of cs) i
leaf_next {A} t cs i leaf f stand at low =
    ap (λ ls. next_fence top_key ls f) stand.leaves
    ∙ ap (next_fence top_key (leaves_in ps)) (sym low)
    ∙ next_of_part top_key ps i (leaf_part leaf) leaf.low stand.tiled child.inside (ap (λ (q : Part). spans q.low (high_of ps i) leaf.low) child.here ∙ child.tile.fences.0)
    ∙ ap (λ (q : Part). next_fence (high_of ps i) q.leaves leaf.low) child.here
    ∙ ap (λ b. if b then leaf.low else high_of ps i) (lt_self leaf.low)
  where
    ps : List Part
    ps = parts_of cs

    child : AtPlace {A = A} cs i (in_child.Leaf leaf) t.height t.shape
    child = at_place t cs i (in_child.Leaf leaf) stand at

pub installs_here : {A : Type 0} (t : Subtree) (cs : List (Child A)) (i : ℕ) (leaf : Leaf A) (job : FlushJob A) (pins : TenantPins) → AreChildren t cs → slice_get cs i ≡ Some (in_child.Leaf leaf)
    → leaf.low ≡ job.target.low_fence → leaf.rows ≡ job.page → job.target.leaf_target ≡ t.shape.leaf
    → NoneOutside job.target.low_fence (high_of (parts_of cs) i) job.batch.messages → AreOldest job.batch.messages t.buffer.messages → Covers (pins_in job.pins) pins job.page job.batch.messages → CanInstall t job pins
installs_here {A} t cs i leaf job pins stand at low rows target inside oldest covered = record {
  leaf = subst (λ ls. Contains ls (job.target.low_fence, job.page)) (sym stand.leaves)
      (leaf_of_part ps i (leaf_part leaf) (job.target.low_fence, job.page) child.inside (subst (λ (q : Part). Contains q.leaves (job.target.low_fence, job.page)) (sym child.here)
      (subst (Contains ((leaf.low, leaf.rows) ∷ [])) (λ j. (low j, rows j)) (contains_here (leaf.low, leaf.rows) []))));
  target = target;
  inside = subst (λ h. NoneOutside job.target.low_fence h job.batch.messages) (sym (leaf_next t cs i leaf job.target.low_fence stand at low)) inside;
  oldest = λ m c n l. ap (λ ms. ops_in ms m.key n) (nearest_lowest t.height t.buffer.messages t.nearest (sym child.level.level)) ∙ oldest m c n l;
  covered = covered;
}
  where
    ps : List Part
    ps = parts_of cs

    child : AtPlace {A = A} cs i (in_child.Leaf leaf) t.height t.shape
    child = at_place t cs i (in_child.Leaf leaf) stand at

pub planned_here : {A : Type 0} (a : Inside A) (i : ℕ) (leaf : Leaf A) (job : FlushJob A) (pins : TenantPins) → IsNode a → slice_get a.children.items i ≡ Some (in_child.Leaf leaf)
    → job.page ≡ leaf.rows → job.target.low_fence ≡ leaf.low → job.target.leaf_target ≡ a.shape.leaf
    → job.batch.messages ≡ in_range leaf.low (high_of (parts_of a.children.items) i) a.buffer.messages → job.batch.messages ≢ []
    → ((tenant : ℕ) → pins_in job.pins tenant ≡ pins tenant) → IsPlanned pins (subtree_of a) job
planned_here {A} a i leaf job pins node at page low target batch some same = record {
  some = some;
  among = λ key n s. subst IsSome (sym (ops-append a.buffer.messages (messages_in ps) key n))
      (some_left (ops_in a.buffer.messages key n) (ops_in (messages_in ps) key n)
      (some_cond (spans leaf.low (high_of ps i) key) (ops_in a.buffer.messages key n) (subst IsSome (ap (λ ms. ops_in ms key n) batch ∙ ops-in_range leaf.low (high_of ps i) a.buffer.messages key n) s)));
  pins = same;
  can = installs_here (subtree_of a) a.children.items i leaf job pins (are_children a node) at (sym low) (sym page) target
      (subst (λ f. NoneOutside f (high_of ps i) job.batch.messages) (sym low) own)
      (λ m c n l. sym (in_own leaf.low (high_of ps i) a.buffer.messages m.key n (key_within leaf.low (high_of ps i) job.batch.messages m.key m.number own (contained_there job.batch.messages m c))) ∙ sym (ap (λ ms. ops_in ms m.key n) batch))
      (covered_itself (pins_in job.pins) pins job.page job.batch.messages same);
}
  where
    ps : List Part
    ps = parts_of a.children.items

    own : NoneOutside leaf.low (high_of ps i) job.batch.messages
    own = subst (NoneOutside leaf.low (high_of ps i)) (sym batch) (range_within leaf.low (high_of ps i) a.buffer.messages)
