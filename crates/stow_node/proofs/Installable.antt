-- Where a job's result can be installed at a node, it can be at the child that its fence belongs to.
use Rattle.std.proofs.Common.{zero, suc, ◌≡◌, ℕ, ◌<◌, Bool, true, false, List, [], ◌∷◌, length, get_or, Some, sym, ap, ◌∙◌, subst, arith, ⊎_elim}
use Rattle.std.specs.Prelude.{Contains, IsTrue, slice_get, if◌then◌else◌}
use Rattle.std.proofs.lemmas.List.{length-map}
use Rattle.std.proofs.lemmas.Option.{slice_get-get_or}
use Rattle.std.specs.List.{AllByRecursion}
use Rattle.std.proofs.lemmas.List.Elements.{Contains-append_cases}
use Rattle.stow_leaves.specs.StowMerge.declared.flush_job.FlushJob.{FlushJob}
use Rattle.stow_leaves.proofs.StowMessage.RisingLists.{no_path}
use Rattle.stow_leaves.specs.StowMessage.Rising.{AreOldest}
use Rattle.stow_tree_model.proofs.Latest.{contains_cases}
use Rattle.stow_tree_model.proofs.Pruning.{none_in_nothing}
use Rattle.stow_tree_model.specs.Agreement.{TenantPins}
use Rattle.stow_tree_model.specs.Messages.{ops_in}
use Rattle.stow_tree_model.specs.TreeMessage.{TreeMessage}
use Rattle.stow_leaves.specs.StowLeaf.Intervals.{top_key, spans, NoneOutside}
use Rattle.stow_leaves.specs.StowLeaf.LeafRows.{LeafRows, leaf_rows}
use Rattle.stow_leaves.specs.StowLeaf.declared.leaf.Leaf.{Leaf}
use Rattle.stow_leaves.proofs.StowLeaf.Intervals.{lt, by_test, lt_self, lt_le, le_le, lt_not, span_low, span_high, spanned}
use Rattle.stow_node.specs.declared.child.Child.{Child}
use Rattle.stow_node.specs.declared.child.Child.TheVariants as in_child
use Rattle.stow_node.specs.declared.node.Node.TheInside.{Inside}
use Rattle.stow_node.specs.declared.shape.Shape.{Shape}
use Rattle.stow_node.specs.Installs.{next_fence, CanInstall, IsAsPlanned}
use Rattle.stow_node.specs.Nodes.{part_of, node_part, leaf_part, parts_of, AreChildren, subtree_of, IsNode}
use Rattle.stow_node.specs.Parts.{Part, low_or, end_of, high_of, IsFor, IsTile, TiledTo, leaves_in}
use Rattle.stow_node.specs.Subtree.{Subtree}
use Rattle.stow_node.proofs.Entered.{child_at}
use Rattle.stow_node.proofs.Fences.{fence_within}
use Rattle.stow_node.proofs.Lowered.{end_at_most}
use Rattle.stow_node.proofs.Planned.{contained_there, keys_of_child, AtPlace, at_place, AtFence, at_fence, leaf_next, installs_above, installs_here}
use Rattle.stow_node.proofs.Nearest.{nearest_lowest}
use Rattle.stow_node.proofs.Raised.{row_fences, whole_tile}
use Rattle.stow_node.proofs.Row.{message_taken, messages_apart, low_below}
use Rattle.stow_node.proofs.Stayed.{part_at}

-- ---- fences

-- a leaf whose fence is a part's own is the part's
pub leaf_in_part : (high : List ℕ) (ps : List Part) (i : ℕ) (d : Part) (leaf : LeafRows) → TiledTo high ps → i < length ps → spans (get_or ps i d).low (end_of high ps i) leaf.0 ≡ true → Contains (leaves_in ps) leaf → Contains (get_or ps i d).leaves leaf
leaf_in_part high [] i d leaf t l s c = absurd (omega arith)
leaf_in_part high (p ∷ ps) zero d leaf t l s c = ⊎_elim
    (λ (x : Contains p.leaves leaf). x)
    (λ (x : Contains (leaves_in ps) leaf). absurd (no_path (sym (span_low (low_or high ps) high leaf.0 (fence_within (low_or high ps) high (leaves_in ps) leaf (row_fences high ps t.1) x)) ∙ span_high p.low (low_or high ps) leaf.0 s)))
    (Contains-append_cases p.leaves (leaves_in ps) leaf c)
leaf_in_part high (p ∷ []) (suc i) d leaf t l s c = absurd (omega arith)
leaf_in_part high (p ∷ q ∷ qs) (suc i) d leaf t l s c = ⊎_elim
    (λ (x : Contains p.leaves leaf). absurd (no_path (sym from ∙ span_high p.low q.low leaf.0 (fence_within p.low q.low p.leaves leaf t.0.fences x))))
    (λ (x : Contains (leaves_in (q ∷ qs)) leaf). leaf_in_part high (q ∷ qs) i d leaf t.1 (omega arith) s x)
    (Contains-append_cases p.leaves (leaves_in (q ∷ qs)) leaf c)
  where
    from : lt leaf.0 q.low ≡ false
    from = le_le q.low (get_or (q ∷ qs) i d).low leaf.0 (low_below message_taken high q qs i d (messages_apart high (q ∷ qs) t.1) (omega (arith, l))) (span_low (get_or (q ∷ qs) i d).low (end_of high (q ∷ qs) i) leaf.0 s)

-- the next fence is not above the end
pub next_at_most : (low high f : List ℕ) (ls : List LeafRows) → AllByRecursion (λ (l : LeafRows). spans low high l.0 ≡ true) ls → lt high (next_fence high ls f) ≡ false
next_at_most low high f [] a = lt_self high
next_at_most low high f (l ∷ ls) a = by_test (lt f l.0)
    (λ e. ap (λ t. lt high (if t then l.0 else next_fence high ls f)) e ∙ lt_not l.0 high (span_high low high l.0 a.0))
    (λ e. ap (λ t. lt high (if t then l.0 else next_fence high ls f)) e ∙ next_at_most low high f ls a.1)

-- with a higher end it is no lower
next_rises : (high end f : List ℕ) (ls : List LeafRows) → lt end high ≡ false → lt (next_fence end ls f) (next_fence high ls f) ≡ false
next_rises high end f [] l = l
next_rises high end f (x ∷ ls) l = by_test (lt f x.0)
    (λ e. ap (λ t. lt (if t then x.0 else next_fence end ls f) (if t then x.0 else next_fence high ls f)) e ∙ lt_self x.0)
    (λ e. ap (λ t. lt (if t then x.0 else next_fence end ls f) (if t then x.0 else next_fence high ls f)) e ∙ next_rises high end f ls l)

-- no message is outside a wider interval
pub none_wider : (low high end : List ℕ) (ms : List TreeMessage) → lt end high ≡ false → NoneOutside low high ms → NoneOutside low end ms
none_wider low high end ms l w = record {
  outside = λ key n o. w.outside key n (by_test (spans low high key)
      (λ s. absurd (no_path (sym o ∙ spanned low end key (span_low low high key s) (lt_le key high end (span_high low high key s) l))))
      (λ s. s));
}

-- ---- a node above nodes

pub record InstallsBelow {A : Type 0} (high : List ℕ) (z : Subtree) (job : FlushJob A) (pins : TenantPins) : Type 0 where
  pub within : NoneOutside job.target.low_fence high job.batch.messages
  pub can : CanInstall z job pins

pub installs_below : {A : Type 0} (t : Subtree) (cs : List (Child A)) (i : ℕ) (z : Subtree) (job : FlushJob A) (pins : TenantPins) → AreChildren t cs → slice_get cs i ≡ Some (in_child.Node z) → spans z.low (high_of (parts_of cs) i) job.target.low_fence ≡ true → CanInstall t job pins → InstallsBelow (high_of (parts_of cs) i) z job pins
installs_below {A} t cs i z job pins stand at own can = record {
  within = within;
  can = record {
    leaf = subst (λ (q : Part). Contains q.leaves (job.target.low_fence, job.page)) child.here
        (leaf_in_part top_key ps i (node_part z) (job.target.low_fence, job.page) stand.tiled child.inside (ap (λ (q : Part). spans q.low (high_of ps i) job.target.low_fence) child.here ∙ own)
        (subst (λ ls. Contains ls (job.target.low_fence, job.page)) stand.leaves can.leaf));
    target = can.target ∙ ap (λ (s : Shape). s.leaf) (sym child.level.same.0);
    inside = none_wider job.target.low_fence (next_fence (high_of ps i) z.leaves job.target.low_fence) (next_fence top_key z.leaves job.target.low_fence) job.batch.messages
        (next_rises (high_of ps i) top_key job.target.low_fence z.leaves (end_at_most message_taken top_key ps i (messages_apart top_key ps stand.tiled) child.inside)) inside;
    oldest = λ m c n l.
        sym (there.nearest m.key n (keys_of_child z.low job.target.low_fence (high_of ps i) m.key job.batch.messages m.number own within (contained_there job.batch.messages m c)))
        ∙ can.oldest m c n l;
    covered = can.covered;
  };
}
  where
    ps : List Part
    ps = parts_of cs

    child : AtPlace {A = A} cs i (in_child.Node z) t.height t.shape
    child = at_place t cs i (in_child.Node z) stand at

    there : AtFence t cs i z job.target.low_fence
    there = at_fence t cs i z job.target.low_fence stand at own

    inside : NoneOutside job.target.low_fence (next_fence (high_of ps i) z.leaves job.target.low_fence) job.batch.messages
    inside = subst (λ h. NoneOutside job.target.low_fence h job.batch.messages) there.next can.inside

    within : NoneOutside job.target.low_fence (high_of ps i) job.batch.messages
    within = none_wider job.target.low_fence (next_fence (high_of ps i) z.leaves job.target.low_fence) (high_of ps i) job.batch.messages
        (next_at_most z.low (high_of ps i) job.target.low_fence z.leaves child.tile.fences) inside

-- ---- a node right above leaves

pub record InstallsHere {A : Type 0} (t : Subtree) (high : List ℕ) (leaf : Leaf A) (job : FlushJob A) : Type 0 where
  pub is : ◌≡◌ {A = LeafRows} (leaf_rows leaf) (job.target.low_fence, job.page)
  pub within : NoneOutside job.target.low_fence high job.batch.messages
  pub oldest : AreOldest job.batch.messages t.buffer.messages

pub installs_at : {A : Type 0} (t : Subtree) (cs : List (Child A)) (i : ℕ) (leaf : Leaf A) (job : FlushJob A) (pins : TenantPins) → AreChildren t cs → slice_get cs i ≡ Some (in_child.Leaf leaf) → spans leaf.low (high_of (parts_of cs) i) job.target.low_fence ≡ true → CanInstall t job pins → InstallsHere t (high_of (parts_of cs) i) leaf job
installs_at {A} t cs i leaf job pins stand at own can = record {
  is = is;
  within = subst (λ h. NoneOutside job.target.low_fence h job.batch.messages) (leaf_next t cs i leaf job.target.low_fence stand at (ap (λ (l : LeafRows). l.0) is)) can.inside;
  oldest = λ m c n l. sym (ap (λ ms. ops_in ms m.key n) (nearest_lowest t.height t.buffer.messages t.nearest (sym child.level.level))) ∙ can.oldest m c n l;
}
  where
    ps : List Part
    ps = parts_of cs

    child : AtPlace {A = A} cs i (in_child.Leaf leaf) t.height t.shape
    child = at_place t cs i (in_child.Leaf leaf) stand at

    is : ◌≡◌ {A = LeafRows} (leaf_rows leaf) (job.target.low_fence, job.page)
    is = ⊎_elim
        (λ (e : ◌≡◌ {A = LeafRows} (leaf_rows leaf) (job.target.low_fence, job.page)). e)
        (λ (c : Contains [] (job.target.low_fence, job.page)). absurd (none_in_nothing (job.target.low_fence, job.page) c))
        (contains_cases (leaf_rows leaf) (job.target.low_fence, job.page) []
        (subst (λ (q : Part). Contains q.leaves (job.target.low_fence, job.page)) child.here
        (leaf_in_part top_key ps i (leaf_part leaf) (job.target.low_fence, job.page) stand.tiled child.inside (ap (λ (q : Part). spans q.low (high_of ps i) job.target.low_fence) child.here ∙ own)
        (subst (λ ls. Contains ls (job.target.low_fence, job.page)) stand.leaves can.leaf))))

-- ---- the child that the job's fence belongs to

pub fence_at_child : {A : Type 0} (cs : List (Child A)) (i : ℕ) (c : Child A) (f : List ℕ) → IsFor (parts_of cs) f i → slice_get cs i ≡ Some c → spans (part_of c).low (high_of (parts_of cs) i) f ≡ true
fence_at_child cs i c f is at = ap (λ (q : Part). spans q.low (high_of (parts_of cs) i) f) (sym (part_at cs i c (part_of c) at)) ∙ is.spanned (part_of c)

-- where a key of the batch is not the child's, nothing can be installed
pub spot_outside : {A : Type 0} (t : Subtree) (cs : List (Child A)) (i : ℕ) (job : FlushJob A) (pins : TenantPins) → AreChildren t cs → IsFor (parts_of cs) job.target.low_fence i → CanInstall t job pins → NoneOutside job.target.low_fence (high_of (parts_of cs) i) job.batch.messages
spot_outside {A} t cs i job pins stand is can = by_child (child_at cs i inside).0 (child_at cs i inside).1 where
  inside : i < length cs
  inside = let l = is.inside in omega (arith, l, length-map cs part_of)

  by_child : (c : Child A) → slice_get cs i ≡ Some c → NoneOutside job.target.low_fence (high_of (parts_of cs) i) job.batch.messages
  by_child (in_child.Leaf leaf) at = (installs_at t cs i leaf job pins stand at (fence_at_child cs i (in_child.Leaf leaf) job.target.low_fence is at) can).within
  by_child (in_child.Node z) at = (installs_below t cs i z job pins stand at (fence_at_child cs i (in_child.Node z) job.target.low_fence is at) can).within

pub spot_below : {A : Type 0} (t : Subtree) (cs : List (Child A)) (i : ℕ) (z : Subtree) (job : FlushJob A) (pins : TenantPins) (b : Bool) → AreChildren t cs → slice_get cs i ≡ Some (in_child.Node z) → IsFor (parts_of cs) job.target.low_fence i → NoneOutside job.target.low_fence (high_of (parts_of cs) i) job.batch.messages
    → (IsTrue b → CanInstall z job pins) × (CanInstall z job pins → IsTrue b) → (IsTrue b → CanInstall t job pins) × (CanInstall t job pins → IsTrue b)
spot_below t cs i z job pins b stand at is within h = (
  λ e. installs_above t cs i z job pins stand at within (h.0 e),
  λ can. h.1 (installs_below t cs i z job pins stand at (fence_at_child cs i (in_child.Node z) job.target.low_fence is at) can).can,
)

pub spot_here : {A : Type 0} (t : Subtree) (cs : List (Child A)) (i : ℕ) (leaf : Leaf A) (job : FlushJob A) (pins : TenantPins) (b : Bool) → AreChildren t cs → slice_get cs i ≡ Some (in_child.Leaf leaf) → IsFor (parts_of cs) job.target.low_fence i → NoneOutside job.target.low_fence (high_of (parts_of cs) i) job.batch.messages
    → (IsTrue b → IsAsPlanned leaf t job pins) × (IsAsPlanned leaf t job pins → IsTrue b) → (IsTrue b → CanInstall t job pins) × (CanInstall t job pins → IsTrue b)
spot_here t cs i leaf job pins b stand at is within h = (
  λ e. let all = h.0 e in installs_here t cs i leaf job pins stand at all.0.0 all.0.1 all.1.0 within all.1.1.0 all.1.1.1,
  λ can.
      let here = installs_at t cs i leaf job pins stand at (fence_at_child cs i (in_child.Leaf leaf) job.target.low_fence is at) can in
      h.1 ((ap (λ (l : LeafRows). l.0) here.is, ap (λ (l : LeafRows). l.1) here.is), (can.target, (here.oldest, can.covered))),
)

-- a node that may not hold the fence has no leaf there
pub fence_held : (t : Subtree) (leaf : LeafRows) → IsTile (node_part t) top_key → Contains t.leaves leaf → spans t.low top_key leaf.0 ≡ true
fence_held t leaf tile c = fence_within t.low top_key t.leaves leaf tile.fences c

-- the child that was looked into
pub child_is : {A : Type 0} (cs : List (Child A)) (i : ℕ) (c x : Child A) (f : List ℕ) → IsFor (parts_of cs) f i → c ≡ get_or cs i c → c ≡ x → slice_get cs i ≡ Some x
child_is cs i c x f is here e = slice_get-get_or cs i c (let l = is.inside in omega (arith, l, length-map cs part_of)) ∙ ap (λ d. Some d) (sym here ∙ e)

-- .. where it is a node
pub record LowerNode (t z : Subtree) (f : List ℕ) : Type 0 where
  pub lower : z.height < t.height
  pub spanned : spans z.low top_key f ≡ true

pub lower_node : {A : Type 0} (t : Subtree) (cs : List (Child A)) (i : ℕ) (z : Subtree) (f : List ℕ) → AreChildren t cs → IsFor (parts_of cs) f i → slice_get cs i ≡ Some (in_child.Node z) → LowerNode t z f
lower_node {A} t cs i z f stand is at = record {
  lower = let l = child.level.level in omega (arith, l);
  spanned = spanned z.low top_key f (span_low z.low (high_of (parts_of cs) i) f own) (lt_le f (high_of (parts_of cs) i) top_key (span_high z.low (high_of (parts_of cs) i) f own) (end_at_most message_taken top_key (parts_of cs) i (messages_apart top_key (parts_of cs) stand.tiled) child.inside));
}
  where
    child : AtPlace {A = A} cs i (in_child.Node z) t.height t.shape
    child = at_place t cs i (in_child.Node z) stand at

    own : spans z.low (high_of (parts_of cs) i) f ≡ true
    own = fence_at_child cs i (in_child.Node z) f is at

-- the fence is of one of the node's children
pub fence_inside : {A : Type 0} (a : Inside A) (job : FlushJob A) (pins : TenantPins) → IsNode a → CanInstall (subtree_of a) job pins → spans (low_or top_key (parts_of a.children.items)) top_key job.target.low_fence ≡ true
fence_inside a job pins node can = ap (λ low. spans low top_key job.target.low_fence) node.first ∙ fence_held (subtree_of a) (job.target.low_fence, job.page) (whole_tile a node) can.leaf
