-- A node above nodes, into a child of which a job's pages came.
use Rattle.std.proofs.Common.{zero, suc, ◌≡◌, ℕ, ◌+◌, ◌*◌, ◌<◌, ◌≤◌, true, List, [], ◌∷◌, ◌++◌, length, take, drop, set, Option, Some, refl, sym, ap, ◌∙◌, subst, arith}
use Rattle.std.specs.Prelude.{slice_get}
use Rattle.std.specs.List.{AllByRecursion}
use Rattle.std.specs.declared.vec.Vec.{Vec}
use Rattle.std.proofs.lemmas.List.{drop-map}
use Rattle.stow_leaves.specs.StowMerge.declared.flush_job.FlushJob.{FlushJob}
use Rattle.stow_tree_model.specs.Agreement.{TenantPins}
use Rattle.stow_tree_model.specs.Messages.{ops_in}
use Rattle.stow_leaves.specs.StowLeaf.Intervals.{top_key, spans}
use Rattle.stow_leaves.specs.StowLeaf.LeafRows.{row_messages}
use Rattle.stow_leaves.specs.StowLeaf.declared.leaf.Leaf.{Leaf}
use Rattle.stow_leaves.proofs.StowLeaf.Intervals.{lt, span_low, span_high}
use Rattle.stow_leaves.proofs.StowLeaf.Steps.{inside_of}
use Rattle.stow_node.specs.declared.child.Child.{Child}
use Rattle.stow_node.specs.declared.child.Child.TheVariants as in_child
use Rattle.stow_node.specs.declared.node.Node.TheInside.{Inside}
use Rattle.stow_node.specs.Installs.{AreGone, CanInstall}
use Rattle.stow_node.specs.Nodes.{part_of, parts_of, nearest_in, deepest_in, AreNewer, AreLeafSizes, IsBelow, subtree_of, IsNode}
use Rattle.stow_node.specs.Parts.{Part, low_or, end_of, high_of, IsFor, TiledTo, messages_in, leaves_in, weight_in}
use Rattle.stow_node.specs.Regroups.{StepsAsOne}
use Rattle.stow_node.specs.Subtree.{Subtree, right_above_leaves}
use Rattle.stow_node.proofs.Installable.{InstallsBelow, installs_below, fence_at_child}
use Rattle.stow_node.proofs.Nearest.{nearest_up, nearest_front, nearest_behind, rest_tiled}
use Rattle.stow_node.proofs.Planned.{AtPlace, at_place, keys_of_child}
use Rattle.stow_node.proofs.Stepping.{behind_set}
use Rattle.stow_node.proofs.Ways.{are_children}

-- the child that a job's fence belongs to, of a node above nodes
pub record JobNode {A : Type 0} (a : Inside A) (i : ℕ) (x : Subtree) (job : FlushJob A) (pins : TenantPins) : Type 0 where
  pub at : slice_get a.children.items i ≡ Some (in_child.Node x)
  pub place : AtPlace {A = A} a.children.items i (in_child.Node x) a.height a.shape
  pub own : spans x.low (high_of (parts_of a.children.items) i) job.target.low_fence ≡ true
  pub below : InstallsBelow (high_of (parts_of a.children.items) i) x job pins
  pub up : 2 ≤ a.height
  pub lower : x.height < a.height

pub job_node : {A : Type 0} (a : Inside A) (i : ℕ) (x : Subtree) (job : FlushJob A) (pins : TenantPins) → IsNode a → IsFor (parts_of a.children.items) job.target.low_fence i → CanInstall (subtree_of a) job pins → slice_get a.children.items i ≡ Some (in_child.Node x) → JobNode a i x job pins
job_node {A} a i x job pins node is can at = record {
  at = at;
  place = child;
  own = own;
  below = installs_below (subtree_of a) a.children.items i x job pins (are_children a node) at own can;
  up = let l = child.level.level in let h = child.level.same.2 in omega (arith, l, h);
  lower = let l = child.level.level in omega (arith, l);
}
  where
    child : AtPlace {A = A} a.children.items i (in_child.Node x) a.height a.shape
    child = at_place (subtree_of a) a.children.items i (in_child.Node x) (are_children a node) at

    own : spans x.low (high_of (parts_of a.children.items) i) job.target.low_fence ≡ true
    own = fence_at_child a.children.items i (in_child.Node x) job.target.low_fence is at

-- above nodes no child is a leaf
pub no_leaf : {A : Type 0} (a : Inside A) (i : ℕ) (leaf : Leaf A) → IsNode a → (a.height ≡ 1 → ⊥) → slice_get a.children.items i ≡ Some (in_child.Leaf leaf) → ⊥
no_leaf {A} a i leaf node up at =
    let child : AtPlace {A = A} a.children.items i (in_child.Leaf leaf) a.height a.shape = at_place (subtree_of a) a.children.items i (in_child.Leaf leaf) (are_children a node) at in
    up (sym child.level.level)

end_is : (high : List ℕ) (ps : List Part) (i : ℕ) → end_of high ps i ≡ low_or high (drop (i + 1) ps)
end_is high [] zero = refl
end_is high [] (suc i) = let e : suc (i + 1) ≡ suc i + 1 = omega arith in ap (λ n. low_or high (drop n [])) e
end_is high (p ∷ ps) zero = refl
end_is high (p ∷ ps) (suc i) = let e : suc (i + 1) ≡ suc i + 1 = omega arith in end_is high ps i ∙ ap (λ n. low_or high (drop n (p ∷ ps))) e

-- what is gone right above the child's leaves is gone right above the node's
pub gone_through : {A : Type 0} (a : Inside A) (v : Vec (Child A) A) (i : ℕ) (x z : Subtree) (came : List (Child A)) (job : FlushJob A) (pins : TenantPins) → JobNode a i x job pins → IsNode (record a { children = v }) → StepsAsOne pins x z came → v.items ≡ take (i + 1) (set a.children.items i (in_child.Node z)) ++ (came ++ drop (i + 1) (set a.children.items i (in_child.Node z)))
    → AreGone job.batch.messages (nearest_in (in_child.Node z ∷ came)) → AreGone job.batch.messages (right_above_leaves (subtree_of (record a { children = v })))
gone_through {A} a v i x z came job pins j node s items gone key n there =
    ap (λ ms. ops_in ms key n) (nearest_up a.height a.buffer.messages (nearest_in v.items) j.up ∙ ap nearest_in are)
    ∙ nearest_behind front (run ++ back) key n tiled (ap (lt key) low ∙ span_low x.low high key own)
    ∙ nearest_front run back key n (rest_tiled front (run ++ back) tiled) (ap (lt key) (ap (low_or top_key) (sym (drop-map part_of (i + 1) a.children.items)) ∙ sym (end_is top_key (parts_of a.children.items) i)) ∙ span_high x.low high key own)
    ∙ gone key n there
  where
    high : List ℕ
    high = high_of (parts_of a.children.items) i

    front : List (Child A)
    front = take i a.children.items

    run : List (Child A)
    run = in_child.Node z ∷ came

    back : List (Child A)
    back = drop (i + 1) a.children.items

    are : v.items ≡ front ++ (run ++ back)
    are = items ∙ behind_set a.children.items i (in_child.Node z) came (inside_of a.children.items i (in_child.Node x) j.at)

    tiled : TiledTo top_key (parts_of (front ++ (run ++ back)))
    tiled = subst (λ (cs : List (Child A)). TiledTo top_key (parts_of cs)) are node.tiled

    low : z.low ≡ x.low
    low = (s.stands.place.tiled high j.place.tile).1

    own : spans x.low high key ≡ true
    own = keys_of_child x.low job.target.low_fence high key job.batch.messages n j.own j.below.within there

-- a child put back as it was leaves all as it was
pub put_back : {A : Type 0} (a : Inside A) (v : Vec (Child A) A) (i : ℕ) (x y : Subtree) → slice_get a.children.items i ≡ Some (in_child.Node x) → v.items ≡ set a.children.items i (in_child.Node y) → y ≡ x → v.items ≡ a.children.items
put_back {A} a v i x y at items same = items ∙ ap (λ (c : Subtree). set a.children.items i (in_child.Node c)) same ∙ set_same a.children.items i (in_child.Node x) at where
  set_same : (cs : List (Child A)) (i : ℕ) (c : Child A) → slice_get cs i ≡ Some c → set cs i c ≡ cs
  set_same [] i c e = refl
  set_same (d ∷ cs) zero c e = ap (λ k. k ∷ cs) (sym (first d c e)) where
    first : (d c : Child A) → ◌≡◌ {A = Option (Child A)} (Some d) (Some c) → d ≡ c
    first d c e = cc
  set_same (d ∷ cs) (suc i) c e = ap (λ l. d ∷ l) (set_same cs i c e)

pub same_subtree : {A : Type 0} (a : Inside A) (v : Vec (Child A) A) → v.items ≡ a.children.items → subtree_of (record a { children = v }) ≡ subtree_of a
same_subtree a v e = λ j.
    record {
      low = a.low;
      height = a.height;
      width = length (e j);
      shape = a.shape;
      buffer = a.buffer;
      deeper = messages_in (parts_of (e j));
      nearest = nearest_in (e j);
      deepest = deepest_in (e j);
      leaves = leaves_in (parts_of (e j));
      weight = a.height * length a.buffer.messages + weight_in (parts_of (e j));
    }

pub put_node : {A : Type 0} (a : Inside A) (v : Vec (Child A) A) → IsNode a → v.items ≡ a.children.items → IsNode (record a { children = v })
put_node {A} a v node e = record {
  tiled = subst (λ (cs : List (Child A)). TiledTo top_key (parts_of cs)) (sym e) node.tiled;
  first = subst (λ (cs : List (Child A)). low_or top_key (parts_of cs) ≡ a.low) (sym e) node.first;
  level = subst (λ (cs : List (Child A)). AllByRecursion (IsBelow {A = A} a.height a.shape) cs) (sym e) node.level;
  some = subst (λ (cs : List (Child A)). 1 ≤ length cs) (sym e) node.some;
  block = node.block;
  from = node.from;
  newer = subst (λ (cs : List (Child A)). AreNewer a.buffer.messages (messages_in (parts_of cs) ++ row_messages (leaves_in (parts_of cs)))) (sym e) node.newer;
  sizes = subst (λ (cs : List (Child A)). AreLeafSizes a.shape.leaf (leaves_in (parts_of cs))) (sym e) node.sizes;
}
