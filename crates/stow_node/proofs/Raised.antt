-- A node above another.
use Rattle.std.proofs.Common.{◌≡◌, ℕ, ◌≤◌, true, false, List, [], ◌∷◌, ◌++◌, length, refl, sym, ap, ◌∙◌, subst, arith}
use Rattle.std.specs.List.{AllByRecursion}
use Rattle.std.specs.Ordering.{is_lt}
use Rattle.stow_tree_model.specs.StowBytes.Bytes.{bytes_cmp}
use Rattle.stow_leaves.proofs.StowMessage.RisingLists.{lt_is}
use Rattle.stow_tree_model.specs.Messages.{ops_in}
use Rattle.stow_node.specs.declared.child.Child.{Child}
use Rattle.stow_node.specs.declared.node.Node.TheInside.{Inside}
use Rattle.stow_node.specs.declared.shape.Shape.{Shape}
use Rattle.stow_leaves.specs.StowLeaf.LeafRows.{LeafRows, first_fence}
use Rattle.stow_node.specs.Parts.{Part, low_or, IsTile, TiledTo, messages_in, leaves_in}
use Rattle.stow_leaves.specs.StowLeaf.Intervals.{top_key, spans}
use Rattle.stow_node.specs.Nodes.{part_of, node_part, parts_of, IsBelow, subtree_of, IsNode}
use Rattle.std.proofs.lemmas.List.{length-map}
use Rattle.stow_node.proofs.Lowered.{rows_by_part}
use Rattle.stow_leaves.proofs.StowLeaf.Ops.{ops-append}
use Rattle.stow_leaves.proofs.StowLeaf.Found.{both_none}
use Rattle.stow_node.proofs.Row.{message_taken, row_taken, messages_apart, rows_apart, row_out, low_at_most}
use Rattle.stow_leaves.proofs.StowLeaf.Intervals.{lt, lt_le, le_le, lt_not, lt_self, span_low, span_high, spanned}

less_than_itself : (a b : List ℕ) → lt a b ≡ true → b ≡ a → ⊥
less_than_itself a b l e = cc (lt_self a)

-- fences of a wider interval
pub wider : (low high low' high' : List ℕ) (leaves : List LeafRows) → lt low low' ≡ false → lt high' high ≡ false → AllByRecursion (λ leaf. spans low high leaf.0 ≡ true) leaves → AllByRecursion (λ leaf. spans low' high' leaf.0 ≡ true) leaves
wider low high low' high' [] l h all = tt
wider low high low' high' (leaf ∷ leaves) l h all =
    (spanned low' high' leaf.0 (le_le low' low leaf.0 l (span_low low high leaf.0 all.0)) (lt_le leaf.0 high high' (span_high low high leaf.0 all.0) h), wider low high low' high' leaves l h all.1)

both : (low high : List ℕ) (xs ys : List LeafRows) → AllByRecursion (λ leaf. spans low high leaf.0 ≡ true) xs → AllByRecursion (λ leaf. spans low high leaf.0 ≡ true) ys → AllByRecursion (λ leaf. spans low high leaf.0 ≡ true) (xs ++ ys)
both low high [] ys a b = b
both low high (x ∷ xs) ys a b = (a.0, both low high xs ys a.1 b)

-- the fences of a row are from its first part's low on
pub row_fences : (high : List ℕ) (ps : List Part) → TiledTo high ps → AllByRecursion (λ leaf. spans (low_or high ps) high leaf.0 ≡ true) (leaves_in ps)
row_fences high [] t = tt
row_fences high (p ∷ ps) t =
    let apart = messages_apart high (p ∷ ps) t in
    let low = low_at_most message_taken high ps apart.1 in
    both p.low high p.leaves (leaves_in ps)
    (wider p.low (low_or high ps) p.low high p.leaves (not_self p.low) low t.0.fences)
    (wider (low_or high ps) high p.low high (leaves_in ps) (lt_not p.low (low_or high ps) apart.0.0) (not_self high) (row_fences high ps t.1))
  where
    not_self : (a : List ℕ) → lt a a ≡ false
    not_self a = lt_self a

pub first_of_row : (high : List ℕ) (ps : List Part) → TiledTo high ps → first_fence high (leaves_in ps) ≡ low_or high ps
first_of_row high [] t = refl
first_of_row high (p ∷ ps) t = by_leaves p.leaves refl (first_of_row high ps t.1) where
  by_leaves : (l : List LeafRows) → l ≡ p.leaves → first_fence high (leaves_in ps) ≡ low_or high ps → first_fence high (l ++ leaves_in ps) ≡ p.low
  by_leaves [] is on = absurd (less_than_itself p.low (low_or high ps) (ap is_lt t.0.ordered) (ap (first_fence (low_or high ps)) is ∙ t.0.first))
  by_leaves (leaf ∷ leaves) is on = ap (first_fence (low_or high ps)) is ∙ t.0.first

-- a node is a tile of all keys from its low on
pub whole_tile : {A : Type 0} (a : Inside A) → IsNode a → IsTile (node_part (subtree_of a)) top_key
whole_tile a node = record {
  fences = subst (λ low. AllByRecursion (λ leaf. spans low top_key leaf.0 ≡ true) (leaves_in (parts_of a.children.items))) node.first (row_fences top_key (parts_of a.children.items) node.tiled);
  first = first_of_row top_key (parts_of a.children.items) node.tiled ∙ node.first;
  ordered = lt_is (bytes_cmp a.low top_key) (subst (λ low. lt low top_key ≡ true) node.first (below_top (parts_of a.children.items) node.tiled (let w = node.some in omega (arith, length-map a.children.items part_of))));
  messages = record {
    outside = λ key n o. ops-append a.buffer.messages (messages_in (parts_of a.children.items)) key n
        ∙ both_none (ops_in a.buffer.messages key n) (ops_in (messages_in (parts_of a.children.items)) key n) (node.from.outside key n o)
        (row_out message_taken (low_or top_key (parts_of a.children.items)) top_key (parts_of a.children.items) key n (messages_apart top_key (parts_of a.children.items) node.tiled) refl (subst (λ low. spans low top_key key ≡ false) (sym node.first) o));
  };
  rows = record {
    outside = λ key n o. ap (λ l. ops_in l key n) (rows_by_part (parts_of a.children.items))
        ∙ row_out row_taken (low_or top_key (parts_of a.children.items)) top_key (parts_of a.children.items) key n (rows_apart top_key (parts_of a.children.items) node.tiled) refl (subst (λ low. spans low top_key key ≡ false) (sym node.first) o);
  };
}
  where
    below_top : (ps : List Part) → TiledTo top_key ps → 1 ≤ length ps → lt (low_or top_key ps) top_key ≡ true
    below_top [] t h = absurd (omega arith)
    below_top (p ∷ ps) t h = let apart = messages_apart top_key (p ∷ ps) t in lt_le p.low (low_or top_key ps) top_key apart.0.0 (low_at_most message_taken top_key ps apart.1)

level_above : {A : Type 0} (h : ℕ) (shape : Shape) (cs : List (Child A)) → AllByRecursion (IsBelow h shape) cs → 1 ≤ length cs → 1 ≤ h
level_above h shape [] all l = absurd (omega arith)
level_above h shape (c ∷ cs) all l = let e = all.0.level in omega (arith, e)

-- a node stands above leaves
pub above_leaves : {A : Type 0} (a : Inside A) → IsNode a → 1 ≤ a.height
above_leaves a node = level_above a.height a.shape a.children.items node.level node.some
