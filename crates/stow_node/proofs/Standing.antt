-- A node that stands where it stood.
use Rattle.std.proofs.Common.{◌≡◌, ℕ, true, false, List, [], ◌∷◌, None, sym, ap, ◌∙◌, subst}
use Rattle.std.specs.Prelude.{IsSome}
use Rattle.std.specs.List.{AllByRecursion}
use Rattle.std.specs.Ordering.{is_lt}
use Rattle.stow_tree_model.specs.StowBytes.Bytes.{bytes_cmp}
use Rattle.stow_leaves.proofs.StowMessage.RisingLists.{no_path, lt_is}
use Rattle.stow_tree_model.specs.Messages.{ops_in}
use Rattle.stow_tree_model.specs.Operations.{or_else}
use Rattle.stow_leaves.specs.StowLeaf.Intervals.{spans}
use Rattle.stow_leaves.specs.StowLeaf.LeafRows.{LeafRows, row_messages, first_fence}
use Rattle.stow_leaves.specs.StowLeaf.Replacements.{AreThere}
use Rattle.stow_leaves.proofs.StowLeaf.Found.{both_none, none_some, none_unless, some_left, some_right}
use Rattle.stow_leaves.proofs.StowLeaf.Intervals.{lt, lt_self, under, spanned, span_low, not_spanned}
use Rattle.stow_leaves.proofs.StowLeaf.Ops.{ops-append}
use Rattle.stow_node.specs.Nodes.{node_part}
use Rattle.stow_node.specs.Parts.{Part, IsTile}
use Rattle.stow_node.specs.Subtree.{Subtree, buffered, messages_of}

-- leaves that begin below an end begin there whatever the end is
pub same_first : (high end low : List ℕ) (ls : List LeafRows) → lt low high ≡ true → first_fence high ls ≡ low → first_fence end ls ≡ low
same_first high end low [] l e = absurd (no_path (sym (lt_self low) ∙ ap (lt low) (sym e) ∙ l))
same_first high end low (leaf ∷ ls) l e = e

-- what a node has of a key, by its buffers and its leaves
pub parts_ops : (t : Subtree) (key : List ℕ) (n : ℕ) → ops_in (messages_of t) key n ≡ or_else (ops_in (buffered t) key n) (ops_in (row_messages t.leaves) key n)
parts_ops t key n = ops-append (buffered t) (row_messages t.leaves) key n

-- a key outside a node's interval has nothing there
pub outside_tile : (t : Subtree) (high key : List ℕ) (n : ℕ) → IsTile (node_part t) high → spans t.low high key ≡ false → ops_in (messages_of t) key n ≡ None
outside_tile t high key n tile o =
    parts_ops t key n ∙ both_none (ops_in (buffered t) key n) (ops_in (row_messages t.leaves) key n) (tile.messages.outside key n o) (tile.rows.outside key n o)

-- a node whose leaves begin where it stood, and that has no other keys, stands there
pub stands : (old new : Subtree) (end high : List ℕ) → new.low ≡ old.low → IsTile (node_part old) high → IsTile (node_part new) end
    → AllByRecursion (λ (l : LeafRows). spans old.low high l.0 ≡ true) new.leaves
    → ((key : List ℕ) → AreThere (ops_in (messages_of new) key) → AreThere (ops_in (messages_of old) key)) → IsTile (node_part new) high
stands old new end high low old_tile tile fences there = record {
  fences = subst (λ x. AllByRecursion (λ (l : LeafRows). spans x high l.0 ≡ true) new.leaves) (sym low) fences;
  first = same_first end high new.low new.leaves (ap is_lt tile.ordered) tile.first;
  ordered = rw low old_tile.ordered;
  messages = record { outside = λ key n o. none_unless (ops_in (buffered new) key n) (λ s. nothing key n o (some_left (ops_in (buffered new) key n) (ops_in (row_messages new.leaves) key n) s)) };
  rows = record { outside = λ key n o. none_unless (ops_in (row_messages new.leaves) key n) (λ s. nothing key n o (some_right (ops_in (buffered new) key n) (ops_in (row_messages new.leaves) key n) s)) };
}
  where
    nothing : (key : List ℕ) (n : ℕ) → spans new.low high key ≡ false → IsSome (or_else (ops_in (buffered new) key n) (ops_in (row_messages new.leaves) key n)) → ⊥
    nothing key n o s =
        let t = there key (n, subst IsSome (sym (parts_ops new key n)) s) in
        none_some (ops_in (messages_of old) key t.0) (outside_tile old high key t.0 old_tile (ap (λ x. spans x high key) (sym low) ∙ o)) t.1

-- a part that stands below an end, and has nothing from another end on, stands below that
pub narrowed : (p : Part) (end high : List ℕ) → IsTile p end → AllByRecursion (λ (l : LeafRows). lt l.0 high ≡ true) p.leaves
    → ((key : List ℕ) (n : ℕ) → lt key high ≡ false → ops_in p.messages key n ≡ None)
    → ((key : List ℕ) (n : ℕ) → lt key high ≡ false → ops_in (row_messages p.leaves) key n ≡ None) → IsTile p high
narrowed p end high t fences messages rows = record {
  fences = each p.leaves t.fences fences;
  first = same_first end high p.low p.leaves (ap is_lt t.ordered) t.first;
  ordered = lt_is (bytes_cmp p.low high) (begins p.leaves t.first fences);
  messages = record { outside = λ key n o. not_spanned p.low high key o (λ l. t.messages.outside key n (under p.low end key l)) (λ _ h. messages key n h) };
  rows = record { outside = λ key n o. not_spanned p.low high key o (λ l. t.rows.outside key n (under p.low end key l)) (λ _ h. rows key n h) };
}
  where
    each : (ls : List LeafRows) → AllByRecursion (λ (l : LeafRows). spans p.low end l.0 ≡ true) ls → AllByRecursion (λ (l : LeafRows). lt l.0 high ≡ true) ls → AllByRecursion (λ (l : LeafRows). spans p.low high l.0 ≡ true) ls
    each [] a b = tt
    each (l ∷ ls) a b = (spanned p.low high l.0 (span_low p.low end l.0 a.0) b.0, each ls a.1 b.1)

    begins : (ls : List LeafRows) → first_fence end ls ≡ p.low → AllByRecursion (λ (l : LeafRows). lt l.0 high ≡ true) ls → lt p.low high ≡ true
    begins [] e b = absurd (no_path (sym (lt_self p.low) ∙ ap (lt p.low) (sym e) ∙ ap is_lt t.ordered))
    begins (l ∷ ls) e b = ap (λ x. lt x high) (sym e) ∙ b.0
