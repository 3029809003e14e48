-- A tree of which messages moved towards the leaves.
use Rattle.std.proofs.Common.{◌≡◌, ap, ◌∙◌, sym, subst, arith}
use Rattle.stow_flush.specs.StowLeaf.LeafRows.{row_messages}
use Rattle.stow_flush.specs.StowNode.Moves.{StaysInMeaning}
use Rattle.stow_flush.specs.StowNode.Subtree.{Subtree}
use Rattle.stow_flush.specs.StowNode.declared.shape.Shape.{Shape}
use Rattle.stow_flush.proofs.StowNode.PlanSteps.{stays_short}
use Rattle.stow_flush.proofs.StowNode.Standing.{parts_ops}
use Rattle.stow_tree_model.specs.Messages.{ops_in}
use Rattle.stow_tree_model.specs.Operations.{or_else}
use Rattle.stow_tree_model.proofs.SetLemmas.{set_by_ops_law}
use Rattle.stow_tree.specs.declared.tree.Tree.TheInside.{Inside}
use Rattle.stow_tree.specs.Shapes.{AreInRange}
use Rattle.stow_tree.specs.TreeState.{TreeState, IsTree, HoldsLeaves, tree_messages}
use Rattle.stow_tree.proofs.Sets.{ops_messages}

pub moved_messages : (s t : TreeState) → StaysInMeaning s.root t.root → tree_messages t ≡ tree_messages s
moved_messages s t m = set_by_ops_law (tree_messages t) (tree_messages s) (λ key n.
    (λ i. ops_messages t key i n)
    ∙ parts_ops t.root key n
    ∙ (λ i. or_else (m.messages key n i) (ops_in (row_messages (m.leaves i)) key n))
    ∙ sym (parts_ops s.root key n)
    ∙ (λ i. sym (ops_messages s key) i n))

pub moved_tree : {A : Type 0} (old : Inside A) (root : Subtree) → IsTree old → StaysInMeaning old.root root → IsTree (record old { root = root })
moved_tree old root tree m = record {
  sizes = subst AreInRange (sym m.shape) tree.sizes;
  low = m.low ∙ tree.low;
  few = let w = m.width in let f = ap (λ (s : Shape). s.fan_out) m.shape in let t = tree.few in omega (arith, w, f, t);
  root_block = m.capacity ∙ tree.root_block ∙ sym (ap (λ (s : Shape). s.buffer) m.shape);
  block = let c = m.capacity in let b = tree.block in omega (arith, c, b);
  short = stays_short old.root root m tree.short;
  held = subst (HoldsLeaves old.cache) (sym m.leaves) tree.held;
}
