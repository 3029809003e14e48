-- The child that gets messages next.
use Rattle.std.proofs.Common.{zero, suc, ◌≡◌, ◌≢◌, ℕ, ◌<◌, List, [], ◌∷◌, length, refl, get_or, Some, sym, ap, ◌∙◌, subst, arith}
use Rattle.std.specs.Prelude.{slice_get}
use Rattle.std.proofs.lemmas.List.{length-map}
use Rattle.std.proofs.lemmas.Option.{get_or_from_slice_get}
use Rattle.stow_leaves.specs.StowMessage.MessageBuf.{MessageList}
use Rattle.stow_leaves.specs.StowLeaf.Intervals.{top_key, NoneOutside}
use Rattle.stow_leaves.specs.StowLeaf.declared.leaf.Leaf.{Leaf}
use Rattle.stow_node.specs.declared.child.Child.{Child}
use Rattle.stow_node.specs.declared.child.Child.TheVariants as in_child
use Rattle.stow_node.specs.declared.node.Node.TheInside.{Inside}
use Rattle.stow_node.specs.Moves.{bytes_for, IsHeaviest}
use Rattle.stow_node.specs.Nodes.{part_of, node_part, parts_of, IsNode}
use Rattle.stow_node.specs.Subtree.{Subtree}
use Rattle.stow_node.proofs.Filled.{heaviest_has_bytes}
use Rattle.stow_node.proofs.Stayed.{level_at}

pub not_leaf : {A : Type 0} (children : List (Child A)) (i : ℕ) (d : Child A) (x : Leaf A) (n : Subtree) → slice_get children i ≡ Some (in_child.Node n) → d ≡ get_or children i d → d ≡ in_child.Leaf x → ⊥
not_leaf children i d x n at here is = other x n (sym (get_or_from_slice_get children i (in_child.Node n) d at) ∙ sym here ∙ is) where
  other : {A : Type 0} (x : Leaf A) (n : Subtree) → ◌≡◌ {A = Child A} (in_child.Node n) (in_child.Leaf x) → ⊥
  other x n e = cc

pub inside_lent : {A : Type 0} (cs lent : List (Child A)) (b : MessageList) (i : ℕ) → lent ≡ cs → IsHeaviest (parts_of lent) b i → i < length cs
inside_lent cs lent b i e h = let l = h.inside in let n = length-map lent part_of in let m = ap length e in omega (arith, l, n, m)

pub child_at : {X : Type 0} (xs : List X) (i : ℕ) → i < length xs → (x : X) × (slice_get xs i ≡ Some x)
child_at [] i l = absurd (omega arith)
child_at (x ∷ xs) zero l = (x, refl)
child_at (x ∷ xs) (suc i) l = child_at xs i (omega arith)

pub record Entered {A : Type 0} (a : Inside A) (i : ℕ) : Type 0 where
  pub node : Subtree
  pub at : slice_get a.children.items i ≡ Some (in_child.Node node)
  pub some : 0 < bytes_for (parts_of a.children.items) a.buffer i (node_part node)

-- further up the heaviest child is a node
pub entered : {A : Type 0} (a : Inside A) (i : ℕ) (lent : List (Child A)) → IsNode a → a.height ≢ 1 → 0 < length a.buffer.messages → lent ≡ a.children.items → IsHeaviest (parts_of lent) a.buffer i → Entered a i
entered {A} a i lent node high_up many e heavy = by_child (child_at a.children.items i inside).0 (child_at a.children.items i inside).1 where
  inside : i < length a.children.items
  inside = inside_lent a.children.items lent a.buffer i e heavy

  by_child : (c : Child A) → slice_get a.children.items i ≡ Some c → Entered a i
  by_child (in_child.Leaf leaf) at =
      let b = level_at a.height a.shape a.children.items i (in_child.Leaf leaf) node.level at in
      absurd (high_up (sym b.level))
  by_child (in_child.Node x) at = record {
    node = x;
    at = at;
    some = heaviest_has_bytes (parts_of a.children.items) a.buffer i (node_part x) (subst (λ (l : List (Child A)). IsHeaviest (parts_of l) a.buffer i) e heavy)
        (subst (λ low. NoneOutside low top_key a.buffer.messages) (sym node.first) node.from) many;
  }
