-- A child that takes its messages out of the buffer above it.
use Rattle.std.proofs.Common.{◌≡◌, ℕ, ◌+◌, List, [], ◌∷◌, ◌++◌, length, Option, Some, refl, sym, ap, ◌∙◌, subst, arith, length-append}
use Rattle.std.specs.Prelude.{slice_get, slice_index_or, slice_set}
use Rattle.stow_leaves.specs.StowMessage.MessageBuf.{MessageList, without_range}
use Rattle.stow_leaves.specs.StowMessage.Rising.{in_range}
use Rattle.stow_node.specs.declared.child.Child.{Child}
use Rattle.stow_node.specs.declared.child.Child.TheVariants as in_child
use Rattle.stow_leaves.specs.StowLeaf.declared.leaf.Leaf.{Leaf}
use Rattle.stow_node.specs.Subtree.{Subtree}
use Rattle.stow_node.specs.Parts.{low_or, high_of}
use Rattle.stow_leaves.specs.StowLeaf.Intervals.{top_key}
use Rattle.stow_node.specs.Nodes.{parts_of}
use Rattle.stow_node.specs.Moves.{accepted, CanAccept, messages_for, CanHandDown, HandsDown}

-- a row told as the child at a place, with those before and after it
pub record Opened {A : Type 0} (children before here after : List (Child A)) (i : ℕ) (x : Child A) : Type 0 where
  pub is : children ≡ (before ++ here) ++ after
  pub many : length before ≡ i
  pub only : here ≡ x ∷ []

end_at : {A : Type 0} (before after : List (Child A)) (c : Child A) → high_of (parts_of ((before ++ c ∷ []) ++ after)) (length before) ≡ low_or top_key (parts_of after)
end_at [] after c = refl
end_at (b ∷ before) after c = end_at before after c

get_at : {A : Type 0} (before after : List (Child A)) (c : Child A) → slice_get ((before ++ c ∷ []) ++ after) (length before) ≡ Some c
get_at [] after c = refl
get_at (b ∷ before) after c = get_at before after c

pub set_at : {A : Type 0} (before after : List (Child A)) (c d : Child A) → slice_set ((before ++ c ∷ []) ++ after) (length before) d ≡ (before ++ d ∷ []) ++ after
set_at [] after c d = refl
set_at (b ∷ before) after c d = ap (λ l. b ∷ l) (set_at before after c d)

-- the node at the place is the one that was asked for, and its messages end where the next child begins
pub record AtChild {A : Type 0} (children after : List (Child A)) (i : ℕ) (node : Subtree) : Type 0 where
  pub at : slice_get children i ≡ Some (in_child.Node node)
  pub ends : high_of (parts_of children) i ≡ low_or top_key (parts_of after)

pub at_child : {A : Type 0} (children before here after : List (Child A)) (i : ℕ) (node : Subtree) → Opened children before here after i (in_child.Node node) → AtChild children after i node
at_child children before here after i node o = record {
  at = rw (o.is, o.only, ← o.many) (get_at before after (in_child.Node node));
  ends = rw (o.is, o.only, ← o.many) (end_at before after (in_child.Node node));
}

pub same_node : {A : Type 0} (n m : Subtree) → ◌≡◌ {A = Option (Child A)} (Some (in_child.Node n)) (Some (in_child.Node m)) → n ≡ m
same_node n m e = cc

pub can_accept : {A : Type 0} (children before here after : List (Child A)) (i : ℕ) (b : MessageList) (node : Subtree) → Opened children before here after i (in_child.Node node) → CanHandDown children i b → CanAccept (in_range node.low (low_or top_key (parts_of after)) b.messages) node
can_accept children before here after i b node o can =
    let a = at_child children before here after i node o in
    subst (λ high. CanAccept (in_range node.low high b.messages) node) a.ends
    (subst (λ n. CanAccept (messages_for (parts_of children) b i n) n) (same_node can.node node (sym can.at ∙ a.at)) can.can)

pub handed_down : {A : Type 0} (children before here after : List (Child A)) (i : ℕ) (b b' : MessageList) (node node' : Subtree) → Opened children before here after i (in_child.Node node)
    → node' ≡ accepted (in_range node.low (low_or top_key (parts_of after)) b.messages) node
    → b' ≡ without_range node.low (low_or top_key (parts_of after)) b
    → HandsDown children i b ((before ++ slice_set here 0 (in_child.Node node')) ++ after) b'
handed_down {A} children before here after i b b' node node' o is from =
    let a = at_child children before here after i node o in
    record {
      node = node;
      at = a.at;
      into = rw o.only (ap (λ n. (before ++ in_child.Node n ∷ []) ++ after) (is ∙ ap (λ high. accepted (in_range node.low high b.messages) node) (sym a.ends)) ∙ in_row (accepted (messages_for (parts_of children) b i node) node));
      from = from ∙ ap (λ high. without_range node.low high b) (sym a.ends);
    }
  where
    in_row : (n : Subtree) → (before ++ in_child.Node n ∷ []) ++ after ≡ slice_set children i (in_child.Node n)
    in_row n = sym (rw (o.is, o.only, ← o.many) (set_at before after (in_child.Node node) (in_child.Node n)))

one_at : {X : Type 0} (here : List X) (d x : X) → length here ≡ 1 → slice_index_or here 0 d ≡ x → here ≡ x ∷ []
one_at [] d x l e = absurd (omega (arith, l))
one_at (y ∷ []) d x l e = ap (λ z. z ∷ []) e
one_at (y ∷ z ∷ zs) d x l e = absurd (omega (arith, l))

-- two cuts of a row leave the child at the place between what is before and after it
pub opened : {A : Type 0} (children front before here after : List (Child A)) (i : ℕ) (x : Child A) → children ≡ front ++ after → front ≡ before ++ here → length front ≡ i + 1 → length before ≡ i → (d : Child A) → slice_index_or here 0 d ≡ x → Opened children before here after i x
opened children front before here after i x whole cut many at d is = record {
  is = whole ∙ ap (λ l. l ++ after) cut;
  many = at;
  only = one_at here d x (let l = length-append before here in let e = ap length cut in omega (arith, l, e)) is;
}

leaf_is_no_node : {A : Type 0} (leaf : Leaf A) (n : Subtree) → ◌≡◌ {A = Option (Child A)} (Some (in_child.Leaf leaf)) (Some (in_child.Node n)) → ⊥
leaf_is_no_node leaf n e = cc

pub not_leaf : {A : Type 0} (children before here after : List (Child A)) (i : ℕ) (b : MessageList) (leaf : Leaf A) → Opened children before here after i (in_child.Leaf leaf) → CanHandDown children i b → ⊥
not_leaf children before here after i b leaf o can = leaf_is_no_node leaf can.node (sym (rw (o.is, o.only, ← o.many) (get_at before after (in_child.Leaf leaf))) ∙ can.at)
