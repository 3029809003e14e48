-- A node above one empty leaf.
use Rattle.std.proofs.Common.{◌≡◌, ◌+◌, ◌*◌, ◌≤◌, length, List, [], ◌∷◌, refl, sym, ap, arith, subst, inl}
use Rattle.stow_leaves.specs.StowMessage.MessageBuf.{message_list}
use Rattle.stow_tree_model.specs.Keys.{packed}
use Rattle.std.specs.declared.vec.Vec.{Vec}
use Rattle.stow_node.specs.declared.child.Child.{Child}
use Rattle.stow_node.specs.declared.child.Child.TheVariants as in_child
use Rattle.stow_leaves.specs.StowLeaf.declared.leaf.Leaf.{Leaf}
use Rattle.stow_node.specs.declared.node.Node.TheInside.{Inside}
use Rattle.stow_node.specs.declared.shape.Shape.{Shape}
use Rattle.stow_leaves.proofs.StowLeaf.Fronts.{no_rows_size}
use Rattle.stow_node.specs.Subtree.{first_subtree}
use Rattle.std.specs.List.{AllByRecursion}
use Rattle.stow_node.specs.Parts.{TiledTo, low_or, messages_in, leaves_in, weight_in}
use Rattle.stow_leaves.specs.StowLeaf.Intervals.{top_key}
use Rattle.stow_node.specs.Nodes.{parts_of, nearest_in, deepest_in, IsBelow, subtree_of, IsNode, AreLeafSizes}

pub record IsFirst {A : Type 0} (shape : Shape) (a : Inside A) : Type 0 where
  pub is_node : IsNode a
  pub is : subtree_of a ≡ first_subtree shape

abbrev pub first_leaf : {A : Type 0} → Leaf A
first_leaf = record { low = packed 0 []; rows = [] }

record Facts {A : Type 0} (shape : Shape) (l : List (Child A)) : Type 0 where
  tiled : TiledTo top_key (parts_of l)
  first : low_or top_key (parts_of l) ≡ packed 0 []
  level : AllByRecursion (IsBelow 1 shape) l
  some : 1 ≤ length l
  sizes : AreLeafSizes shape.leaf (leaves_in (parts_of l))

pub is_first : {A : Type 0} (shape : Shape) (v : Vec (Child A) A) → v.items ≡ in_child.Leaf first_leaf ∷ [] → IsFirst shape (record { low = packed 0 []; height = 1; shape = shape; buffer = message_list [] 0 shape.buffer; children = v })
is_first {A} shape v e = record {
  is_node = record {
    tiled = facts.tiled;
    first = facts.first;
    level = facts.level;
    some = facts.some;
    block = inl refl;
    from = record { outside = λ key n o. refl };
    sizes = facts.sizes;
    newer = record { above = λ key n k u l. absurd cc };
  };
  is = ap (λ (l : List (Child A)). record {
    low = packed 0 [];
    height = 1;
    width = length l;
    shape = shape;
    buffer = message_list [] 0 shape.buffer;
    deeper = messages_in (parts_of l);
    nearest = nearest_in l;
    deepest = deepest_in l;
    leaves = leaves_in (parts_of l);
    weight = 1 * 0 + weight_in (parts_of l);
  }) e;
}
  where
    facts : Facts shape v.items
    facts = subst (Facts shape) (sym e) (record {
      tiled = (
        record {
          fences = (refl, tt);
          first = refl;
          ordered = refl;
          messages = record { outside = λ key n o. refl };
          rows = record { outside = λ key n o. refl };
        },
        tt,
      );
      first = refl;
      level = (record { level = refl; same = tt }, tt);
      some = omega arith;
      sizes = (no_rows_size shape.leaf, tt);
    })
