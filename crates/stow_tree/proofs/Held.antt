-- A cache whose leaves are the tree's.
use Rattle.std.proofs.Common.{◌≡◌, ℕ, zero, suc, Bool, true, false, cond, List, [], ◌∷◌, take, Option, Some, None, refl, sym, subst, ⊎_elim}
use Rattle.std.specs.Prelude.{Contains}
use Rattle.std.proofs.lemmas.Map.Views.{Contains-from_lookup}
use Rattle.std.specs.Cmp.Lexicographic.{bytes_decides}
use Rattle.std.specs.Option.{option_map_or}
use Rattle.std.specs.Str.{bytes_eq}
use Rattle.stow_flush.specs.StowLeaf.LeafRows.{LeafRows, leaf_rows}
use Rattle.stow_flush.specs.StowLeaf.declared.leaf.Leaf.{Leaf}
use Rattle.stow_flush.specs.StowLeafCache.Cache.{Cache, rows_under, leaves_without, leaves_kept, IsOffered, cache_used, cache_resized}
use Rattle.stow_flush.specs.StowLeaves.Forgets.{Forgets}
use Rattle.stow_tree_model.proofs.Latest.{contains_cases}
use Rattle.stow_tree_model.proofs.Pruning.{contains_here, contains_there, none_in_nothing}
use Rattle.stow_tree_model.specs.Version.{Version}
use Rattle.stow_tree.specs.declared.tree.Tree.TheInside.{Inside}
use Rattle.stow_tree.specs.TreeState.{HoldsLeaves, IsTree}

-- what is held without a leaf was held
held_before : (fence : List ℕ) (leaves : List LeafRows) (leaf : LeafRows) → Contains (leaves_without fence leaves) leaf → Contains leaves leaf
held_before fence [] leaf c = c
held_before fence (x ∷ leaves) leaf c = step (bytes_eq fence x.0) c (λ d. held_before fence leaves leaf d) where
  step : (b : Bool) → Contains (cond b leaves (x ∷ leaves_without fence leaves)) leaf → (Contains (leaves_without fence leaves) leaf → Contains leaves leaf) → Contains (x ∷ leaves) leaf
  step true d on = contains_there x leaf leaves d
  step false d on = ⊎_elim
      (λ (e : x ≡ leaf). subst (λ l. Contains (x ∷ leaves) l) e (contains_here x leaves))
      (λ (t : Contains (leaves_without fence leaves) leaf). contains_there x leaf leaves (on t))
      (contains_cases x leaf (leaves_without fence leaves) d)

in_front : (n : ℕ) (leaves : List LeafRows) (leaf : LeafRows) → Contains (take n leaves) leaf → Contains leaves leaf
in_front zero leaves leaf c = absurd (none_in_nothing leaf c)
in_front (suc n) [] leaf c = c
in_front (suc n) (x ∷ leaves) leaf c = ⊎_elim
    (λ (e : x ≡ leaf). subst (λ l. Contains (x ∷ leaves) l) e (contains_here x leaves))
    (λ (t : Contains (take n leaves) leaf). contains_there x leaf leaves (in_front n leaves leaf t))
    (contains_cases x leaf (take n leaves) c)

-- rows that are found under a fence are held under it
found_is_held : (fence : List ℕ) (leaves : List LeafRows) (rows : List Version) → rows_under fence leaves ≡ Some rows → Contains leaves (fence, rows)
found_is_held fence leaves rows e = Contains-from_lookup (λ x y t. (bytes_decides x y).0 t) fence rows leaves e

pub offered_held : (cache : Cache) (fence : List ℕ) (rows : List Version) (new : Cache) (leaves : List LeafRows) → HoldsLeaves cache leaves → Contains leaves (fence, rows) → IsOffered cache fence rows new.leaves → HoldsLeaves new leaves
offered_held cache fence rows new leaves held there offered leaf c = ⊎_elim
    (λ (e : new.leaves ≡ leaves_kept cache.limit fence rows cache.leaves). ⊎_elim
    (λ (i : ◌≡◌ {A = LeafRows} (fence, rows) leaf). subst (λ l. Contains leaves l) i there)
    (λ (d : Contains (leaves_without fence cache.leaves) leaf). held leaf (held_before fence cache.leaves leaf d))
    (contains_cases (fence, rows) leaf (leaves_without fence cache.leaves) (in_front cache.limit ((fence, rows) ∷ leaves_without fence cache.leaves) leaf (subst (λ ls. Contains ls leaf) e c))))
    (λ (e : new.leaves ≡ leaves_without fence cache.leaves). held leaf (held_before fence cache.leaves leaf (subst (λ ls. Contains ls leaf) e c)))
    offered

pub used_held : (cache : Cache) (fence : List ℕ) (leaves : List LeafRows) → HoldsLeaves cache leaves → HoldsLeaves (cache_used fence cache) leaves
used_held cache fence leaves held leaf c = by_rows (rows_under fence cache.leaves) refl c where
  by_rows : (o : Option (List Version)) → rows_under fence cache.leaves ≡ o → Contains (option_map_or (λ rows. (fence, rows) ∷ leaves_without fence cache.leaves) o cache.leaves) leaf → Contains leaves leaf
  by_rows None e d = held leaf d
  by_rows (Some rows) e d = ⊎_elim
      (λ (i : ◌≡◌ {A = LeafRows} (fence, rows) leaf). held leaf (subst (λ l. Contains cache.leaves l) i (found_is_held fence cache.leaves rows e)))
      (λ (f : Contains (leaves_without fence cache.leaves) leaf). held leaf (held_before fence cache.leaves leaf f))
      (contains_cases (fence, rows) leaf (leaves_without fence cache.leaves) d)

pub forgets_held : (old new : List LeafRows) (cache cache' : Cache) → HoldsLeaves cache old → Forgets old new cache cache' → HoldsLeaves cache' new
forgets_held old new cache cache' held f leaf c = f.stands leaf c (held leaf (f.held leaf c))

pub resized_held : (cache new : Cache) (limit : ℕ) (leaves : List LeafRows) → HoldsLeaves cache leaves → new ≡ cache_resized limit cache → HoldsLeaves new leaves
resized_held cache new limit leaves held e leaf c = held leaf (in_front limit cache.leaves leaf (subst (λ (x : Cache). Contains x.leaves leaf) e c))

-- a tree with another cache
with_cache : {A : Type 0} (tree : Inside A) (cache : Cache) → IsTree tree → HoldsLeaves cache tree.root.leaves → IsTree (record tree { cache = cache })
with_cache tree cache is held = record { sizes = is.sizes; low = is.low; few = is.few; root_block = is.root_block; block = is.block; short = is.short; held = held }

pub used_tree : {A : Type 0} (tree : Inside A) (cache : Cache) (fence : List ℕ) → IsTree tree → cache ≡ cache_used fence tree.cache → IsTree (record tree { cache = cache })
used_tree tree cache fence is e = with_cache tree cache is (subst (λ c. HoldsLeaves c tree.root.leaves) (sym e) (used_held tree.cache fence tree.root.leaves is.held))

pub offered_tree : {A : Type 0} (tree : Inside A) (used new : Cache) (fence : List ℕ) (rows : List Version) (leaf : Leaf A) → IsTree tree → used ≡ cache_used fence tree.cache → Contains tree.root.leaves (leaf_rows leaf) → fence ≡ leaf.low → rows ≡ leaf.rows → IsOffered used fence rows new.leaves → IsTree (record tree { cache = new })
offered_tree tree used new fence rows leaf is e there low same offered = with_cache tree new is
    (offered_held used fence rows new tree.root.leaves
    (subst (λ c. HoldsLeaves c tree.root.leaves) (sym e) (used_held tree.cache fence tree.root.leaves is.held))
    (subst (λ (l : LeafRows). Contains tree.root.leaves l) (λ i. (sym low i, sym same i)) there) offered)
