-- The leaf at a fence, and the next one's, in a row of parts.
use Rattle.std.proofs.Common.{zero, suc, ◌≡◌, ℕ, ◌<◌, true, false, List, [], ◌∷◌, ◌++◌, length, get_or, refl, sym, ap, ◌∙◌, arith, ⊎_elim, subst}
use Rattle.std.specs.Prelude.{Contains, if◌then◌else◌}
use Rattle.std.specs.List.{AllByRecursion}
use Rattle.std.specs.Ordering.{is_lt}
use Rattle.stow_tree_model.proofs.Latest.{contains_cases}
use Rattle.stow_tree_model.proofs.Pruning.{contains_here, contains_there, none_in_nothing}
use Rattle.stow_tree_model.specs.TreeMessage.{TreeMessage}
use Rattle.stow_leaves.specs.StowLeaf.Intervals.{top_key, spans, NoneOutside}
use Rattle.stow_leaves.specs.StowLeaf.LeafRows.{LeafRows, first_fence}
use Rattle.stow_leaves.proofs.StowLeaf.Intervals.{lt, by_test, lt_self, lt_not, lt_le, le_le, span_low, span_high}
use Rattle.stow_leaves.proofs.StowMessage.RisingLists.{no_path}
use Rattle.stow_node.specs.Installs.{next_fence}
use Rattle.stow_node.specs.Parts.{Part, low_or, end_of, TiledTo, leaves_in}
use Rattle.stow_node.proofs.Row.{message_taken, messages_apart, low_below}

next_append : (high : List ℕ) (xs ys : List LeafRows) (f : List ℕ) → next_fence high (xs ++ ys) f ≡ next_fence (next_fence high ys f) xs f
next_append high [] ys f = refl
next_append high (x ∷ xs) ys f = ap (λ (r : List ℕ). if lt f x.0 then x.0 else r) (next_append high xs ys f)

-- leaves at the fence or below are passed
passed : (high : List ℕ) (xs : List LeafRows) (f : List ℕ) → AllByRecursion (λ (l : LeafRows). lt f l.0 ≡ false) xs → next_fence high xs f ≡ high
passed high [] f a = refl
passed high (x ∷ xs) f a = ap (λ b. if b then x.0 else next_fence high xs f) a.0 ∙ passed high xs f a.1

-- above a fence below all parts the first part is next
first_next : (high f : List ℕ) (ps : List Part) → TiledTo high ps → lt f (low_or high ps) ≡ true → next_fence high (leaves_in ps) f ≡ low_or high ps
first_next high f [] t l = refl
first_next high f (p ∷ ps) t l = by_leaves p.leaves t.0.first where
  by_leaves : (ls : List LeafRows) → first_fence (low_or high ps) ls ≡ p.low → next_fence high (ls ++ leaves_in ps) f ≡ p.low
  by_leaves [] e = absurd (no_path (sym (lt_self p.low) ∙ ap (lt p.low) (sym e) ∙ ap is_lt t.0.ordered))
  by_leaves (x ∷ xs) e = ap (λ b. if b then x.0 else next_fence high (xs ++ leaves_in ps) f) (ap (lt f) e ∙ l) ∙ e

passed_part : (high f : List ℕ) (p : Part) (next : List ℕ) → ((l : List ℕ) → lt l next ≡ true → lt f l ≡ false) → AllByRecursion (λ (leaf : LeafRows). spans p.low next leaf.0 ≡ true) p.leaves → next_fence high p.leaves f ≡ high
passed_part high f p next below all = passed high p.leaves f (each p.leaves all) where
  each : (ls : List LeafRows) → AllByRecursion (λ (leaf : LeafRows). spans p.low next leaf.0 ≡ true) ls → AllByRecursion (λ (l : LeafRows). lt f l.0 ≡ false) ls
  each [] a = tt
  each (l ∷ ls) a = (below l.0 (span_high p.low next l.0 a.0), each ls a.1)

-- the next fence is that of the part that the fence belongs to
pub next_of_part : (high : List ℕ) (ps : List Part) (i : ℕ) (d : Part) (f : List ℕ) → TiledTo high ps → i < length ps → spans (get_or ps i d).low (end_of high ps i) f ≡ true → next_fence high (leaves_in ps) f ≡ next_fence (end_of high ps i) (get_or ps i d).leaves f
next_of_part high [] i d f t l s = absurd (omega arith)
next_of_part high (p ∷ ps) zero d f t l s =
    next_append high p.leaves (leaves_in ps) f
    ∙ ap (λ h. next_fence h p.leaves f) (first_next high f ps t.1 (span_high p.low (low_or high ps) f s))
next_of_part high (p ∷ []) (suc i) d f t l s = absurd (omega arith)
next_of_part high (p ∷ q ∷ qs) (suc i) d f t l s =
    next_append high p.leaves (leaves_in (q ∷ qs)) f
    ∙ passed_part (next_fence high (leaves_in (q ∷ qs)) f) f p q.low below t.0.fences
    ∙ next_of_part high (q ∷ qs) i d f t.1 (omega arith) s
  where
    from : lt f q.low ≡ false
    from = le_le q.low (get_or (q ∷ qs) i d).low f (low_below message_taken high q qs i d (messages_apart high (q ∷ qs) t.1) (omega (arith, l))) (span_low (get_or (q ∷ qs) i d).low (end_of high (q ∷ qs) i) f s)

    below : (k : List ℕ) → lt k q.low ≡ true → lt f k ≡ false
    below k h = lt_not k f (lt_le k q.low f h from)

-- ---- leaves that are there

pub contains_left : {X : Type 0} (xs ys : List X) (x : X) → Contains xs x → Contains (xs ++ ys) x
contains_left [] ys x c = absurd (none_in_nothing x c)
contains_left (y ∷ xs) ys x c = ⊎_elim
    (λ (e : y ≡ x). subst (Contains (y ∷ (xs ++ ys))) e (contains_here y (xs ++ ys)))
    (λ (t : Contains xs x). contains_there y x (xs ++ ys) (contains_left xs ys x t))
    (contains_cases y x xs c)

pub contains_right : {X : Type 0} (xs ys : List X) (x : X) → Contains ys x → Contains (xs ++ ys) x
contains_right [] ys x c = c
contains_right (y ∷ xs) ys x c = contains_there y x (xs ++ ys) (contains_right xs ys x c)

pub leaf_of_part : (ps : List Part) (i : ℕ) (d : Part) (leaf : LeafRows) → i < length ps → Contains (get_or ps i d).leaves leaf → Contains (leaves_in ps) leaf
leaf_of_part [] i d leaf l c = absurd (omega arith)
leaf_of_part (p ∷ ps) zero d leaf l c = contains_left p.leaves (leaves_in ps) leaf c
leaf_of_part (p ∷ ps) (suc i) d leaf l c = contains_right p.leaves (leaves_in ps) leaf (leaf_of_part ps i d leaf (omega arith) c)

-- the fence of a leaf that is there is within its part
pub fence_within : (low high : List ℕ) (ls : List LeafRows) (leaf : LeafRows) → AllByRecursion (λ (l : LeafRows). spans low high l.0 ≡ true) ls → Contains ls leaf → spans low high leaf.0 ≡ true
fence_within low high [] leaf a c = absurd (none_in_nothing leaf c)
fence_within low high (l ∷ ls) leaf a c = ⊎_elim
    (λ (e : l ≡ leaf). subst (λ (x : LeafRows). spans low high x.0 ≡ true) e a.0)
    (λ (t : Contains ls leaf). fence_within low high ls leaf a.1 t)
    (contains_cases l leaf ls c)

-- messages below both the next fence and an end are below the next fence of a row that ends there
pub within_both : (high f : List ℕ) (ls : List LeafRows) (ms : List TreeMessage) → NoneOutside f (next_fence top_key ls f) ms → NoneOutside f high ms → NoneOutside f (next_fence high ls f) ms
within_both high f [] ms a b = b
within_both high f (l ∷ ls) ms a b = by_test (lt f l.0)
    (λ e. subst (λ h. NoneOutside f h ms) (ap (λ t. if t then l.0 else next_fence top_key ls f) e ∙ sym (ap (λ t. if t then l.0 else next_fence high ls f) e)) a)
    (λ e. subst (λ h. NoneOutside f h ms) (sym (ap (λ t. if t then l.0 else next_fence high ls f) e))
    (within_both high f ls ms (subst (λ h. NoneOutside f h ms) (ap (λ t. if t then l.0 else next_fence top_key ls f) e) a) b))
