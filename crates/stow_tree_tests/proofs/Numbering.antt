-- The numbers of a tree's messages, as room is made and messages are put.
use Rattle.std.proofs.Common.{◌≡◌, ◌≢◌, ℕ, ◌<◌, ◌≤◌, true, false, List, [], ◌∷◌, length, Some, None, ap, ◌∙◌, sym, subst, arith, ⊎_elim}
use Rattle.std.specs.FinMap as finite
use Rattle.std.specs.List.{AllByRecursion}
use Rattle.std.proofs.lemmas.List.Sums.{sum_by-cons}
use Rattle.stow_message.specs.Packed.{message_size}
use Rattle.stow_dropping.specs.StowNode.Subtree.{Subtree}
use Rattle.stow_tree_model.specs.Agreement.{TenantPins}
use Rattle.stow_tree_model.specs.Merged.{same_key}
use Rattle.stow_tree_model.specs.Messages.{Messages, ops_of, value}
use Rattle.stow_tree_model.specs.Op.{Op, Gone, bytes_in}
use Rattle.stow_tree_model.specs.Operations.{or_else, outcome, value_in}
use Rattle.stow_tree_model.specs.Order.{VersionPlace, place_cmp, place_of}
use Rattle.stow_tree_model.specs.TreeMessage.{TreeMessage}
use Rattle.stow_tree_model.specs.Value.{IsValue}
use Rattle.stow_tree_model.proofs.Orders.{key_cases}
use Rattle.stow_tree_model.proofs.SetLemmas.{ops-with_all, ops_in-other_place}
use Rattle.stow_dropping.specs.StowTree.Putting.{CanAdd, CanReserve, Puts}
use Rattle.stow_dropping.specs.StowTree.TreeState.{TreeState, tree_messages, AgreeUnder, HasBound}
use Rattle.stow_dropping.proofs.StowTree.Sets.{same_messages}

-- what agrees has the same bound
pub bound_under : (pins : TenantPins) (old new : Messages) (last : ℕ) → AgreeUnder pins old new → HasBound old (λ t. last) → HasBound new (λ t. last)
bound_under pins old new last agree has key = (agree (λ t. last) has key).right_below

-- messages of one number have none above it
numbered_alike : (number : ℕ) (ms : List TreeMessage) (key : List ℕ) (n : ℕ) → AllByRecursion (λ m. m.number ≡ number) ms → number < n → AllByRecursion (λ m. ◌≢◌ {A = VersionPlace} (key, n) (place_of m)) ms
numbered_alike number [] key n all above = tt
numbered_alike number (m ∷ ms) key n all above = (λ e. higher (ap (λ (p : VersionPlace). p.1) e), numbered_alike number ms key n all.1 above)
  where
    higher : n ≡ m.number → ⊥
    higher e = let is = all.0 in omega (arith, e, is, above)

-- messages of one number raise the bound to it
pub bound_after : (old new : TreeState) (number : ℕ) (ms : List TreeMessage) (last : ℕ) → AllByRecursion (λ m. m.number ≡ number) ms → Puts ms old new → last < number → HasBound (tree_messages old) (λ t. last) → HasBound (tree_messages new) (λ t. number)
bound_after old new number ms last all puts newer has key n above =
    ap (λ (set : Messages). ops_of set key n) (puts.messages)
    ∙ ops-with_all (tree_messages old) ms key n
    ∙ ap (λ o. or_else o (ops_of (tree_messages old) key n)) (ops_in-other_place ms key n (numbered_alike number ms key n all above))
    ∙ has key n (omega (arith, newer, above))

-- what leaves the messages leaves the bound
pub bound_stays : (old new : TreeState) (last : ℕ) → new.root ≡ old.root → HasBound (tree_messages old) (λ t. last) → HasBound (tree_messages new) (λ t. last)
bound_stays old new last root has = subst (λ ms. HasBound ms (λ t. last)) (sym (same_messages old new root)) has

pub room_stays : (old new : TreeState) → new.root ≡ old.root → 2097152 ≤ old.root.shape.buffer → 2097152 ≤ new.root.shape.buffer
room_stays old new root room = let same = ap (λ (r : Subtree). r.shape.buffer) root in omega (arith, same, room)

-- a new tree has no number
pub bound_of_none : (t : TreeState) → tree_messages t ≡ finite.empty → HasBound (tree_messages t) (λ tenant. 0)
bound_of_none t empty key n above = ap (λ (set : Messages). ops_of set key n) empty ∙ finite.get-empty place_cmp (key, n)

not_some : {X : Type 0} (x : X) → None ≡ Some x → ⊥
not_some x e = cc

nothing_is_value : IsValue None
nothing_is_value = record { is_short = λ bytes e. absurd (not_some bytes e) }

-- a removal of a number above the bound
can_add_removal : (held : Messages) (m : TreeMessage) (last : ℕ) → HasBound held (λ t. last) → last < m.number → m.op ≡ Gone → CanAdd held m
can_add_removal held m last has newer gone = record {
  newest = λ n l. has m.key n (omega (arith, newer, l));
  short = subst (λ (op : Op). IsValue (outcome op (value_in (value held m.key m.number)))) (sym gone) nothing_is_value;
}

small_removal : (m : TreeMessage) → m.op ≡ Gone → length m.key ≤ 1028 → message_size m ≤ 1047
small_removal m gone key = let none = ap (λ op. length (bytes_in op)) gone in omega (arith, none, key)

pub other_keys : (key other : List ℕ) → same_key key other ≡ false → other ≢ key
other_keys key other differ e = ⊎_elim
    (λ (c : (key ≡ other) × (same_key key other ≡ true)). apart c.1)
    (λ (c : (key ≢ other) × (same_key key other ≡ false)). c.0 (sym e))
    (key_cases key other)
  where
    apart : same_key key other ≡ true → ⊥
    apart s = cc

-- two keys can be removed with one number above the bound
pub can_remove_both : (t : TreeState) (m o : TreeMessage) (last : ℕ) → HasBound (tree_messages t) (λ tenant. last) → 2097152 ≤ t.root.shape.buffer
    → last < m.number → last < o.number → m.op ≡ Gone → o.op ≡ Gone → o.key ≢ m.key → length m.key ≤ 1028 → length o.key ≤ 1028 → CanReserve t (m ∷ o ∷ [])
can_remove_both t m o last has room newer newer' gone gone' apart short short' = record {
  can = record {
    apart = ((apart, tt), (tt, tt));
    each = (can_add_removal (tree_messages t) m last has newer gone, (can_add_removal (tree_messages t) o last has newer' gone', tt));
  };
  fit =
      let a = sum_by-cons message_size m (o ∷ []) in
      let b = sum_by-cons message_size o [] in
      let c = small_removal m gone short in
      let d = small_removal o gone' short' in
      omega (arith, a, b, c, d, room);
}
