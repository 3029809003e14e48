-- What the tree has to be told of messages before there is room for them.
use Rattle.std.proofs.Common.{◌≡◌, ◌≢◌, ℕ, zero, suc, ◌+◌, ◌*◌, ◌<◌, ◌≤◌, List, [], ◌∷◌, length, drop, get_or, Option, None, refl, ap, sym, ◌∙◌, subst, arith}
use Rattle.std.specs.List.{AllByRecursion}
use Rattle.std.proofs.Math.Seq.{drop-cons}
use Rattle.std.proofs.lemmas.List.{length-append}
use Rattle.std.proofs.lemmas.List.Sums.{sum_by-cons}
use Rattle.stow_bytes.specs.Limits.{value_limit, number_limit}
use Rattle.stow_dropping.specs.StowMessage.Packed.{message_size, IsMessage}
use Rattle.stow_core.specs.Keys.{AreKeysOf}
use Rattle.stow_dropping.specs.StowTree.Shapes.{AreInRange}
use Rattle.stow_core.specs.Taken.{AreDistinct}
use Rattle.stow_core.specs.Writes.{write_of, writes_of, AreMessages, StaysShort}
use Rattle.stow_core.proofs.Keyed.{first_own, later_own, tenant_of_own}
use Rattle.stow_dropping.specs.StowTree.Putting.{CanAdd, CanReserve, IsReserved, AreApart, Puts, bytes_of}
use Rattle.stow_dropping.specs.StowTree.TreeState.{TreeState, tree_messages, HasBound}
use Rattle.stow_dropping.proofs.StowTree.Put.{puts_then}
use Rattle.stow_tree_model.specs.Keys.{packed, own_key, tenant_of, IsTenantKey}
use Rattle.stow_tree_model.specs.Messages.{Messages, ops_of, value, with_all}
use Rattle.stow_tree_model.specs.Op.{Op, Put, Gone, Append, bytes_in}
use Rattle.stow_tree_model.specs.Operations.{outcome, value_in, bytes_or_none, NoneAbove}
use Rattle.stow_tree_model.specs.TreeMessage.{TreeMessage}
use Rattle.stow_tree_model.specs.Value.{IsValue}
use Rattle.stow_tree_model.proofs.Latest.{above_bound}

-- ---- messages of a tenant

-- an operation carries no more than what it makes
carried_short : (op : Op) (before : Option (List ℕ)) → StaysShort op before → length (bytes_in op) ≤ value_limit
carried_short (Put value) before short = short
carried_short Gone before short = omega arith
carried_short (Append suffix) before short = let e = length-append (bytes_or_none before) suffix in omega (arith, e, short)

pub writes_are_messages : (t number : ℕ) (op : Op) (before : List ℕ → Option (List ℕ)) (keys : List (List ℕ)) → 1 ≤ t → t ≤ 65535 → AreKeysOf t keys → AllByRecursion IsTenantKey keys → 1 ≤ number → number ≤ number_limit → AllByRecursion (λ key. StaysShort op (before key)) keys
    → AreMessages (writes_of number op keys)
writes_are_messages t number op before [] low high own are positive limit short = tt
writes_are_messages t number op before (key ∷ keys) low high own are positive limit short = (
  record {
    is_key = are.0;
    is_of_tenant = subst (λ u. (1 ≤ u) × (u ≤ 65535)) (sym (tenant_of_own t key (omega (arith, high)) (first_own t key keys own))) (low, high);
    is_numbered = (positive, limit);
    is_short = carried_short op (before key) short.0;
  },
  writes_are_messages t number op before keys low high (later_own t key keys own) are.1 positive limit short.1,
)

-- the bytes that a message takes, whose key is one of a tenant's
pub one_write_fits : (number : ℕ) (op : Op) (key : List ℕ) (before : Option (List ℕ)) → IsTenantKey key → StaysShort op before → bytes_of (writes_of number op (key ∷ [])) ≤ 2097152
one_write_fits number op key before is short = let a = sum_by-cons message_size (write_of number op key) [] in let k = is.is_short in let s = carried_short op before short in omega (arith, a, k, s)

removals_small : (number : ℕ) (keys : List (List ℕ)) → AllByRecursion IsTenantKey keys → bytes_of (writes_of number Gone keys) ≤ 1047 * length keys
removals_small number [] are = omega arith
removals_small number (key ∷ keys) are =
    let a = sum_by-cons message_size (write_of number Gone key) (writes_of number Gone keys) in
    let k = are.0.is_short in
    let rest = removals_small number keys are.1 in
    omega (arith, a, k, rest)

pub removals_fit : (number : ℕ) (keys : List (List ℕ)) → AllByRecursion IsTenantKey keys → length keys ≤ 64 → bytes_of (writes_of number Gone keys) ≤ 2097152
removals_fit number keys are few = let small = removals_small number keys are in omega (arith, small, few)

-- and what takes values away makes none that is too long
pub removals_short : (before : List ℕ → Option (List ℕ)) (keys : List (List ℕ)) → AllByRecursion (λ key. StaysShort Gone (before key)) keys
removals_short before [] = tt
removals_short before (key ∷ keys) = (omega arith, removals_short before keys)

-- ---- they can be put

some_value : (v : Option (List ℕ)) → length (bytes_or_none v) ≤ value_limit → IsValue v
some_value v short = record { is_short = λ bytes e. subst (λ o. length (bytes_or_none o) ≤ value_limit) e short }

newer : (m : Messages) (bound : ℕ → ℕ) (t number : ℕ) (key : List ℕ) → HasBound m bound → tenant_of key ≡ t → bound t < number → (n : ℕ) → number ≤ n → ops_of m key n ≡ None
newer m bound t number key has own above n l = has key n (let e : bound (tenant_of key) ≡ bound t = ap bound own in omega (arith, e, above, l))

pub writes_apart : (number : ℕ) (op : Op) (keys : List (List ℕ)) → AreDistinct keys → AreApart (writes_of number op keys)
writes_apart number op [] d = tt
writes_apart number op (key ∷ keys) d = (all keys d.0, writes_apart number op keys d.1) where
  all : (ks : List (List ℕ)) → AllByRecursion (λ k. k ≢ key) ks → AllByRecursion (λ (o : TreeMessage). o.key ≢ key) (writes_of number op ks)
  all [] h = tt
  all (k ∷ ks) h = (h.0, all ks h.1)

module _ (bound : ℕ → ℕ) (tree : TreeState) (below : HasBound (tree_messages tree) bound) (sizes : AreInRange tree.root.shape) (t number : ℕ) (high : t ≤ 65535) (above : bound t < number) (op : Op) where
  -- what the key has at the last number
  abbrev pub last_value : List ℕ → Option (List ℕ)
  last_value key = value_in (value (tree_messages tree) key (bound t))

  -- is what it has at the next
  value_at : (key : List ℕ) → packed t (own_key key) ≡ key → value (tree_messages tree) key number ≡ value (tree_messages tree) key (bound t)
  value_at key own =
      above_bound (ops_of (tree_messages tree) key) (bound t) number (omega (arith, above))
      (subst (λ u. NoneAbove (bound u) (ops_of (tree_messages tree) key)) (tenant_of_own t key (omega (arith, high)) own) (below key))

  writes_newer : (keys : List (List ℕ)) → AreKeysOf t keys → AllByRecursion (λ key. StaysShort op (last_value key)) keys → AllByRecursion (CanAdd (tree_messages tree)) (writes_of number op keys)
  writes_newer [] own short = tt
  writes_newer (key ∷ keys) own short = (
    record {
      newest = newer (tree_messages tree) bound t number key below (tenant_of_own t key (omega (arith, high)) (first_own t key keys own)) above;
      short = subst (λ v. IsValue (outcome op (value_in v))) (sym (value_at key (first_own t key keys own))) (some_value (outcome op (last_value key)) short.0);
    },
    writes_newer keys (later_own t key keys own) short.1,
  )

  pub can_write_rows : (keys : List (List ℕ)) → AreKeysOf t keys → AreDistinct keys → AllByRecursion (λ key. StaysShort op (last_value key)) keys → bytes_of (writes_of number op keys) ≤ 2097152 → CanReserve tree (writes_of number op keys)
  can_write_rows keys own distinct short fit = record {
    can = record { apart = writes_apart number op keys distinct; each = writes_newer keys own short };
    fit = (let room = sizes.buffer.0 in omega (arith, fit, room));
  }

-- ---- one after another

-- there is room for the first of them
pub first_reserved : (tree : TreeState) (m : TreeMessage) (ms : List TreeMessage) → IsReserved tree (m ∷ ms) → IsReserved tree (m ∷ [])
first_reserved tree m ms reserved = record {
  can = record { apart = (tt, tt); each = (reserved.can.each.0, tt) };
  room = let r = reserved.room in let a = sum_by-cons message_size m ms in let b = sum_by-cons message_size m [] in omega (arith, r, a, b);
}

module _ (number : ℕ) (op : Op) (keys : List (List ℕ)) where
  -- all but the first messages are still to be put
  pub record IsPutting (old now : TreeState) (i : ℕ) : Type 0 where
    pub reserved : IsReserved now (writes_of number op (drop i keys))
    pub onward : with_all (tree_messages now) (writes_of number op (drop i keys)) ≡ with_all (tree_messages old) (writes_of number op keys)
    pub shape : now.root.shape ≡ old.root.shape

  drop-at : (i : ℕ) (key : List ℕ) → i < length keys → key ≡ get_or keys i key → drop i keys ≡ key ∷ drop (suc i) keys
  drop-at i key l is = drop-cons keys i key l ∙ ap (λ x. x ∷ drop (suc i) keys) (sym is)

  pub next_to_put : (old now : TreeState) (i : ℕ) (key : List ℕ) → i < length keys → key ≡ get_or keys i key → IsPutting old now i → IsReserved now (write_of number op key ∷ writes_of number op (drop (suc i) keys))
  next_to_put old now i key l is so = subst (λ ks. IsReserved now (writes_of number op ks)) (drop-at i key l is) so.reserved

  pub putting_on : (old now new : TreeState) (i : ℕ) (key : List ℕ) → i < length keys → key ≡ get_or keys i key → IsPutting old now i → Puts (write_of number op key ∷ []) now new → IsPutting old new (i + 1)
  putting_on old now new i key l is so puts = subst (IsPutting old new) next (record {
    reserved = puts.rest (writes_of number op (drop (suc i) keys)) room;
    onward =
        puts_then now new (write_of number op key) (writes_of number op (drop (suc i) keys)) room puts
        ∙ ap (λ ks. with_all (tree_messages now) (writes_of number op ks)) (sym (drop-at i key l is))
        ∙ so.onward;
    shape = puts.shape ∙ so.shape;
  })
    where
      next : suc i ≡ i + 1
      next = omega arith

      room : IsReserved now (write_of number op key ∷ writes_of number op (drop (suc i) keys))
      room = next_to_put old now i key l is so

drop-past : (keys : List (List ℕ)) (i : ℕ) → length keys ≤ i → drop i keys ≡ []
drop-past [] zero l = refl
drop-past [] (suc i) l = refl
drop-past (x ∷ keys) zero l = absurd (omega (arith, l))
drop-past (x ∷ keys) (suc i) l = drop-past keys i (omega (arith, l))

pub put_all_of : (number : ℕ) (op : Op) (keys : List (List ℕ)) (old now : TreeState) (i : ℕ) → length keys ≤ i → IsPutting number op keys old now i → tree_messages now ≡ with_all (tree_messages old) (writes_of number op keys)
put_all_of number op keys old now i l so = ap (λ ks. with_all (tree_messages now) (writes_of number op ks)) (sym (drop-past keys i l)) ∙ so.onward

-- one of the messages
pub message_at : (number : ℕ) (op : Op) (keys : List (List ℕ)) (i : ℕ) (key : List ℕ) → AreMessages (writes_of number op keys) → i < length keys → key ≡ get_or keys i key → IsMessage (write_of number op key)
message_at number op [] i key all l is = absurd (omega (arith, l))
message_at number op (k ∷ keys) zero key all l is = subst (λ x. IsMessage (write_of number op x)) (sym is) all.0
message_at number op (k ∷ keys) (suc i) key all l is = message_at number op keys i key all.1 (omega (arith, l)) is
