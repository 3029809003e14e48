-- A message more in the root's own buffer.
use Rattle.std.proofs.Common.{◌≡◌, ◌≢◌, ℕ, zero, suc, ◌+◌, ◌<◌, ◌≤◌, ◌⊎◌, Bool, true, false, List, [], ◌∷◌, ◌++◌, length, Option, Some, None, refl, ap, ◌∙◌, sym, subst, arith, ⊎_elim, append_assoc}
use Rattle.std.specs.Prelude.{IsSome}
use Rattle.std.specs.List.{AllByRecursion}
use Rattle.std.specs.Ordering.{eq_by_cmp}
use Rattle.std.proofs.lemmas.Bool.{cases_order, cond-true, cond-false}
use Rattle.std.proofs.lemmas.List.{length-append}
use Rattle.std.proofs.lemmas.List.Sums.{sum_by-cons}
use Rattle.stow_flush.specs.StowLeaf.Intervals.{top_key, spans}
use Rattle.stow_flush.specs.StowLeaf.LeafRows.{row_messages}
use Rattle.stow_flush.proofs.StowLeaf.Found.{none_some, some_left}
use Rattle.stow_flush.proofs.StowLeaf.Ops.{Other, ops-append, ops-placed}
use Rattle.stow_flush.specs.StowMessage.Packed.{message_size}
use Rattle.stow_flush.specs.StowMessage.Rising.{placed, all_placed}
use Rattle.stow_flush.specs.StowNode.Flushes.{AreShort}
use Rattle.stow_flush.specs.StowNode.Moves.{accepted, CanAccept}
use Rattle.stow_flush.specs.StowNode.Subtree.{buffered, messages_of}
use Rattle.stow_flush.proofs.StowNode.Accepted.{length-all_placed}
use Rattle.stow_flush.proofs.StowNode.Newer.{new_to}
use Rattle.stow_flush.specs.StowLeaf.Replacements.{HasShortValues}
use Rattle.stow_tree_model.specs.Messages.{Messages, ops_of, ops_in, with_all}
use Rattle.stow_tree_model.specs.Op.{Op}
use Rattle.stow_tree_model.specs.Operations.{Operations, latest, applied, outcome, value_in, or_else}
use Rattle.stow_tree_model.specs.Order.{VersionPlace, place_cmp, place_of}
use Rattle.stow_tree_model.specs.TreeMessage.{TreeMessage}
use Rattle.stow_tree_model.specs.Value.{IsValue}
use Rattle.stow_tree_model.proofs.Histories.{value_in-numbered, ops_in-at}
use Rattle.stow_tree_model.proofs.Latest.{latest_same, latest_stays}
use Rattle.stow_tree_model.proofs.Orders.{place_cases, key_cases}
use Rattle.stow_tree_model.specs.Merged.{same_key}
use Rattle.stow_tree_model.proofs.SetLemmas.{set_by_ops_law, ops-with_all, ops_in-other_place}
use Rattle.stow_tree.specs.TreeState.{TreeState, tree_messages}
use Rattle.stow_tree.specs.Putting.{CanAdd, IsReserved, Puts}
use Rattle.stow_tree.proofs.Sets.{ops_messages}

-- the tree with the message in the root's own buffer
abbrev pub put : TreeMessage → TreeState → TreeState
put m t = record { root = accepted (m ∷ []) t.root; cache = t.cache }

-- the one message that is there
only : {X : Type 0} (m : TreeMessage) (key : List ℕ) (n : ℕ) → (key ≡ m.key → n ≡ m.number → ops_in (m ∷ []) key n ≡ Some m.op → X) → (ops_in (m ∷ []) key n ≡ None → X) → X
only m key n f g = ⊎_elim
    (λ (e : (◌≡◌ {A = VersionPlace} (key, n) (place_of m)) × (eq_by_cmp place_cmp (key, n) (place_of m) ≡ true)). f (ap (λ (p : VersionPlace). p.0) e.0) (ap (λ (p : VersionPlace). p.1) e.0) (cond-true _ _ _ e.1))
    (λ (e : (◌≢◌ {A = VersionPlace} (key, n) (place_of m)) × (eq_by_cmp place_cmp (key, n) (place_of m) ≡ false)). g (cond-false _ _ _ e.1))
    (place_cases (key, n) (place_of m))

-- nothing of a key from a number on
below_number : (f : Operations) (number k : ℕ) → ((n : ℕ) → number ≤ n → f n ≡ None) → IsSome (f k) → k < number
below_number f number k none some = ⊎_elim
    (λ (e : k ≡ number). absurd (none_some (f k) (none k (omega (arith, e))) some))
    (λ (h : (k < number) ⊎ (number < k)). ⊎_elim (λ (l : k < number). l) (λ (l : number < k). absurd (none_some (f k) (none k (omega (arith, l))) some)) h)
    (cases_order k number)

newest_in_root : (t : TreeState) (m : TreeMessage) → CanAdd (tree_messages t) m → (n : ℕ) → m.number ≤ n → ops_in (messages_of t.root) m.key n ≡ None
newest_in_root t m can n l = (λ i. sym (ops_messages t m.key) i n) ∙ can.newest n l

-- the root's buffer can take the first of the messages that there is room for
pub can_accept : (t : TreeState) (m : TreeMessage) (ms : List TreeMessage) → IsReserved t (m ∷ ms) → spans t.root.low top_key m.key ≡ true → CanAccept (m ∷ []) t.root
can_accept t m ms reserved own = record {
  room = let r = reserved.room in let a = sum_by-cons message_size m ms in let b = sum_by-cons message_size m [] in omega (arith, r, a, b);
  newer = record {
    above = λ key n k u l. only m key n
        (λ ek en there. subst (λ x. k < x) (sym en) (below_number (ops_in (messages_of t.root) m.key) m.number k (newest_in_root t m reserved.can.each.0) (subst (λ x. IsSome (ops_in (messages_of t.root) x k)) ek l)))
        (λ none. absurd (none_some (ops_in (m ∷ []) key n) none u));
  };
  within = record {
    outside = λ key n o. only m key n
        (λ ek en there. absurd (apart (ap (λ x. spans t.root.low top_key x) ek ∙ own) o))
        (λ none. none);
  };
}
  where
    apart : {b : Bool} → b ≡ true → b ≡ false → ⊥
    apart e f = cc

-- a message in the buffer is found as if it stood before all others
put_ops : (t : TreeState) (m : TreeMessage) (key : List ℕ) (n : ℕ) → CanAdd (tree_messages t) m → ops_in (messages_of (put m t).root) key n ≡ or_else (ops_in (m ∷ []) key n) (ops_in (messages_of t.root) key n)
put_ops t m key n can =
    ap (λ l. ops_in l key n) (append_assoc (placed m t.root.buffer.messages) t.root.deeper (row_messages t.root.leaves))
    ∙ ops-append (placed m t.root.buffer.messages) below key n
    ∙ ap (λ o. or_else o (ops_in below key n)) (ops-placed m t.root.buffer.messages key n others)
    ∙ ap (λ o. or_else o (ops_in below key n)) (ops-append (m ∷ []) t.root.buffer.messages key n)
    ∙ or_assoc (ops_in (m ∷ []) key n) (ops_in t.root.buffer.messages key n) (ops_in below key n)
    ∙ ap (or_else (ops_in (m ∷ []) key n)) (sym (whole key n))
  where
    below : List TreeMessage
    below = t.root.deeper ++ row_messages t.root.leaves

    or_assoc : (a b c : Option Op) → or_else (or_else a b) c ≡ or_else a (or_else b c)
    or_assoc None b c = refl
    or_assoc (Some op) b c = refl

    whole : (k : List ℕ) (j : ℕ) → ops_in (messages_of t.root) k j ≡ or_else (ops_in t.root.buffer.messages k j) (ops_in below k j)
    whole k j = ap (λ l. ops_in l k j) (append_assoc t.root.buffer.messages t.root.deeper (row_messages t.root.leaves)) ∙ ops-append t.root.buffer.messages below k j

    others : AllByRecursion (Other m) t.root.buffer.messages
    others = new_to m t.root.buffer.messages (λ k s. below_number (ops_in (messages_of t.root) m.key) m.number k (newest_in_root t m can)
        (subst IsSome (sym (whole m.key k)) (some_left (ops_in t.root.buffer.messages m.key k) (ops_in below m.key k) s)))

put_ops_of : (t : TreeState) (m : TreeMessage) (key : List ℕ) (n : ℕ) → CanAdd (tree_messages t) m → ops_of (tree_messages (put m t)) key n ≡ or_else (ops_in (m ∷ []) key n) (ops_of (tree_messages t) key n)
put_ops_of t m key n can =
    (λ i. ops_messages (put m t) key i n) ∙ put_ops t m key n can ∙ ap (or_else (ops_in (m ∷ []) key n)) (λ i. sym (ops_messages t key) i n)

-- what other keys have stays
other_key : (t : TreeState) (m : TreeMessage) (key : List ℕ) → CanAdd (tree_messages t) m → key ≢ m.key → ops_of (tree_messages (put m t)) key ≡ ops_of (tree_messages t) key
other_key t m key can ne i n = (put_ops_of t m key n can ∙ ap (λ o. or_else o (ops_of (tree_messages t) key n)) none) i where
  none : ops_in (m ∷ []) key n ≡ None
  none = only m key n (λ ek en there. absurd (ne ek)) (λ e. e)

can_add_other : (t : TreeState) (m o : TreeMessage) → CanAdd (tree_messages t) m → o.key ≢ m.key → CanAdd (tree_messages t) o → CanAdd (tree_messages (put m t)) o
can_add_other t m o can ne c = record {
  newest = λ n l. (λ i. other_key t m o.key can ne i n) ∙ c.newest n l;
  short = subst (λ (f : Operations). IsValue (outcome o.op (value_in (latest f o.number)))) (sym (other_key t m o.key can ne)) c.short;
}

-- the others can be put after the first
pub reserved_after : (t : TreeState) (m : TreeMessage) (ms : List TreeMessage) → IsReserved t (m ∷ ms) → IsReserved (put m t) ms
reserved_after t m ms reserved = record {
  can = record { apart = reserved.can.apart.1; each = each ms reserved.can.apart.0 reserved.can.each.1 };
  room = let r = reserved.room in let a = sum_by-cons message_size m ms in let b = sum_by-cons message_size m [] in omega (arith, r, a, b);
}
  where
    each : (os : List TreeMessage) → AllByRecursion (λ o. o.key ≢ m.key) os → AllByRecursion (CanAdd (tree_messages t)) os → AllByRecursion (CanAdd (tree_messages (put m t))) os
    each [] a c = tt
    each (o ∷ os) a c = (can_add_other t m o reserved.can.each.0 a.0 c.0, each os a.1 c.1)

-- messages of other keys don't stand at the place
elsewhere : (m : TreeMessage) (ms : List TreeMessage) → AllByRecursion (λ o. o.key ≢ m.key) ms → AllByRecursion (λ o. ◌≢◌ {A = VersionPlace} (m.key, m.number) (place_of o)) ms
elsewhere m [] a = tt
elsewhere m (o ∷ os) a = (λ e. a.0 (ap (λ (p : VersionPlace). p.0) (sym e)), elsewhere m os a.1)

-- a message and then others of other keys are all of them
pub one_then : (held : Messages) (m : TreeMessage) (ms : List TreeMessage) → AllByRecursion (λ o. o.key ≢ m.key) ms → with_all (with_all held (m ∷ [])) ms ≡ with_all held (m ∷ ms)
one_then held m ms apart = set_by_ops_law (with_all (with_all held (m ∷ [])) ms) (with_all held (m ∷ ms)) by_ops where
  swap : (a b c : Option Op) → (IsSome a → b ≡ None) → or_else b (or_else a c) ≡ or_else a (or_else b c)
  swap None b c h = refl
  swap (Some op) b c h = ap (λ o. or_else o (Some op)) (h refl)

  alone : (key : List ℕ) (n : ℕ) → IsSome (ops_in (m ∷ []) key n) → ops_in ms key n ≡ None
  alone key n s = only m key n
      (λ ek en there. ap (λ k. ops_in ms k n) ek ∙ ap (λ j. ops_in ms m.key j) en ∙ ops_in-other_place ms m.key m.number (elsewhere m ms apart))
      (λ none. absurd (none_some (ops_in (m ∷ []) key n) none s))

  first : (key : List ℕ) (n : ℕ) → ops_in (m ∷ ms) key n ≡ or_else (ops_in (m ∷ []) key n) (ops_in ms key n)
  first key n = ops-append (m ∷ []) ms key n

  or_assoc : (a b c : Option Op) → or_else (or_else a b) c ≡ or_else a (or_else b c)
  or_assoc None b c = refl
  or_assoc (Some op) b c = refl

  by_ops : (key : List ℕ) (n : ℕ) → ops_of (with_all (with_all held (m ∷ [])) ms) key n ≡ ops_of (with_all held (m ∷ ms)) key n
  by_ops key n =
      ops-with_all (with_all held (m ∷ [])) ms key n
      ∙ ap (or_else (ops_in ms key n)) (ops-with_all held (m ∷ []) key n)
      ∙ swap (ops_in (m ∷ []) key n) (ops_in ms key n) (ops_of held key n) (alone key n)
      ∙ sym (or_assoc (ops_in (m ∷ []) key n) (ops_in ms key n) (ops_of held key n))
      ∙ ap (λ o. or_else o (ops_of held key n)) (sym (first key n))
      ∙ sym (ops-with_all held (m ∷ ms) key n)

-- the first message and then the others are all of them
pub puts_after : (t : TreeState) (m : TreeMessage) (ms : List TreeMessage) (new : TreeState) → IsReserved t (m ∷ ms) → Puts ms (put m t) new → Puts (m ∷ ms) t new
puts_after t m ms new reserved puts = record {
  messages = puts.messages ∙ ap (λ (set : Messages). with_all set ms) one ∙ one_then (tree_messages t) m ms reserved.can.apart.0;
  buffered = let a = puts.buffered in let b = one_more in omega (arith, a, b);
  height = puts.height;
  shape = puts.shape;
  leaves = puts.leaves;
  cache = puts.cache;
  rest = λ more room. puts.rest more (reserved_after t m (ms ++ more) room);
}
  where
    one_more : length (buffered (put m t).root) ≡ length (buffered t.root) + 1
    one_more =
        let a = length-append (all_placed (m ∷ []) t.root.buffer.messages) t.root.deeper in
        let b = length-append t.root.buffer.messages t.root.deeper in
        let c = length-all_placed (m ∷ []) t.root.buffer.messages in
        omega (arith, a, b, c)

    one : tree_messages (put m t) ≡ with_all (tree_messages t) (m ∷ [])
    one = set_by_ops_law (tree_messages (put m t)) (with_all (tree_messages t) (m ∷ [])) (λ key n. put_ops_of t m key n reserved.can.each.0 ∙ sym (ops-with_all (tree_messages t) (m ∷ []) key n))

-- a message that was put alone, and then the others, are all of them
pub puts_then : (t mid : TreeState) (m : TreeMessage) (ms : List TreeMessage) → IsReserved t (m ∷ ms) → Puts (m ∷ []) t mid → with_all (tree_messages mid) ms ≡ with_all (tree_messages t) (m ∷ ms)
puts_then t mid m ms reserved puts = ap (λ (set : Messages). with_all set ms) puts.messages ∙ one_then (tree_messages t) m ms reserved.can.apart.0

pub puts_nothing : (t : TreeState) → Puts [] t t
puts_nothing t = record { messages = refl; buffered = omega arith; height = refl; shape = refl; leaves = refl; cache = refl; rest = λ more room. room }

-- ---- no value becomes too long

-- what an operation makes at its number
made : (f g : Operations) (op : Op) (j : ℕ) → g j ≡ Some op → ((k : ℕ) → k < j → g k ≡ f k) → f j ≡ None → value_in (latest g j) ≡ outcome op (value_in (latest f j))
unfolding latest
made f g op zero a s z = ap (λ o. value_in (applied 0 o None)) a ∙ value_in-numbered 0 (outcome op (value_in None)) ∙ ap (λ o. outcome op (value_in (applied 0 o None))) (sym z)
made f g op (suc j) a s z =
    ap (λ o. value_in (applied (suc j) o (latest g j))) a
    ∙ value_in-numbered (suc j) (outcome op (value_in (latest g j)))
    ∙ ap (λ x. outcome op (value_in x)) (latest_same g f j (λ k l. s k (omega (arith, l))))
    ∙ ap (λ o. outcome op (value_in (applied (suc j) o (latest f j)))) (sym z)

-- one operation over those that are all older
over_one : (f g : Operations) (op : Op) (number : ℕ) → ((n : ℕ) → number ≤ n → f n ≡ None) → ((n : ℕ) → n ≢ number → g n ≡ f n) → g number ≡ Some op
    → HasShortValues f → IsValue (outcome op (value_in (latest f number))) → HasShortValues g
over_one f g op number none elsewhere at short v n = ⊎_elim
    (λ (e : n ≡ number). from_here n (omega (arith, e)))
    (λ (h : (n < number) ⊎ (number < n)). ⊎_elim
    (λ (l : n < number). subst (λ x. IsValue (value_in x)) (sym (latest_same g f n (λ k le. elsewhere k (λ e. absurd (omega (arith, l, le, e)))))) (short n))
    (λ (l : number < n). from_here n (omega (arith, l)))
    h)
    (cases_order n number)
  where
    from_here : (j : ℕ) → number ≤ j → IsValue (value_in (latest g j))
    from_here j l =
        subst (λ x. IsValue (value_in x)) (sym (latest_stays g number j l (λ k a b. elsewhere k (λ e. absurd (omega (arith, a, e))) ∙ none k (omega (arith, a)))))
        (subst IsValue (sym (made f g op number at (λ k a. elsewhere k (λ e. absurd (omega (arith, a, e)))) (none number (omega arith)))) v)

-- the tree with the message has no longer values than values may be
pub short_after : (t : TreeState) (m : TreeMessage) → CanAdd (tree_messages t) m → AreShort (messages_of t.root) → AreShort (messages_of (put m t).root)
short_after t m can short key = ⊎_elim
    (λ (e : (key ≡ m.key) × (same_key key m.key ≡ true)). subst (λ k. HasShortValues (ops_in (messages_of (put m t).root) k)) (sym e.0) own)
    (λ (e : (key ≢ m.key) × (same_key key m.key ≡ false)). subst HasShortValues (sym (ops_messages t key) ∙ sym (other_key t m key can e.0) ∙ ops_messages (put m t) key) (short key))
    (key_cases key m.key)
  where
    own : HasShortValues (ops_in (messages_of (put m t).root) m.key)
    own = over_one (ops_in (messages_of t.root) m.key) (ops_in (messages_of (put m t).root) m.key) m.op m.number (newest_in_root t m can)
        (λ n ne. put_ops t m m.key n can ∙ ap (λ o. or_else o (ops_in (messages_of t.root) m.key n)) (only m m.key n (λ ek en there. absurd (ne en)) (λ e. e)))
        (put_ops t m m.key m.number can ∙ ap (λ o. or_else o (ops_in (messages_of t.root) m.key m.number)) (ops_in-at m []))
        (short m.key)
        (subst (λ (f : Operations). IsValue (outcome m.op (value_in (latest f m.number)))) (ops_messages t m.key) can.short)
