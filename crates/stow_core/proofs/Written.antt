-- A write's messages make its tenant's rows what they are to be.
use Rattle.std.proofs.Common.{◌≡◌, ◌≢◌, ℕ, suc, ◌<◌, ◌≤◌, ◌^◌, eqb, List, [], ◌∷◌, map, Option, Some, None, cond, ap, sym, ◌∙◌, subst, arith, true, false, refl, ◌⊎◌, inl, inr, ⊎_elim}
use Rattle.std.specs.Prelude.{Contains, IfSome}
use Rattle.std.specs.FinMap as finite
use Rattle.std.specs.List.{AllByRecursion}
use Rattle.std.proofs.lemmas.Bool.{cases_eq, cond-true, cond-false, eq-eqb}
use Rattle.stow_core.specs.Keys.{AreKeysOf}
use Rattle.stow_core.specs.Writes.{row_given, rows_given, write_of, writes_of}
use Rattle.stow_core.proofs.Keyed.{first_own, later_own, tenant_of_own}
use Rattle.stow_core.proofs.Stores.{version_value}
use Rattle.stow_model.specs.Store.{Rows, Version, rows_without}
use Rattle.stow_model.specs.Store as stored
use Rattle.stow_ledger.specs.StowState.Changes.{changes, message_to, changed_keys, AreOwn, AreWritten}
use Rattle.stow_ledger.specs.StowState.Rows.{rows_at, version_of, with_row}
use Rattle.stow_ledger.proofs.StowState.Changes.{own_rows_move_law}
use Rattle.stow_ledger.proofs.StowState.Rows.{get-with_row, rows_by_value_law}
use Rattle.stow_dropping.specs.StowTree.Putting.{AreApart}
use Rattle.stow_dropping.specs.StowTree.TreeState.{HasBound}
use Rattle.stow_tree_model.specs.Agreement.{TenantPins, TenantBounds, Agree, PinsBelow, with_bound}
use Rattle.stow_tree_model.specs.Keys.{packed, own_key, tenant_of}
use Rattle.stow_tree_model.specs.Messages.{Messages, ops_of, ops_in, value, with_all, IsCall}
use Rattle.stow_tree_model.specs.Merged.{same_key}
use Rattle.stow_tree_model.specs.Op.{Op, Gone}
use Rattle.stow_tree_model.specs.Operations.{NumberedValue, applied, latest, numbered, or_else, outcome, NoneAbove}
use Rattle.stow_tree_model.specs.Order.{VersionPlace}
use Rattle.stow_tree_model.specs.TreeMessage.{TreeMessage}
use Rattle.stow_tree_model.proofs.Histories.{ops_in-at, ops_in-skip}
use Rattle.stow_tree_model.proofs.Latest.{latest_same, agree_from}
use Rattle.stow_tree_model.proofs.Orders.{key_cases}
use Rattle.stow_tree_model.proofs.Packed.{own_key-packed, tenant_of-packed}
use Rattle.stow_tree_model.proofs.SetLemmas.{ops-with_all, others_stay_law, call_agrees_law}

-- ---- messages of a tenant's own keys

pub writes_own : (t number : ℕ) (op : Op) (keys : List (List ℕ)) → AreKeysOf t keys → AreOwn t number (writes_of number op keys)
writes_own t number op [] own = tt
writes_own t number op (key ∷ keys) own = ((first_own t key keys own, refl), writes_own t number op keys (later_own t key keys own))

messages_own : (t number : ℕ) (rows : Rows) (keys : List (List ℕ)) → AreOwn t number (map (message_to t number rows) keys)
messages_own t number rows [] = tt
messages_own t number rows (key ∷ keys) = ((ap (packed t) (own_key-packed t key), refl), messages_own t number rows keys)

changes_own : (t number : ℕ) (before after : Rows) → AreOwn t number (changes t number before after)
unfolding changes
changes_own t number before after = messages_own t number after (changed_keys before after)

own_is_call : (t number : ℕ) (ms : List TreeMessage) → t < 2 ^ 32 → AreOwn t number ms → IsCall t number ms
own_is_call t number [] low own = tt
own_is_call t number (m ∷ ms) low own = ((tenant_of_own t m.key low own.0.0, own.0.1), own_is_call t number ms low own.1)

-- there is none at another number, and none of a key that the tenant can't name
none_elsewhere : (t number : ℕ) (ms : List TreeMessage) (q : List ℕ) (n : ℕ) → AreOwn t number ms → (n ≢ number) ⊎ (packed t (own_key q) ≢ q) → ops_in ms q n ≡ None
none_elsewhere t number [] q n own why = refl
none_elsewhere t number (m ∷ ms) q n own why = ops_in-skip m ms q n apart ∙ none_elsewhere t number ms q n own.1 why where
  apart : ◌≢◌ {A = VersionPlace} (q, n) (m.key, m.number)
  apart e = ⊎_elim
      (λ (ne : n ≢ number). ne (ap (λ (p : VersionPlace). p.1) e ∙ own.0.1))
      (λ (ne : packed t (own_key q) ≢ q). ne (ap (λ (p : VersionPlace). packed t (own_key p.0)) e ∙ own.0.0 ∙ sym (ap (λ (p : VersionPlace). p.0) e)))
      why

-- ---- sets with such messages agree where they show the tenant the same

abbrev no_pins : TenantPins
no_pins t = []

agree_itself : (m : Messages) (bound : TenantBounds) → HasBound m bound → Agree m m no_pins bound
agree_itself m bound has key = record { at_pins = λ p c. refl; from_bound = λ n l. refl; left_below = has key; right_below = has key }

-- a call's messages are the newest of its tenant's
call_bound : (m : Messages) (bound : TenantBounds) (t number : ℕ) (ms : List TreeMessage) → suc (bound t) ≡ number → IsCall t number ms → HasBound m bound → HasBound (with_all m ms) (with_bound bound t number)
call_bound m bound t number ms next call has key =
    subst (λ n. NoneAbove (with_bound bound t n (tenant_of key)) (ops_of (with_all m ms) key)) next
    (call_agrees_law m m no_pins bound t ms (subst (λ n. IsCall t n ms) (sym next) call) (λ u p c. absurd (none_pinned p c)) (agree_itself m bound has) key).left_below
  where
    none_pinned : (p : ℕ) → Contains [] p → ⊥
    none_pinned p (k, l, e) = absurd (omega (arith, l))

-- the sets show the key the same at the number
abbrev ShowSame : Messages → Messages → List ℕ → ℕ → Type 0
ShowSame l r q n = value l q n ≡ value r q n

module _ (m : Messages) (pins : TenantPins) (bound : TenantBounds) (t last : ℕ) (low : t < 2 ^ 32) (at : bound t ≡ last) (has : HasBound m bound) (pins_below : PinsBelow pins bound) where
  -- where the messages are not, the set is as before
  stays : (ms : List TreeMessage) (q : List ℕ) (n : ℕ) → AreOwn t (suc last) ms → (n ≢ suc last) ⊎ (packed t (own_key q) ≢ q) → ops_of (with_all m ms) q n ≡ ops_of m q n
  stays ms q n own why = ops-with_all m ms q n ∙ ap (λ o. or_else o (ops_of m q n)) (none_elsewhere t (suc last) ms q n own why)

  own_agree : (ms ms' : List TreeMessage) → AreOwn t (suc last) ms → AreOwn t (suc last) ms' → ((k : List ℕ) → value (with_all m ms) (packed t k) (suc last) ≡ value (with_all m ms') (packed t k) (suc last))
      → Agree (with_all m ms) (with_all m ms') pins (with_bound bound t (suc last))
  own_agree ms ms' own own' makes q = agree_from (ops_of (with_all m ms) q) (ops_of (with_all m ms') q) (with_bound bound t (suc last) (tenant_of q)) pinned same (below ms own) (below ms' own') where
    below : (l : List TreeMessage) → AreOwn t (suc last) l → NoneAbove (with_bound bound t (suc last) (tenant_of q)) (ops_of (with_all m l) q)
    below l is = call_bound m bound t (suc last) l (ap suc at) (own_is_call t (suc last) l low is) has q

    untouched : (n : ℕ) → ((k : ℕ) → k ≤ n → (k ≢ suc last) ⊎ (packed t (own_key q) ≢ q)) → ShowSame (with_all m ms) (with_all m ms') q n
    untouched n why =
        latest_same (ops_of (with_all m ms) q) (ops_of m q) n (λ k l. stays ms q k own (why k l))
        ∙ sym (latest_same (ops_of (with_all m ms') q) (ops_of m q) n (λ k l. stays ms' q k own' (why k l)))

    elsewhere : (n : ℕ) → tenant_of q ≢ t → ShowSame (with_all m ms) (with_all m ms') q n
    elsewhere n ne = ap (λ f. latest f n) (others_stay_law m t (suc last) ms q (own_is_call t (suc last) ms low own) ne ∙ sym (others_stay_law m t (suc last) ms' q (own_is_call t (suc last) ms' low own') ne))

    pinned : (p : ℕ) → Contains (pins (tenant_of q)) p → ShowSame (with_all m ms) (with_all m ms') q p
    pinned p c = ⊎_elim
        (λ (e : tenant_of q ≡ t).
        let high : p ≤ bound (tenant_of q) = pins_below (tenant_of q) p c in
        let up : bound (tenant_of q) ≡ last = ap bound e ∙ at in
        untouched p (λ k l. inl (λ is. absurd (omega (arith, high, up, l, is)))))
        (λ (ne : tenant_of q ≢ t). elsewhere p ne)
        (cases_eq (tenant_of q) t)

    at_number : ShowSame (with_all m ms) (with_all m ms') q (suc last)
    at_number = ⊎_elim
        (λ (k : (packed t (own_key q) ≡ q) × (same_key (packed t (own_key q)) q ≡ true)). subst (λ x. value (with_all m ms) x (suc last) ≡ value (with_all m ms') x (suc last)) k.0 (makes (own_key q)))
        (λ (k : (packed t (own_key q) ≢ q) × (same_key (packed t (own_key q)) q ≡ false)). untouched (suc last) (λ _ _. inr k.0))
        (key_cases (packed t (own_key q)) q)

    same : ShowSame (with_all m ms) (with_all m ms') q (with_bound bound t (suc last) (tenant_of q))
    same = ⊎_elim
        (λ (e : tenant_of q ≡ t). subst (ShowSame (with_all m ms) (with_all m ms') q) (sym (cond-true (eqb (tenant_of q) t) _ _ (eq-eqb (tenant_of q) t e))) at_number)
        (λ (ne : tenant_of q ≢ t). elsewhere (with_bound bound t (suc last) (tenant_of q)) ne)
        (cases_eq (tenant_of q) t)

-- ---- the rows that a write leads to

numbered_row : (number : ℕ) (o : Option (List ℕ)) → IfSome (version_of (numbered number o)) (λ v. v.number ≡ number)
numbered_row number None = tt
numbered_row number (Some value) = refl

-- the rows once one key got the operation
abbrev next_rows : ℕ → Op → List ℕ → Rows → Rows
next_rows number op key rows = with_row key (row_given number op (finite.get rows key)) rows

get-next_rows : (number : ℕ) (op : Op) (key : List ℕ) (rows : Rows) (k : List ℕ) → finite.get (next_rows number op key rows) k ≡ cond (same_key k key) (row_given number op (finite.get rows key)) (finite.get rows k)
get-next_rows number op key rows k = get-with_row key (row_given number op (finite.get rows key)) rows k

-- each of them is as before, or has the write's number, or is gone
pub given_are_written : (number : ℕ) (op : Op) (keys : List (List ℕ)) (rows : Rows) → AreWritten number rows (rows_given number op keys rows)
given_are_written number op [] rows k = inl refl
given_are_written number op (key ∷ keys) rows k = ⊎_elim
    (λ (stays : finite.get (rows_given number op keys (next_rows number op key rows)) k ≡ finite.get (next_rows number op key rows) k). ⊎_elim
    (λ (s : (k ≡ key) × (same_key k key ≡ true)). inr (subst (λ o. IfSome o (λ v. v.number ≡ number)) (sym (stays ∙ get-next_rows number op key rows k ∙ cond-true _ _ _ s.1)) (numbered_row number _)))
    (λ (s : (k ≢ key) × (same_key k key ≡ false)). inl (stays ∙ get-next_rows number op key rows k ∙ cond-false _ _ _ s.1))
    (key_cases k key))
    (λ (is : IfSome (finite.get (rows_given number op keys (next_rows number op key rows)) k) (λ v. v.number ≡ number)). inr is)
    (given_are_written number op keys (next_rows number op key rows) k)

-- where it takes values away, rows go
pub given_gone : (number : ℕ) (keys : List (List ℕ)) (rows : Rows) → rows_given number Gone keys rows ≡ rows_without keys rows
given_gone number [] rows = refl
given_gone number (key ∷ keys) rows = given_gone number keys (finite.remove rows key)

-- the row of a key that is none of these stays
other_row : (t number : ℕ) (op : Op) (keys : List (List ℕ)) (rows : Rows) (k : List ℕ) → AreKeysOf t keys → AllByRecursion (λ (o : TreeMessage). o.key ≢ packed t k) (writes_of number op keys) → finite.get (rows_given number op (map own_key keys) rows) k ≡ finite.get rows k
other_row t number op [] rows k own none = refl
other_row t number op (key ∷ keys) rows k own none = ⊎_elim
    (λ (s : (k ≡ own_key key) × (same_key k (own_key key) ≡ true)). absurd (none.0 (sym (first_own t key keys own) ∙ ap (packed t) (sym s.0))))
    (λ (s : (k ≢ own_key key) × (same_key k (own_key key) ≡ false)). other_row t number op keys _ k (later_own t key keys own) none.1 ∙ get-with_row (own_key key) _ rows k ∙ cond-false _ _ _ s.1)
    (key_cases k (own_key key))

-- the row of each key is what its message makes of what the key has
given_row : (t number : ℕ) (op : Op) (keys : List (List ℕ)) (rows : Rows) (k : List ℕ) (x : Option NumberedValue) → AreKeysOf t keys → AreApart (writes_of number op keys) → finite.get rows k ≡ version_of x
    → version_of (applied number (ops_in (writes_of number op keys) (packed t k) number) x) ≡ finite.get (rows_given number op (map own_key keys) rows) k
given_row t number op [] rows k x own apart is = sym is
given_row t number op (key ∷ keys) rows k x own apart is = ⊎_elim
    (λ (s : (k ≡ own_key key) × (same_key k (own_key key) ≡ true)).
    let here : packed t k ≡ key = ap (packed t) s.0 ∙ first_own t key keys own in
    ap (λ q. version_of (applied number (ops_in (writes_of number op (key ∷ keys)) q number) x)) here
    ∙ ap (λ o. version_of (applied number o x)) (ops_in-at (write_of number op key) (writes_of number op keys))
    ∙ ap (λ v. version_of (numbered number (outcome op v))) (sym (version_value x) ∙ ap stored.value_in (sym is) ∙ ap (λ y. stored.value_in (finite.get rows y)) s.0)
    ∙ sym (cond-true _ _ _ s.1)
    ∙ sym (get-next_rows number op (own_key key) rows k)
    ∙ sym (other_row t number op keys (next_rows number op (own_key key) rows) k (later_own t key keys own) (subst (λ q. AllByRecursion (λ (o : TreeMessage). o.key ≢ q) (writes_of number op keys)) (sym here) apart.0)))
    (λ (s : (k ≢ own_key key) × (same_key k (own_key key) ≡ false)).
    ap (λ o. version_of (applied number o x)) (ops_in-skip (write_of number op key) (writes_of number op keys) (packed t k) number (λ e. s.0 (sym (own_key-packed t k) ∙ ap (λ (p : VersionPlace). own_key p.0) e)))
    ∙ given_row t number op keys (next_rows number op (own_key key) rows) k x (later_own t key keys own) apart.1 (get-next_rows number op (own_key key) rows k ∙ cond-false _ _ _ s.1 ∙ is))
    (key_cases k (own_key key))

back : Option Version → Option NumberedValue
back None = None
back (Some v) = Some (record { number = v.number; value = v.value })

back_again : (x : Option NumberedValue) → back (version_of x) ≡ x
unfolding back
back_again None = refl
back_again (Some v) = refl

same_version : (x y : Option NumberedValue) → version_of x ≡ version_of y → x ≡ y
same_version x y e = sym (back_again x) ∙ ap back e ∙ back_again y

or_none : (o : Option Op) → or_else o None ≡ o
or_none None = refl
or_none (Some op) = refl

-- The messages of a write, whatever it does to its keys' values, mean the same as those that the rows before and after
-- it ask for, under all pins that are not above the last writes.
pub write_agrees : (m : Messages) (pins : TenantPins) (bound : TenantBounds) (t last : ℕ) (op : Op) (keys : List (List ℕ)) → t < 2 ^ 32 → bound t ≡ last → HasBound m bound → PinsBelow pins bound → AreKeysOf t keys → AreApart (writes_of (suc last) op keys)
    → Agree (with_all m (changes t (suc last) (rows_at m t last) (rows_given (suc last) op (map own_key keys) (rows_at m t last)))) (with_all m (writes_of (suc last) op keys)) pins (with_bound bound t (suc last))
unfolding latest
write_agrees m pins bound t last op keys low at has pins_below own apart =
    own_agree m pins bound t last low at has pins_below (changes t (suc last) rows after) ms (changes_own t (suc last) rows after) (writes_own t (suc last) op keys own) (λ k. same_version _ _ (
    sym (rows_by_value_law (with_all m (changes t (suc last) rows after)) t (suc last) k)
    ∙ ap (λ r. finite.get r k) (own_rows_move_law m t last after none (given_are_written (suc last) op (map own_key keys) rows))
    ∙ sym (given_row t (suc last) op keys rows k (value m (packed t k) last) own apart (rows_by_value_law m t last k))
    ∙ ap version_of (sym (newest k))))
  where
    rows : Rows
    rows = rows_at m t last

    after : Rows
    after = rows_given (suc last) op (map own_key keys) rows

    ms : List TreeMessage
    ms = writes_of (suc last) op keys

    none : (k : List ℕ) → NoneAbove last (ops_of m (packed t k))
    none k = subst (λ b. NoneAbove b (ops_of m (packed t k))) (ap bound (tenant_of-packed t k low) ∙ at) (has (packed t k))

    newest : (k : List ℕ) → value (with_all m ms) (packed t k) (suc last) ≡ applied (suc last) (ops_in ms (packed t k) (suc last)) (value m (packed t k) last)
    newest k = λ i. applied (suc last) (top i) (before i) where
      top : ops_of (with_all m ms) (packed t k) (suc last) ≡ ops_in ms (packed t k) (suc last)
      top = ops-with_all m ms (packed t k) (suc last) ∙ ap (or_else (ops_in ms (packed t k) (suc last))) (none k (suc last) (omega arith)) ∙ or_none (ops_in ms (packed t k) (suc last))

      before : latest (ops_of (with_all m ms) (packed t k)) last ≡ latest (ops_of m (packed t k)) last
      before = latest_same (ops_of (with_all m ms) (packed t k)) (ops_of m (packed t k)) last (λ n l. stays m pins bound t last low at has pins_below ms (packed t k) n (writes_own t (suc last) op keys own) (inl (λ e. absurd (omega (arith, e, l)))))
