-- The messages of a call.
use Rattle.std.proofs.Common.{◌≡◌, ◌≢◌, ℕ, zero, suc, ◌<◌, ◌≤◌, Bool, true, false, List, [], ◌∷◌, Option, Some, None, is_some, refl, ap, ◌∙◌, sym, subst, arith, ⊎_elim, inl, inr, ◌⊎◌, cond, eqb}
use Rattle.std.specs.Prelude.{map, filter, not, if◌then◌else◌, ◌&&◌, ◌||◌, IfSome, IsSome}
use Rattle.std.specs.FinMap as finite
use Rattle.std.specs.List.{list_any, AllByRecursion}
use Rattle.std.specs.Str.{bytes_eq}
use Rattle.std.specs.Cmp.Lexicographic.{bytes_decides, nat_list_cmp_total}
use Rattle.std.proofs.lemmas.Bool.{cases_eq, cases_Bool, eq-eqb, ne_eqb, cond-true, cond-false, and_from, and_left, and_right, or_left}
use Rattle.std.proofs.lemmas.List.Folds.{list_any-append}
use Rattle.std.proofs.lemmas.Map.Views.{any-filter_same}
use Rattle.stow_model.specs.Store.{Rows, Version, rows_without}
use Rattle.stow_tree_model.specs.Keys.{packed, own_key}
use Rattle.stow_tree_model.specs.Op.{Op, Put, Gone}
use Rattle.stow_tree_model.specs.TreeMessage.{TreeMessage}
use Rattle.stow_tree_model.specs.Order.{VersionPlace}
use Rattle.stow_tree_model.specs.Operations.{NumberedValue, Operations, numbered, value_in, outcome as operated, applied, latest, or_else}
use Rattle.stow_tree_model.specs.Messages.{Messages, ops_of, ops_in, value, with_all}
use Rattle.stow_tree_model.specs.Merged.{same_key}
use Rattle.stow_tree_model.proofs.Orders.{key_cases}
use Rattle.stow_tree_model.proofs.Packed.{own_key-packed}
use Rattle.stow_tree_model.proofs.Latest.{latest_same}
use Rattle.stow_tree_model.proofs.Histories.{ops_in-at, ops_in-skip}
use Rattle.stow_tree_model.proofs.SetLemmas.{ops-with_all, set_by_ops_law}
use Rattle.stow_state.specs.Rows.{version_of, rows_at}
use Rattle.stow_state.specs.Changes.{is_same_row, keys_of_both, changed_keys, op_to, message_to, changes, op_between, AreOwn, AreRowsBefore, put_message, gone_message, AreWritten, RowsAreBelow, WritesByMessages, ChangesByRows, ChangesOnce, OwnRowsMove, EarlierRowsStay, WritesAreWritten}
use Rattle.stow_state.proofs.Rows.{rows_by_value_law, rows_by_values, same_rows}

-- ---- the same row

pub row_cases : (a b : Option Version) → ((a ≡ b) × (is_same_row a b ≡ true)) ⊎ ((a ≢ b) × (is_same_row a b ≡ false))
row_cases None None = inl (refl, refl)
row_cases None (Some b) = inr (λ e. cc, refl)
row_cases (Some a) None = inr (λ e. cc, refl)
row_cases (Some a) (Some b) = ⊎_elim
    (λ (n : a.number ≡ b.number). ⊎_elim
    (λ (v : bytes_eq a.value b.value ≡ true).
    let same : a.value ≡ b.value = (bytes_decides a.value b.value).0 v in
    inl ((λ i. Some (record { number = n i; value = same i })), and_from (eqb a.number b.number) (bytes_eq a.value b.value) (eq-eqb a.number b.number n) v))
    (λ (v : bytes_eq a.value b.value ≡ false). inr (
      (λ e. let z : false ≡ true = sym v ∙ (bytes_decides a.value b.value).1 (ap value_or_none e) in cc),
      and_right (eqb a.number b.number) (bytes_eq a.value b.value) v,
    ))
    (cases_Bool (bytes_eq a.value b.value)))
    (λ (n : a.number ≢ b.number). inr ((λ e. n (ap number_or_zero e)), and_left (eqb a.number b.number) (bytes_eq a.value b.value) (ne_eqb a.number b.number n)))
    (cases_eq a.number b.number)
  where
    value_or_none : Option Version → List ℕ
    value_or_none None = []
    value_or_none (Some v) = v.value

    number_or_zero : Option Version → ℕ
    number_or_zero None = 0
    number_or_zero (Some v) = v.number

same_itself : (a : Option Version) → is_same_row a a ≡ true
same_itself a = ⊎_elim (λ (h : (a ≡ a) × (is_same_row a a ≡ true)). h.1) (λ (h : (a ≢ a) × (is_same_row a a ≡ false)). absurd (h.0 refl)) (row_cases a a)

-- ---- the operations of a call

same_is : (k x : List ℕ) → same_key k x ≡ true → k ≡ x
same_is k x e = ⊎_elim (λ (h : (k ≡ x) × (same_key k x ≡ true)). h.0) (λ (h : (k ≢ x) × (same_key k x ≡ false)). let z : false ≡ true = sym h.1 ∙ e in cc) (key_cases k x)

-- messages of a tenant's keys, with one number
abbrev messages_of : ℕ → ℕ → (List ℕ → Op) → List (List ℕ) → List TreeMessage
messages_of tenant number op keys = map (λ key. record { key = packed tenant key; number = number; op = op key }) keys

messages_own : (tenant number : ℕ) (op : List ℕ → Op) (keys : List (List ℕ)) → AreOwn tenant number (messages_of tenant number op keys)
messages_own tenant number op [] = tt
messages_own tenant number op (k ∷ keys) = ((ap (packed tenant) (own_key-packed tenant k), refl), messages_own tenant number op keys)

ops_in-messages : (tenant number : ℕ) (op : List ℕ → Op) (keys : List (List ℕ)) (k : List ℕ) → ops_in (messages_of tenant number op keys) (packed tenant k) number ≡ cond (list_any (same_key k) keys) (Some (op k)) None
ops_in-messages tenant number op [] k = refl
ops_in-messages tenant number op (x ∷ keys) k =
    let first : TreeMessage = record { key = packed tenant x; number = number; op = op x } in
    ⊎_elim
    (λ (s : (k ≡ x) × (same_key k x ≡ true)).
    ap (λ y. ops_in (messages_of tenant number op (x ∷ keys)) (packed tenant y) number) s.0
    ∙ ops_in-at first (messages_of tenant number op keys)
    ∙ ap (λ y. Some (op y)) (sym s.0)
    ∙ sym (cond-true _ _ _ (or_left (same_key k x) (list_any (same_key k) keys) s.1)))
    (λ (s : (k ≢ x) × (same_key k x ≡ false)).
    ops_in-skip first (messages_of tenant number op keys) (packed tenant k) number
    (λ e. s.0 (sym (own_key-packed tenant k) ∙ ap (λ (p : VersionPlace). own_key p.0) e ∙ own_key-packed tenant x))
    ∙ ops_in-messages tenant number op keys k
    ∙ sym (ap (λ b. cond (b || list_any (same_key k) keys) (Some (op k)) None) s.1))
    (key_cases k x)

-- there is none at another number
own_elsewhere : (tenant number : ℕ) (ms : List TreeMessage) (key : List ℕ) (n : ℕ) → AreOwn tenant number ms → n ≢ number → ops_in ms key n ≡ None
own_elsewhere tenant number [] key n own ne = refl
own_elsewhere tenant number (x ∷ ms) key n own ne =
    ops_in-skip x ms key n (λ e. ne (ap (λ (p : VersionPlace). p.1) e ∙ own.0.1)) ∙ own_elsewhere tenant number ms key n own.1 ne

-- what makes a key's row what it is in these rows
abbrev op_in : Rows → List ℕ → Op
op_in rows key = op_to (finite.get rows key)

changes_own : (tenant number : ℕ) (before after : Rows) → AreOwn tenant number (changes tenant number before after)
unfolding changes
changes_own tenant number before after = messages_own tenant number (op_in after) (changed_keys before after)

pub changes-elsewhere : (tenant number : ℕ) (before after : Rows) (key : List ℕ) (n : ℕ) → n ≢ number → ops_in (changes tenant number before after) key n ≡ None
changes-elsewhere tenant number before after key n ne = own_elsewhere tenant number (changes tenant number before after) key n (changes_own tenant number before after) ne

any-keys_of_both : (before after : Rows) (k : List ℕ) → list_any (same_key k) (keys_of_both before after) ≡ (is_some (finite.get before k) || (not (is_some (finite.get before k)) && is_some (finite.get after k)))
any-keys_of_both before after k =
    list_any-append (same_key k) (finite.keys before) (filter (λ key. not (finite.contains_key before key)) (finite.keys after))
    ∙ (λ i. sym (finite.contains_key-keys before k) i || (
    any-filter_same (same_key k) (λ key. not (finite.contains_key before key)) (not (finite.contains_key before k)) (λ x e. ap (λ y. not (finite.contains_key before y)) (sym (same_is k x e))) (finite.keys after)
    ∙ ap (λ b. not (finite.contains_key before k) && b) (sym (finite.contains_key-keys after k))
    ) i)

differ : (t z : Bool) (o : Option Op) → cond (not t && (true || z)) o None ≡ (if t then None else o)
differ true z o = refl
differ false z o = refl

by_rows : (b a : Option Version) → cond (not (is_same_row b a) && (is_some b || (not (is_some b) && is_some a))) (Some (op_to a)) None ≡ op_between b a
by_rows None None = refl
by_rows None (Some a) = refl
by_rows (Some b) None = refl
by_rows (Some b) (Some a) = differ (is_same_row (Some b) (Some a)) (not (is_some (Some b)) && is_some (Some a)) (Some (op_to (Some a)))

pub changes_by_rows_law : ChangesByRows
unfolding changes
changes_by_rows_law tenant number before after k =
    ops_in-messages tenant number (op_in after) (changed_keys before after) k
    ∙ ap (λ b. cond b (Some (op_to (finite.get after k))) None) (
    any-filter_same (same_key k) (λ key. not (is_same_row (finite.get before key) (finite.get after key))) (not (is_same_row (finite.get before k) (finite.get after k)))
    (λ x e. ap (λ y. not (is_same_row (finite.get before y) (finite.get after y))) (sym (same_is k x e))) (keys_of_both before after)
    ∙ ap (λ b. not (is_same_row (finite.get before k) (finite.get after k)) && b) (any-keys_of_both before after k)
    )
    ∙ by_rows (finite.get before k) (finite.get after k)

-- there is no message for a key that is not the tenant's
ops_in-others : (tenant number : ℕ) (ms : List TreeMessage) (key : List ℕ) (n : ℕ) → AreOwn tenant number ms → packed tenant (own_key key) ≢ key → ops_in ms key n ≡ None
ops_in-others tenant number [] key n own ne = refl
ops_in-others tenant number (x ∷ ms) key n own ne =
    ops_in-skip x ms key n (λ e. let k : key ≡ x.key = ap (λ (p : VersionPlace). p.0) e in ne (ap (λ y. packed tenant (own_key y)) k ∙ own.0.0 ∙ sym k))
    ∙ ops_in-others tenant number ms key n own.1 ne

pub changes_once_law : ChangesOnce
changes_once_law m tenant number before after ms own is = set_by_ops_law (with_all m ms) (with_all m (changes tenant number before after)) (λ key n.
    let own' : AreOwn tenant number (changes tenant number before after) = changes_own tenant number before after in
    let same : ops_in ms key n ≡ ops_in (changes tenant number before after) key n =
    ⊎_elim
    (λ (e : n ≡ number). ⊎_elim
    (λ (k : (packed tenant (own_key key) ≡ key) × (same_key (packed tenant (own_key key)) key ≡ true)).
    subst (λ y. ops_in ms y n ≡ ops_in (changes tenant number before after) y n) k.0
    (subst (λ x. ops_in ms (packed tenant (own_key key)) x ≡ ops_in (changes tenant number before after) (packed tenant (own_key key)) x) (sym e)
    (is (own_key key) ∙ sym (changes_by_rows_law tenant number before after (own_key key)))))
    (λ (k : (packed tenant (own_key key) ≢ key) × (same_key (packed tenant (own_key key)) key ≡ false)).
    ops_in-others tenant number ms key n own k.0 ∙ sym (ops_in-others tenant number (changes tenant number before after) key n own' k.0))
    (key_cases (packed tenant (own_key key)) key))
    (λ (ne : n ≢ number). own_elsewhere tenant number ms key n own ne ∙ sym (own_elsewhere tenant number (changes tenant number before after) key n own' ne))
    (cases_eq n number) in
    ops-with_all m ms key n ∙ ap (λ o. or_else o (ops_of m key n)) same ∙ sym (ops-with_all m (changes tenant number before after) key n))

none_passes : (p : List ℕ → Bool) (ks : List (List ℕ)) → ((k : List ℕ) → p k ≡ false) → filter p ks ≡ []
none_passes p [] h = refl
none_passes p (k ∷ ks) h = cond-false _ _ _ (h k) ∙ none_passes p ks h

-- where no row changes there is no message
pub changes-none : (tenant number : ℕ) (rows : Rows) → changes tenant number rows rows ≡ []
unfolding changes
changes-none tenant number rows = ap (map (message_to tenant number rows)) (none_passes _ (keys_of_both rows rows) (λ k. ap not (same_itself (finite.get rows k))))

-- ---- what rows they leave

-- below the call's number a key's operations stay
earlier : (m : Messages) (tenant number : ℕ) (before after : Rows) (key : List ℕ) (n : ℕ) → n < number → latest (ops_of (with_all m (changes tenant number before after)) key) n ≡ latest (ops_of m key) n
earlier m tenant number before after key n l = latest_same (ops_of (with_all m (changes tenant number before after)) key) (ops_of m key) n (λ k h.
    ops-with_all m (changes tenant number before after) key k
    ∙ ap (λ o. or_else o (ops_of m key k)) (changes-elsewhere tenant number before after key k (λ e. absurd (omega arith))))

pub earlier_rows_stay_law : EarlierRowsStay
earlier_rows_stay_law m tenant number n before after l = rows_by_values (with_all m (changes tenant number before after)) m tenant n n (λ q. earlier m tenant number before after (packed tenant q) n l)

-- a key's row after its message
moved_row : (n : ℕ) (x : Option NumberedValue) (a : Option Version) → ((a ≡ version_of x) ⊎ IfSome a (λ v. v.number ≡ n)) → version_of (applied n (or_else (op_between (version_of x) a) None) x) ≡ a
moved_row n x a w = ⊎_elim
    (λ (h : (version_of x ≡ a) × (is_same_row (version_of x) a ≡ true)).
    ap (λ o. version_of (applied n (or_else o None) x)) (cond-true _ _ _ h.1) ∙ h.0)
    (λ (h : (version_of x ≢ a) × (is_same_row (version_of x) a ≡ false)).
    ap (λ o. version_of (applied n (or_else o None) x)) (cond-false _ _ _ h.1)
    ∙ ⊎_elim (λ (e : a ≡ version_of x). absurd (h.0 (sym e))) (λ k. put a k) w)
    (row_cases (version_of x) a)
  where
    put : (b : Option Version) → IfSome b (λ v. v.number ≡ n) → version_of (applied n (Some (op_to b)) x) ≡ b
    put None k = refl
    put (Some b) k = λ i. Some (record { number = sym k i; value = b.value })

pub own_rows_move_law : OwnRowsMove
unfolding latest
own_rows_move_law m tenant last after none written = same_rows _ _ (λ q.
    let before : Rows = rows_at m tenant last in
    let ms = changes tenant (suc last) before after in
    let shown : finite.get before q ≡ version_of (value m (packed tenant q) last) = rows_by_value_law m tenant last q in
    let top : ops_of (with_all m ms) (packed tenant q) (suc last) ≡ or_else (op_between (version_of (value m (packed tenant q) last)) (finite.get after q)) None =
    ops-with_all m ms (packed tenant q) (suc last)
    ∙ (λ i. or_else ((changes_by_rows_law tenant (suc last) before after q ∙ ap (λ b. op_between b (finite.get after q)) shown) i) (none q (suc last) (omega arith) i)) in
    rows_by_value_law (with_all m ms) tenant (suc last) q
    ∙ (λ i. version_of (applied (suc last) (top i) (earlier m tenant (suc last) before after (packed tenant q) last (omega arith) i)))
    ∙ moved_row (suc last) (value m (packed tenant q) last) (finite.get after q) (subst (λ b. (finite.get after q ≡ b) ⊎ IfSome (finite.get after q) (λ v. v.number ≡ suc last)) shown (written q)))

-- ---- writes

one_written : (rows : Rows) (key value : List ℕ) (number : ℕ) → AreWritten number rows (finite.insert rows key (record { number = number; value = value }))
one_written rows key value number k =
    let got : finite.get (finite.insert rows key (record { number = number; value = value })) k ≡ cond (same_key k key) (Some (record { number = number; value = value })) (finite.get rows k) = finite.get-insert nat_list_cmp_total rows key _ k in
    ⊎_elim
    (λ (h : same_key k key ≡ true). inr (subst (λ o. IfSome o (λ v. v.number ≡ number)) (sym (got ∙ cond-true _ _ _ h)) refl))
    (λ (h : same_key k key ≡ false). inl (got ∙ cond-false _ _ _ h))
    (cases_Bool (same_key k key))

-- a row that is gone, or is that of rows that were written
some_written : (rows : Rows) (keys : List (List ℕ)) (number : ℕ) → AreWritten number rows (rows_without keys rows)
some_written rows [] number k = inl refl
some_written rows (key ∷ keys) number k = ⊎_elim
    (λ (e : finite.get (rows_without keys (finite.remove rows key)) k ≡ finite.get (finite.remove rows key) k).
    let got : finite.get (rows_without keys (finite.remove rows key)) k ≡ cond (same_key k key) None (finite.get rows k) = e ∙ finite.get-remove nat_list_cmp_total rows key k in
    ⊎_elim
    (λ (h : same_key k key ≡ true). inr (subst (λ o. IfSome o (λ v. v.number ≡ number)) (sym (got ∙ cond-true _ _ _ h)) tt))
    (λ (h : same_key k key ≡ false). inl (got ∙ cond-false _ _ _ h))
    (cases_Bool (same_key k key)))
    (λ h. inr h)
    (some_written (finite.remove rows key) keys number k)

pub writes_are_written_law : WritesAreWritten
writes_are_written_law = record { of_one = one_written; of_some = some_written }

-- ---- the numbers of rows

numbered_below : (n : ℕ) (v : Option (List ℕ)) → IfSome (numbered n v) (λ x. x.number ≤ n)
numbered_below n None = tt
numbered_below n (Some v) = omega arith

applied_below : (n : ℕ) (o : Option Op) (before : Option NumberedValue) → IfSome before (λ x. x.number ≤ n) → IfSome (applied n o before) (λ x. x.number ≤ n)
applied_below n None before h = h
applied_below n (Some op) before h = numbered_below n (operated op (value_in before))

one_higher : (n : ℕ) (o : Option NumberedValue) → IfSome o (λ x. x.number ≤ n) → IfSome o (λ x. x.number ≤ suc n)
one_higher n None h = tt
one_higher n (Some v) h = omega arith

latest_below : (f : Operations) (n : ℕ) → IfSome (latest f n) (λ x. x.number ≤ n)
unfolding latest
latest_below f zero = applied_below 0 (f 0) None tt
latest_below f (suc n) = applied_below (suc n) (f (suc n)) (latest f n) (one_higher n (latest f n) (latest_below f n))

as_version : (n : ℕ) (o : Option NumberedValue) → IfSome o (λ x. x.number ≤ n) → IfSome (version_of o) (λ v. v.number < suc n)
as_version n None h = tt
as_version n (Some v) h = omega arith

pub rows_are_below_law : RowsAreBelow
rows_are_below_law m tenant n q = subst (λ o. IfSome o (λ v. v.number < suc n)) (sym (rows_by_value_law m tenant n q)) (as_version n (value m (packed tenant q) n) (latest_below (ops_of m (packed tenant q)) n))

-- ---- the messages of writes

-- a row of an older write is another
other_number : (number : ℕ) (value : List ℕ) (o : Option Version) → IfSome o (λ v. v.number < number) → is_same_row o (Some (record { number = number; value = value })) ≡ false
other_number number value None h = refl
other_number number value (Some v) h = and_left (eqb v.number number) (bytes_eq v.value value) (ne_eqb v.number number (λ e. absurd (omega arith)))

op_to_same : (o : Option Version) → op_between o o ≡ None
op_to_same o = cond-true _ _ _ (same_itself o)

one_put : (m : Messages) (tenant number : ℕ) (rows : Rows) (key value : List ℕ) → AreRowsBefore number rows
    → with_all m (put_message tenant number key value ∷ []) ≡ with_all m (changes tenant number rows (finite.insert rows key (record { number = number; value = value })))
one_put m tenant number rows key value below =
    let after : Rows = finite.insert rows key (record { number = number; value = value }) in
    changes_once_law m tenant number rows after (put_message tenant number key value ∷ []) (messages_own tenant number (λ k. Put value) (key ∷ [])) (λ k.
    let got : finite.get after k ≡ cond (same_key k key) (Some (record { number = number; value = value })) (finite.get rows k) = finite.get-insert nat_list_cmp_total rows key _ k in
    ops_in-messages tenant number (λ y. Put value) (key ∷ []) k
    ∙ ⊎_elim
    (λ (s : (k ≡ key) × (same_key k key ≡ true)).
    ap (λ b. cond (b || false) (Some (Put value)) None) s.1
    ∙ sym (ap (op_between (finite.get rows k)) (got ∙ cond-true _ _ _ s.1) ∙ cond-false _ _ _ (other_number number value (finite.get rows k) (below k))))
    (λ (s : (k ≢ key) × (same_key k key ≡ false)).
    ap (λ b. cond (b || false) (Some (Put value)) None) s.1
    ∙ sym (ap (op_between (finite.get rows k)) (got ∙ cond-false _ _ _ s.1) ∙ op_to_same (finite.get rows k)))
    (key_cases k key))

-- without these keys a row is gone or as it was
get-rows_without : (keys : List (List ℕ)) (rows : Rows) (k : List ℕ) → finite.get (rows_without keys rows) k ≡ cond (list_any (same_key k) keys) None (finite.get rows k)
get-rows_without [] rows k = refl
get-rows_without (key ∷ keys) rows k =
    get-rows_without keys (finite.remove rows key) k
    ∙ ap (cond (list_any (same_key k) keys) None) (finite.get-remove nat_list_cmp_total rows key k)
    ∙ either (same_key k key) (list_any (same_key k) keys)
  where
    either : (a b : Bool) → cond b None (cond a None (finite.get rows k)) ≡ cond (a || b) None (finite.get rows k)
    either true true = refl
    either true false = refl
    either false true = refl
    either false false = refl

-- a key that has a row and is taken away
taken : (rows : Rows) (keys : List (List ℕ)) (k : List ℕ) → AllByRecursion (λ key. IsSome (finite.get rows key)) keys → list_any (same_key k) keys ≡ true → IsSome (finite.get rows k)
taken rows [] k all e = cc
taken rows (key ∷ keys) k all e = ⊎_elim
    (λ (s : (k ≡ key) × (same_key k key ≡ true)). subst (λ y. IsSome (finite.get rows y)) (sym s.0) all.0)
    (λ (s : (k ≢ key) × (same_key k key ≡ false)). taken rows keys k all.1 (sym (ap (λ b. b || list_any (same_key k) keys) s.1) ∙ e))
    (key_cases k key)

gone_between : (o : Option Version) → IsSome o → op_between o None ≡ Some Gone
gone_between None h = cc
gone_between (Some v) h = refl

some_gone : (m : Messages) (tenant number : ℕ) (rows : Rows) (keys : List (List ℕ)) → AllByRecursion (λ key. IsSome (finite.get rows key)) keys
    → with_all m (map (gone_message tenant number) keys) ≡ with_all m (changes tenant number rows (rows_without keys rows))
some_gone m tenant number rows keys all = changes_once_law m tenant number rows (rows_without keys rows) (map (gone_message tenant number) keys) (messages_own tenant number (λ key. Gone) keys) (λ k.
    ops_in-messages tenant number (λ key. Gone) keys k
    ∙ ⊎_elim
    (λ (h : list_any (same_key k) keys ≡ true).
    cond-true _ _ _ h ∙ sym (ap (op_between (finite.get rows k)) (get-rows_without keys rows k ∙ cond-true _ _ _ h) ∙ gone_between (finite.get rows k) (taken rows keys k all h)))
    (λ (h : list_any (same_key k) keys ≡ false).
    cond-false _ _ _ h ∙ sym (ap (op_between (finite.get rows k)) (get-rows_without keys rows k ∙ cond-false _ _ _ h) ∙ op_to_same (finite.get rows k)))
    (cases_Bool (list_any (same_key k) keys)))

pub writes_by_messages_law : WritesByMessages
writes_by_messages_law = record { of_one = one_put; of_some = some_gone; of_none = changes-none }
