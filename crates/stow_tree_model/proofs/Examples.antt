-- The definitions at examples.
use Rattle.std.proofs.Common.{◌≡◌, ◌≢◌, ℕ, ◌<◌, ◌≤◌, Bool, true, false, List, [], ◌∷◌, reverse, Option, Some, None, refl, ap, ◌∙◌, sym, subst, arith, ⊎_elim, inl, inr}
use Rattle.std.specs.Prelude.{if◌then◌else◌, codes, map, Contains, ◌==◌, IsSome}
use Rattle.std.specs.FinMap as finite
use Rattle.std.specs.List.{AllByRecursion}
use Rattle.std.specs.List.Sorted.{IsStrictlySortedBy}
use Rattle.std.specs.Ordering.{eq_by_cmp}
use Rattle.std.proofs.lemmas.Bool.{cases_lt}
use Rattle.stow_bytes.specs.Bytes.{bytes_cmp}
use Rattle.stow_tree_model.specs.Keys.{packed, tenant_of}
use Rattle.stow_tree_model.specs.Op.{Op, Put, Gone, Append}
use Rattle.stow_tree_model.specs.TreeMessage.{TreeMessage}
use Rattle.stow_tree_model.specs.Version.{Version}
use Rattle.stow_tree_model.specs.Order.{VersionPlace, place_cmp, place_of, MessagesRise}
use Rattle.stow_tree_model.specs.Operations.{Operations, value_in, latest, or_else, NoneAbove}
use Rattle.stow_tree_model.specs.Messages.{ops_of, value, set_of, ops_in}
use Rattle.stow_tree_model.specs.Agreement.{TenantPins, AgreeAt}
use Rattle.stow_tree_model.specs.Merged.{IsGreatestUpTo, IsKept, Stays, IsPruning, value_of, kept, trimmed, merged_history, pruned, row_message, merged}
use Rattle.stow_tree_model.specs.Zipped.{zipped}
use Rattle.stow_tree_model.specs.Examples.{a_key, message, four_messages, OfKeys, OfValues, no_pins, pins_at, put_and_append, two_writes, put_at_two, last_write, gone_at, OfAgreement, removal, one_row, two_more, all_three, three_writes, OfMerges, Examples}
use Rattle.stow_tree_model.proofs.Orders.{key_cases}
use Rattle.stow_tree_model.proofs.Latest.{latest_same, agree_from, contains_cases}
use Rattle.stow_tree_model.proofs.SetLemmas.{ops-with_all, ops_in-other_place}
use Rattle.stow_tree_model.proofs.Zipped.{zipped_in_order, in_order-set_of, or_none}
use Rattle.stow_tree_model.proofs.Pruning.{pruning, none_in_nothing, contains_here}

-- a set's operations are those of its list
ops-set_of : (ms : List TreeMessage) (key : List ℕ) (n : ℕ) → ops_of (set_of ms) key n ≡ ops_in ms key n
ops-set_of ms key n = ops-with_all finite.empty ms key n ∙ ap (or_else (ops_in ms key n)) (finite.get-empty place_cmp (key, n)) ∙ or_none (ops_in ms key n)

value-set_of : (ms : List TreeMessage) (key : List ℕ) (n : ℕ) → value (set_of ms) key n ≡ latest (ops_in ms key) n
value-set_of ms key n = latest_same (ops_of (set_of ms) key) (ops_in ms key) n (λ k l. ops-set_of ms key k)

merged-zipped : (rows : List Version) (batch : List TreeMessage) (pins : TenantPins) → MessagesRise (map row_message rows) → MessagesRise batch → merged rows batch pins ≡ reverse (merged_history pins (reverse (zipped (map row_message rows) batch)))
merged-zipped rows batch pins f h = ap (λ (ms : List TreeMessage). reverse (merged_history pins (reverse ms))) (sym (zipped_in_order (map row_message rows) batch f h))

-- ---- keys

of_keys : OfKeys
unfolding tenant_of IsStrictlySortedBy
of_keys = record {
  tenant = refl;
  own = refl;
  key = record { has_index = omega arith; is_short = omega arith; is_near = omega arith };
  not_key = λ h. let l = h.has_index in absurd (omega arith);
  of_tenant = (omega arith, omega arith);
  not_of_tenant = λ h. let l = h.0 in absurd (omega arith);
  by_number = refl;
  by_key = refl;
  by_tenant = refl;
  within = ((λ e. cc), refl);
  not_within = λ h. let e = h.1 in cc;
  rising = ((refl, (refl, (refl, tt))), ((refl, (refl, tt)), ((refl, tt), (tt, tt))));
  not_rising = λ h. let e = h.0.0 in cc;
}

-- ---- values

of_values : OfValues
unfolding latest tenant_of IsStrictlySortedBy
of_values = record {
  before = value-set_of four_messages a_key 0;
  put = value-set_of four_messages a_key 1;
  appended = value-set_of four_messages a_key 2;
  gone = value-set_of four_messages a_key 3;
  over_gone = value-set_of four_messages a_key 4;
  later = value-set_of four_messages a_key 9;
  other = value-set_of four_messages (packed 2 (codes "a")) 9;
  ordered = in_order-set_of four_messages ((refl, (refl, (refl, tt))), ((refl, (refl, tt)), ((refl, tt), (tt, tt))));
  call = ((refl, refl), tt);
  not_call = λ h. let e = h.0.1 in absurd (omega arith);
}

-- ---- agreement

other_places : (ms : List TreeMessage) (key : List ℕ) (n : ℕ) → AllByRecursion (λ m. ◌≢◌ {A = VersionPlace} (key, n) (place_of m)) ms → ops_of (set_of ms) key n ≡ None
other_places ms key n h = ops-set_of ms key n ∙ ops_in-other_place ms key n h

apart_keys : (key : List ℕ) (n : ℕ) (m : TreeMessage) → key ≢ m.key → ◌≢◌ {A = VersionPlace} (key, n) (place_of m)
apart_keys key n m ne e = ne (ap (λ (p : VersionPlace). p.0) e)

apart_numbers : (key : List ℕ) (n : ℕ) (m : TreeMessage) → n ≢ m.number → ◌≢◌ {A = VersionPlace} (key, n) (place_of m)
apart_numbers key n m ne e = ne (ap (λ (p : VersionPlace). p.1) e)

at_key : AgreeAt (ops_of two_writes a_key) (ops_of last_write a_key) [] 2
unfolding latest tenant_of
at_key = agree_from (ops_of two_writes a_key) (ops_of last_write a_key) 2
    (λ p c. absurd (none_in_nothing p c))
    (value-set_of put_and_append a_key 2 ∙ sym (value-set_of put_at_two a_key 2))
    (λ n l. other_places put_and_append a_key n (apart_numbers a_key n (message 1 (Put (codes "x"))) (λ e. omega arith), (apart_numbers a_key n (message 2 (Append (codes "y"))) (λ e. omega arith), tt)))
    (λ n l. other_places put_at_two a_key n (apart_numbers a_key n (message 2 (Put (codes "xy"))) (λ e. omega arith), tt))

nothing_at : (key : List ℕ) → key ≢ a_key → AgreeAt (ops_of two_writes key) (ops_of last_write key) [] 2
nothing_at key ne =
    let left : (n : ℕ) → ops_of two_writes key n ≡ None = λ n. other_places put_and_append key n (apart_keys key n (message 1 (Put (codes "x"))) ne, (apart_keys key n (message 2 (Append (codes "y"))) ne, tt)) in
    let right : (n : ℕ) → ops_of last_write key n ≡ None = λ n. other_places put_at_two key n (apart_keys key n (message 2 (Put (codes "xy"))) ne, tt) in
    agree_from (ops_of two_writes key) (ops_of last_write key) 2
    (λ p c. absurd (none_in_nothing p c))
    (latest_same (ops_of two_writes key) (ops_of last_write key) 2 (λ k l. left k ∙ sym (right k)))
    (λ n l. left n)
    (λ n l. right n)

-- an operation that is there is not missing
there : (ms : List TreeMessage) (key : List ℕ) (n : ℕ) (op : Op) → ops_in ms key n ≡ Some op → ops_of (set_of ms) key n ≡ None → ⊥
there ms key n op is none = let z : Some op ≡ None = sym is ∙ sym (ops-set_of ms key n) ∙ none in cc

in_either : (a b : Bool) (x : Op) → ◌≡◌ {A = Option Op} (if a then Some x else (if b then Some x else None)) (or_else (if b then Some x else None) (if a then Some x else None))
in_either true true x = refl
in_either true false x = refl
in_either false true x = refl
in_either false false x = refl

of_agreement : OfAgreement
unfolding latest tenant_of
of_agreement = record {
  same = λ key. ⊎_elim
      (λ (h : (key ≡ a_key) × (eq_by_cmp bytes_cmp key a_key ≡ true)). subst (λ k. AgreeAt (ops_of two_writes k) (ops_of last_write k) [] 2) (sym h.0) at_key)
      (λ (h : (key ≢ a_key) × (eq_by_cmp bytes_cmp key a_key ≡ false)). nothing_at key h.0)
      (key_cases key a_key);
  not_same = λ h.
      let z : Some (record { number = 1; value = codes "x" }) ≡ None = sym (value-set_of put_and_append a_key 1) ∙ (h a_key).at_pins 1 (contains_here 1 []) ∙ value-set_of put_at_two a_key 1 in cc;
  at_key = at_key;
  not_at_key = λ h. there put_and_append a_key 2 (Append (codes "y")) refl (h.left_below 2 (omega arith));
  below = λ t p c. elim (t == 1) as (λ b. Contains (if b then 2 ∷ [] else []) p → p ≤ 2) [
    | true ↦ λ d. ⊎_elim (λ (e : 2 ≡ p). omega arith) (λ (n : Contains [] p). absurd (none_in_nothing p n)) (contains_cases 2 p [] d)
    | false ↦ λ d. absurd (none_in_nothing p d)
  ] c;
  not_below = λ h. let l = h 1 3 (contains_here 3 []) in absurd (omega arith);
  among = λ t p c. absurd (none_in_nothing p c);
  not_among = λ h. none_in_nothing 2 (h 1 2 (contains_here 2 []));
  newer = λ key. (
    1,
    omega arith,
    (λ n l. other_places (gone_at 1) key n (apart_numbers key n (message 1 Gone) (λ e. omega arith), tt)),
    (λ n l. other_places (gone_at 2) key n (apart_numbers key n (message 2 Gone) (λ e. omega arith), tt)),
    (λ n l. other_places (gone_at 2) key n (apart_numbers key n (message 2 Gone) (λ e. omega arith), tt)),
  );
  not_newer = λ h.
      let w = h a_key in
      ⊎_elim
      (λ (l : w.0 < 2). there (gone_at 2) a_key 2 Gone refl (w.2 2 l))
      (λ (l : 2 ≤ w.0). there (gone_at 1) a_key 1 Gone refl (w.3 1 (omega arith)))
      (cases_lt w.0 2);
  over = λ key i n. (ops-set_of (message 1 Gone ∷ message 2 Gone ∷ []) key n
      ∙ in_either (eq_by_cmp place_cmp (key, n) (a_key, 1)) (eq_by_cmp place_cmp (key, n) (a_key, 2)) Gone
      ∙ (λ j. or_else (sym (ops-set_of (gone_at 2) key n) j) (sym (ops-set_of (gone_at 1) key n) j))) i;
  not_over = λ h.
      let both : ops_of (set_of (gone_at 2)) a_key 1 ≡ Some Gone = ap (λ (f : Operations). f 1) (h a_key) ∙ (λ j. or_else (ops-set_of (gone_at 2) a_key 1 j) (ops-set_of (gone_at 1) a_key 1 j)) in
      let z : None ≡ Some Gone = sym (ops-set_of (gone_at 2) a_key 1) ∙ both in cc;
}

-- ---- merges

is_some_op : (ms : List TreeMessage) (key : List ℕ) (n : ℕ) (op : Op) → ops_in ms key n ≡ Some op → IsSome (ops_of (set_of ms) key n)
is_some_op ms key n op e = subst (λ o. IsSome o) (sym (ops-set_of ms key n ∙ e)) refl

kept_two : IsKept (pins_at 1 (2 ∷ [])) three_writes a_key 2
unfolding tenant_of
kept_two = (is_some_op all_three a_key 2 (Append (codes "y")) refl, inr (2, contains_here 2 [], (omega arith, λ n l k. absurd (omega arith))))

not_stays_alone : Stays no_pins three_writes (removal 3) → ⊥
not_stays_alone h = ⊎_elim
    (λ (ne : (removal 3).value ≢ None). ne refl)
    (λ (o : (n : ℕ) × (n < 3) × IsKept no_pins three_writes a_key n). ⊎_elim
    (λ (none : NoneAbove o.0 (ops_of three_writes a_key)). there all_three a_key 3 Gone refl (none 3 o.1))
    (λ (p : (pin : ℕ) × Contains [] pin × IsGreatestUpTo three_writes a_key o.0 pin). none_in_nothing p.0 p.1)
    o.2.1)
    h.is_wanted

rises_three : MessagesRise all_three
unfolding IsStrictlySortedBy
rises_three = ((refl, (refl, tt)), ((refl, tt), (tt, tt)))

rises_two : MessagesRise two_more
unfolding IsStrictlySortedBy
rises_two = ((refl, tt), (tt, tt))

pruned_three : pruned no_pins three_writes ≡ []
unfolding kept trimmed value_of
pruned_three = ap (λ (ms : List TreeMessage). reverse (merged_history no_pins (reverse ms))) (in_order-set_of all_three rises_three)

of_merges : OfMerges
unfolding kept trimmed value_of tenant_of IsStrictlySortedBy latest
of_merges = record {
  nothing = merged-zipped one_row two_more no_pins (tt, tt) rises_two;
  above_kept = merged-zipped one_row two_more (pins_at 1 (2 ∷ [])) (tt, tt) rises_two;
  between = merged-zipped one_row (message 3 (Append (codes "y")) ∷ []) (pins_at 1 (2 ∷ [])) (tt, tt) (tt, tt);
  newest = merged-zipped one_row (message 2 (Append (codes "y")) ∷ []) no_pins (tt, tt) (tt, tt);
  other_tenant = merged-zipped one_row two_more (pins_at 2 (2 ∷ [])) (tt, tt) rises_two;
  oldest_removal = merged-zipped [] (message 1 Gone ∷ message 2 Gone ∷ []) (pins_at 1 (1 ∷ [])) tt ((refl, tt), (tt, tt));
  greatest = (omega arith, λ n l k. absurd (omega arith));
  not_greatest = λ h. there all_three a_key 2 (Append (codes "y")) refl (h.1 2 (omega arith) (omega arith));
  kept = kept_two;
  not_kept = λ h. ⊎_elim
      (λ (none : NoneAbove 1 (ops_of three_writes a_key)). there all_three a_key 2 (Append (codes "y")) refl (none 2 (omega arith)))
      (λ (p : (pin : ℕ) × Contains (2 ∷ []) pin × IsGreatestUpTo three_writes a_key 1 pin). ⊎_elim
      (λ (e : 2 ≡ p.0). there all_three a_key 2 (Append (codes "y")) refl (p.2.1 2 (omega arith) (omega arith)))
      (λ (n : Contains [] p.0). none_in_nothing p.0 n)
      (contains_cases 2 p.0 [] p.1))
      h.1;
  stays = record {
    is_kept = (is_some_op all_three a_key 3 Gone refl, inl (λ n l. other_places all_three a_key n (apart_numbers a_key n (message 1 (Put (codes "x"))) (λ e. omega arith), (apart_numbers a_key n (message 2 (Append (codes "y"))) (λ e. omega arith), (apart_numbers a_key n (message 3 Gone) (λ e. omega arith), tt)))));
    is_value = sym (ap value_in (value-set_of all_three a_key 3));
    is_wanted = inr (2, omega arith, kept_two);
  };
  not_stays = not_stays_alone;
  pruning = subst (IsPruning no_pins three_writes) pruned_three (pruning no_pins three_writes);
  not_pruning = λ h. not_stays_alone (h.only_these (removal 3) (contains_here (removal 3) []));
  rising = ((refl, tt), (tt, tt));
  not_rising = λ h. let e = h.0.0 in cc;
}

pub examples_law : Examples
examples_law = (of_keys, of_values, of_agreement, of_merges)
