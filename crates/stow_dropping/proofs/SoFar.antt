-- The charge after some parts of a walk.
use Rattle.std.proofs.Common.{◌≡◌, ◌≢◌, ℕ, zero, suc, ◌+◌, ◌-◌, ◌<◌, ◌≤◌, Bool, true, false, cond, List, [], ◌∷◌, ◌++◌, length, Option, Some, None, refl, ap, ◌∙◌, sym, subst, arith, ⊎_elim}
use Rattle.std.specs.Prelude.{sum_by, IsSome, is_some}
use Rattle.std.specs.List.{AllByRecursion}
use Rattle.std.specs.Ordering.{eq_by_cmp, is_lt, ordering_reverse}
use Rattle.std.specs.Cmp.{tied_itself}
use Rattle.std.specs.Cmp.Lexicographic.{nat_list_cmp_total}
use Rattle.std.specs.FinMap as finite
use Rattle.std.specs.FinMap.{find}
use Rattle.std.proofs.lemmas.List.Sums.{sum_by-append}
use Rattle.std.proofs.lemmas.List.{length-append, append_assoc, map-append}
use Rattle.std.proofs.Math.Bool.{false≢true}
use Rattle.std.proofs.lemmas.Bool.{cond-false}
use Rattle.stow_tree_model.specs.StowBytes.Bytes.{bytes_cmp}
use Rattle.stow_tree_model.specs.Messages.{Messages, ops_of}
use Rattle.stow_tree_model.specs.Op.{Op}
use Rattle.stow_tree_model.specs.Operations.{NumberedValue, Operations, applied, latest}
use Rattle.stow_tree_model.specs.Order.{VersionPlace, place_cmp}
use Rattle.stow_tree_model.proofs.Orders.{place_cases}
use Rattle.stow_tree_model.proofs.Rising.{less_from}
use Rattle.stow_ledger.specs.Accounts.{AccountState, IsGivenBy, present_charge}
use Rattle.stow_ledger.specs.Charges.{charge_after_drop, row_freed}
use Rattle.stow_ledger.specs.declared.charge.Charge.{Charge}
use Rattle.stow_ledger.specs.declared.shown_row.ShownRow.{ShownRow}
use Rattle.stow_tree.specs.StowRead.NextKey.{is_from}
use Rattle.stow_tree.specs.StowRead.Walk.{is_inside, head_keys, IsWalk}
use Rattle.stow_tree.specs.StowRead.declared.row_head.RowHead.{RowHead}
use Rattle.stow_tree.proofs.StowRead.FirstKeys.{inside_from}
use Rattle.stow_tree.proofs.StowRead.NextKeys.{from_above}
use Rattle.stow_tree.proofs.StowRead.Walks.{walks_join}
use Rattle.stow_dropping.specs.Parts.{shown_of, all_shown, HaveWholeKeys}
use Rattle.stow_dropping.proofs.WholeDrops.{IsWholeDrop}

-- Some rows were told, and whatever is walked from the start on is the walk's next part.
pub record IsDropSoFar (A : Type 0) (m : Messages) (first to : List ℕ) (at : ℕ) (account : AccountState) (pins start : List ℕ) (after : Bool) (left : Charge) : Type 0 where
  pub heads : List (RowHead A)
  pub joins : (count : ℕ) (more : List (RowHead A)) → IsWalk (ops_of m) start after to at count more → IsWalk (ops_of m) first false to at (length heads + count) (heads ++ more)
  pub whole : HaveWholeKeys heads
  pub is : left ≡ charge_after_drop (present_charge account) (all_shown heads) pins
  pub given : IsGivenBy account left
  pub lower : left.charge ≤ account.charge

drop_in_parts : (so_far : Charge) (first later : List ShownRow) (pins : List ℕ) → charge_after_drop (charge_after_drop so_far first pins) later pins ≡ charge_after_drop so_far (first ++ later) pins
drop_in_parts so_far first later pins =
    let both = sum_by-append (row_freed pins) first later in
    λ i. record so_far { charge = minus_both so_far.charge (sum_by (row_freed pins) first) (sum_by (row_freed pins) later) (sum_by (row_freed pins) (first ++ later)) both i }
  where
    minus_both : (c a b n : ℕ) → n ≡ a + b → (c - a) - b ≡ c - n
    minus_both c a b n e = omega (arith, e)

no_drop : (c : Charge) (pins : List ℕ) → c ≡ charge_after_drop c [] pins
no_drop c pins = λ i. record c { charge = minus_none c.charge i } where
  minus_none : (n : ℕ) → n ≡ n - 0
  minus_none n = omega arith

pub no_part : {A : Type 0} (m : Messages) (first to : List ℕ) (at : ℕ) (account : AccountState) (pins : List ℕ) (left : Charge) → left ≡ present_charge account → IsGivenBy account left → IsDropSoFar A m first to at account pins first false left
no_part m first to at account pins left is given = record {
  heads = [];
  joins = λ count more walk. subst (λ n. IsWalk (ops_of m) first false to at n more) (none_before count) walk;
  whole = tt;
  is = is ∙ no_drop (present_charge account) pins;
  given = given;
  lower = (let e = ap (λ (c : Charge). c.charge) is in omega (arith, e));
}
  where
    none_before : (n : ℕ) → n ≡ 0 + n
    none_before n = omega arith

all_more : {A : Type 0} (heads part : List (RowHead A)) (account : AccountState) (pins : List ℕ) (left new : Charge) → left ≡ charge_after_drop (present_charge account) (all_shown heads) pins → new ≡ charge_after_drop left (all_shown part) pins
    → new ≡ charge_after_drop (present_charge account) (all_shown (heads ++ part)) pins
all_more heads part account pins left new is step =
    step
    ∙ ap (λ c. charge_after_drop c (all_shown part) pins) is
    ∙ drop_in_parts (present_charge account) (all_shown heads) (all_shown part) pins
    ∙ ap (λ rows. charge_after_drop (present_charge account) rows pins) (sym (map-append shown_of heads part))

whole_more : {A : Type 0} (heads part : List (RowHead A)) → HaveWholeKeys heads → HaveWholeKeys part → HaveWholeKeys (heads ++ part)
whole_more [] part h p = p
whole_more (x ∷ heads) part h p = (h.0, whole_more heads part h.1 p)

-- a full part, and the walk goes on after its last key
pub full_part : {A : Type 0} (m : Messages) (first to : List ℕ) (at : ℕ) (account : AccountState) (pins start : List ℕ) (after : Bool) (left new : Charge) (count : ℕ) (rows : List (RowHead A)) (last : RowHead A) → IsDropSoFar A m first to at account pins start after left
    → IsWalk (ops_of m) start after to at count (rows ++ last ∷ []) → length (rows ++ last ∷ []) ≡ count → HaveWholeKeys (rows ++ last ∷ []) → new ≡ charge_after_drop left (all_shown (rows ++ last ∷ [])) pins → IsGivenBy account new → new.charge ≤ left.charge
    → IsDropSoFar A m first to at account pins last.key true new
full_part {A} m first to at account pins start after left new count rows last so_far walk full whole step given lower = record {
  heads = so_far.heads ++ part;
  joins = λ more_count more next.
      let joined = so_far.joins (count + more_count) (part ++ more) (walks_join (ops_of m) start after to at count more_count rows last more walk full next) in
      subst (λ (rows : List (RowHead A)). IsWalk (ops_of m) first false to at (length (so_far.heads ++ part) + more_count) rows) (sym (append_assoc so_far.heads part more))
      (subst (λ n. IsWalk (ops_of m) first false to at n (so_far.heads ++ (part ++ more))) (counted (length so_far.heads) count more_count (length (so_far.heads ++ part)) (length-append so_far.heads part ∙ ap (λ n. length so_far.heads + n) full)) joined);
  whole = whole_more so_far.heads part so_far.whole whole;
  is = all_more so_far.heads part account pins left new so_far.is step;
  given = given;
  lower = (let l = so_far.lower in omega (arith, l, lower));
}
  where
    part : List (RowHead A)
    part = rows ++ last ∷ []

    counted : (a b c n : ℕ) → n ≡ a + b → a + (b + c) ≡ n + c
    counted a b c n e = omega (arith, e)

-- a part of fewer rows is the last one
pub last_part : {A : Type 0} (m : Messages) (first to : List ℕ) (at : ℕ) (account : AccountState) (pins start : List ℕ) (after : Bool) (left new : Charge) (count : ℕ) (part : List (RowHead A)) → IsDropSoFar A m first to at account pins start after left
    → IsWalk (ops_of m) start after to at count part → length part < count → HaveWholeKeys part → new ≡ charge_after_drop left (all_shown part) pins → IsWholeDrop A m first to at account pins new
last_part {A} m first to at account pins start after left new count part so_far walk fewer whole step = record {
  heads = so_far.heads ++ part;
  count = length so_far.heads + count;
  walk = so_far.joins count part walk;
  fewer = omega (arith, fewer, length-append so_far.heads part);
  whole = whole_more so_far.heads part so_far.whole whole;
  is = all_more so_far.heads part account pins left new so_far.is step;
}

-- ---- the keys that are left

-- how many messages stand from the start on, or after it
abbrev pub count_left : List (VersionPlace × Op) → List ℕ → Bool → ℕ
count_left [] start after = 0
count_left (e ∷ es) start after = cond (is_from start after e.0.0) (suc (count_left es start after)) (count_left es start after)

not_itself : (k : List ℕ) → is_lt (bytes_cmp k k) ≡ false
not_itself k = ap is_lt (tied_itself nat_list_cmp_total k)

not_back : (a b : List ℕ) → is_lt (bytes_cmp a b) ≡ true → is_lt (bytes_cmp b a) ≡ false
not_back a b l = ap is_lt (nat_list_cmp_total.antisymm b a ∙ ap ordering_reverse (less_from (bytes_cmp a b) l))

still_from : (start : List ℕ) (after : Bool) (k key : List ℕ) → is_from start after k ≡ true → is_from k true key ≡ true → is_from start after key ≡ true
still_from start after k key f l = from_above start after k key f (not_back k key l)

not_more_left : (es : List (VersionPlace × Op)) (start : List ℕ) (after : Bool) (k : List ℕ) → is_from start after k ≡ true → count_left es k true ≤ count_left es start after
not_more_left [] start after k f = omega arith
not_more_left (e ∷ es) start after k f = step (is_from k true e.0.0) (is_from start after e.0.0) refl refl (not_more_left es start after k f) where
  step : (a b : Bool) → is_from k true e.0.0 ≡ a → is_from start after e.0.0 ≡ b → count_left es k true ≤ count_left es start after → cond a (suc (count_left es k true)) (count_left es k true) ≤ cond b (suc (count_left es start after)) (count_left es start after)
  step true true p q h = omega (arith, h)
  step true false p q h = absurd (false≢true (sym q ∙ still_from start after k e.0.0 f p))
  step false true p q h = omega (arith, h)
  step false false p q h = h

fewer_among : (es : List (VersionPlace × Op)) (start : List ℕ) (after : Bool) (k : List ℕ) (n : ℕ) → is_from start after k ≡ true → IsSome (find place_cmp (k, n) es) → count_left es k true < count_left es start after
fewer_among [] start after k n f there = absurd cc
fewer_among (e ∷ es) start after k n f there = ⊎_elim
    (λ (s : (◌≡◌ {A = VersionPlace} (k, n) e.0) × (eq_by_cmp place_cmp (k, n) e.0 ≡ true)).
    let own : k ≡ e.0.0 = ap (λ (p : VersionPlace). p.0) s.0 in
    let out : is_from k true e.0.0 ≡ false = ap (is_from k true) (sym own) ∙ not_itself k in
    let in_it : is_from start after e.0.0 ≡ true = ap (is_from start after) (sym own) ∙ f in
    let rest = not_more_left es start after k f in
    subst (λ b. cond b (suc (count_left es k true)) (count_left es k true) < cond (is_from start after e.0.0) (suc (count_left es start after)) (count_left es start after)) (sym out)
    (subst (λ b. count_left es k true < cond b (suc (count_left es start after)) (count_left es start after)) (sym in_it) (omega (arith, rest))))
    (λ (ne : (◌≢◌ {A = VersionPlace} (k, n) e.0) × (eq_by_cmp place_cmp (k, n) e.0 ≡ false)).
    step (is_from k true e.0.0) (is_from start after e.0.0) refl refl (fewer_among es start after k n f (subst IsSome (cond-false _ _ _ ne.1) there)))
    (place_cases (k, n) e.0)
  where
    step : (a b : Bool) → is_from k true e.0.0 ≡ a → is_from start after e.0.0 ≡ b → count_left es k true < count_left es start after → cond a (suc (count_left es k true)) (count_left es k true) < cond b (suc (count_left es start after)) (count_left es start after)
    step true true p q h = omega (arith, h)
    step true false p q h = absurd (false≢true (sym q ∙ still_from start after k e.0.0 f p))
    step false true p q h = omega (arith, h)
    step false false p q h = h

-- what has a value has an operation
record HasOperation (ops : Operations) : Type 0 where
  number : ℕ
  there : IsSome (ops number)

operation_by : (ops : Operations) (n : ℕ) (o : Option Op) (before : Option NumberedValue) → (IsSome before → HasOperation ops) → ops n ≡ o → IsSome (applied n o before) → HasOperation ops
operation_by ops n None before earlier e h = earlier h
operation_by ops n (Some op) before earlier e h = record { number = n; there = ap is_some e }

operation_of : (ops : Operations) (n : ℕ) → IsSome (latest ops n) → HasOperation ops
unfolding latest
operation_of ops zero s = operation_by ops zero (ops zero) None (λ none. absurd cc) refl s
operation_of ops (suc n) s = operation_by ops (suc n) (ops (suc n)) (latest ops n) (operation_of ops n) refl s

last_of : {A : Type 0} (P : List ℕ → Type 0) (rows : List (RowHead A)) (last : RowHead A) → AllByRecursion P (head_keys (rows ++ last ∷ [])) → P last.key
last_of P [] last h = h.0
last_of P (row ∷ rows) last h = last_of P rows last h.1

-- fewer messages stand after the last key of a part than from where it began
pub fewer_left : {A : Type 0} (m : Messages) (start : List ℕ) (after : Bool) (to : List ℕ) (at count : ℕ) (rows : List (RowHead A)) (last : RowHead A) → IsWalk (ops_of m) start after to at count (rows ++ last ∷ []) → count_left (finite.entries m) last.key true < count_left (finite.entries m) start after
fewer_left m start after to at count rows last walk =
    let has = operation_of (ops_of m last.key) at (last_of (λ key. IsSome (latest (ops_of m key) at)) rows last walk.keys.there) in
    fewer_among (finite.entries m) start after last.key has.number
    (inside_from start after to last.key (last_of (λ key. is_inside start after to key ≡ true) rows last walk.keys.inside))
    (subst IsSome (finite.get-entries m (last.key, has.number)) has.there)
