-- The next number of a key: in a buffer, in a leaf's rows, and on the way down to them.
use Rattle.std.proofs.Common.{◌≡◌, ℕ, zero, suc, ◌+◌, ◌-◌, ◌^◌, ◌<◌, ◌≤◌, min, Bool, true, false, List, [], ◌∷◌, length, drop, get_or, map, Option, Some, None, refl, ap, ◌∙◌, ◌≢◌, sym, subst, arith, ⊎_elim, ◌⊎◌}
use Rattle.std.specs.Prelude.{Contains, IsSome, is_some, slice_get}
use Rattle.std.specs.List.{All, AllByRecursion}
use Rattle.std.specs.Ordering.{eq_by_cmp, is_lt, nat_cmp, ordering_then}
use Rattle.std.specs.Cmp.{tied_itself}
use Rattle.std.specs.Cmp.Lexicographic.{nat_list_cmp_total}
use Rattle.std.proofs.Math.Nat.{min-eq_left, min-eq_right}
use Rattle.std.proofs.lemmas.Bool.{cases_lt, cases_order}
use Rattle.std.proofs.lemmas.List.{at_drop_more}
use Rattle.std.proofs.lemmas.Option.{slice_get-get_or, slice_get_within}
use Rattle.stow_bytes.specs.Bytes.{bytes_cmp}
use Rattle.stow_tree_model.specs.Merged.{row_message, same_key}
use Rattle.stow_tree_model.specs.Messages.{ops_in}
use Rattle.stow_tree_model.specs.Operations.{Operations, NoneAbove, over}
use Rattle.stow_tree_model.specs.Order.{VersionPlace, place_cmp, place_of, version_place, MessagesRise, VersionsRise}
use Rattle.stow_tree_model.specs.TreeMessage.{TreeMessage}
use Rattle.stow_tree_model.specs.Version.{Version}
use Rattle.stow_tree_model.proofs.Histories.{ops_in-skip, falls_number}
use Rattle.stow_tree_model.proofs.Orders.{key_cases, place_cases, less_than, same_number, more_than}
use Rattle.stow_tree_model.proofs.Pruning.{contains_here, contains_there}
use Rattle.stow_node.specs.StowMessage.Packed.{IsMessage}
use Rattle.stow_node.specs.StowMessage.Rising.{is_below, below}
use Rattle.stow_node.proofs.StowMessage.RisingLists.{below_tells, lt_is}
use Rattle.stow_node.proofs.StowMessage.Stored.{all_at}
use Rattle.stow_node.specs.StowPage.Rows.{is_above, IsCountUpTo}
use Rattle.stow_node.proofs.StowPage.Looked.{versions_rise_at}
use Rattle.stow_node.proofs.StowLeaf.Found.{none_unless, both_none, some_left, some_right, row_there, place_le}
use Rattle.stow_node.proofs.StowLeaf.Intervals.{lt, at_most}
use Rattle.stow_read.specs.Suffixes.{IsAbove}
use Rattle.stow_read.specs.Walk.{IsNumberAfter}
use Rattle.stow_read.specs.Way.{is_next, key_in, buffers_of, ops_down, NewerDown, IsNextTold}
use Rattle.stow_read.specs.declared.level.Level.{Level}
use Rattle.stow_read.proofs.NextKeys.{apart}
use Rattle.stow_read.proofs.NextMessages.{valid_at, each_there}

-- an operation that messages have is one of theirs, with its number
pub found_numbered : {X : Type 0} (ms : List TreeMessage) (key : List ℕ) (n : ℕ) → IsSome (ops_in ms key n) → ((m : TreeMessage) → Contains ms m → m.key ≡ key → m.number ≡ n → X) → X
found_numbered [] key n s f = absurd cc
found_numbered (m ∷ ms) key n s f = ⊎_elim
    (λ (e : (◌≡◌ {A = VersionPlace} (key, n) (place_of m)) × (eq_by_cmp place_cmp (key, n) (place_of m) ≡ true)). f m (contains_here m ms) (sym (ap (λ (p : VersionPlace). p.0) e.0)) (sym (ap (λ (p : VersionPlace). p.1) e.0)))
    (λ (e : (◌≢◌ {A = VersionPlace} (key, n) (place_of m)) × (eq_by_cmp place_cmp (key, n) (place_of m) ≡ false)).
    found_numbered ms key n (subst IsSome (ops_in-skip m ms key n e.0) s) (λ w c k l. f w (contains_there m w ms c) k l))
    (place_cases (key, n) (place_of m))

-- the same of rows
found_row_numbered : {X : Type 0} (vs : List Version) (key : List ℕ) (n : ℕ) → IsSome (ops_in (map row_message vs) key n) → ((v : Version) → Contains vs v → v.key ≡ key → v.number ≡ n → X) → X
found_row_numbered [] key n s f = absurd cc
found_row_numbered (v ∷ vs) key n s f = ⊎_elim
    (λ (e : (◌≡◌ {A = VersionPlace} (key, n) (place_of (row_message v))) × (eq_by_cmp place_cmp (key, n) (place_of (row_message v)) ≡ true)). f v (contains_here v vs) (sym (ap (λ (p : VersionPlace). p.0) e.0)) (sym (ap (λ (p : VersionPlace). p.1) e.0)))
    (λ (e : (◌≢◌ {A = VersionPlace} (key, n) (place_of (row_message v))) × (eq_by_cmp place_cmp (key, n) (place_of (row_message v)) ≡ false)).
    found_row_numbered vs key n (subst IsSome (ops_in-skip (row_message v) (map row_message vs) key n e.0) s) (λ w c k l. f w (contains_there v w vs c) k l))
    (place_cases (key, n) (place_of (row_message v)))

not_other : (key other : List ℕ) → other ≡ key → same_key other key ≡ true
not_other key other e = ⊎_elim
    (λ (h : (other ≡ key) × (same_key other key ≡ true)). h.1)
    (λ (h : (other ≢ key) × (same_key other key ≡ false)). absurd (h.0 e))
    (key_cases other key)

pub is_own : (key other : List ℕ) → same_key other key ≡ true → other ≡ key
is_own key other e = ⊎_elim
    (λ (h : (other ≡ key) × (same_key other key ≡ true)). h.0)
    (λ (h : (other ≢ key) × (same_key other key ≡ false)). apart e h.1)
    (key_cases other key)

-- ---- in a buffer

own_is_below : (m : TreeMessage) (key : List ℕ) (b : ℕ) → m.key ≡ key → is_below (key, b) m ≡ is_lt (nat_cmp m.number b)
own_is_below m key b e =
    ap (λ x. is_lt (ordering_then (bytes_cmp x key) (nat_cmp m.number b))) e
    ∙ ap (λ o. is_lt (ordering_then o (nat_cmp m.number b))) (tied_itself nat_list_cmp_total key)

pub own_below : (m : TreeMessage) (key : List ℕ) (b : ℕ) → m.key ≡ key → m.number < b → is_below (key, b) m ≡ true
own_below m key b e l = own_is_below m key b e ∙ ap is_lt (less_than m.number b l)

not_less : (n b : ℕ) → b ≤ n → is_lt (nat_cmp n b) ≡ false
not_less n b l = ⊎_elim
    (λ (e : n ≡ b). ap (λ k. is_lt (nat_cmp k b)) e ∙ ap is_lt (same_number b))
    (λ (c : (n < b) ⊎ (b < n)). ⊎_elim (λ (a : n < b). absurd (omega arith)) (λ (a : b < n). ap is_lt (more_than n b a)) c)
    (cases_order n b)

pub own_not_below : (m : TreeMessage) (key : List ℕ) (b : ℕ) → m.key ≡ key → b ≤ m.number → is_below (key, b) m ≡ false
own_not_below m key b e l = own_is_below m key b e ∙ not_less m.number b l

pub lower_below : (m : TreeMessage) (key : List ℕ) (b : ℕ) → lt m.key key ≡ true → is_below (key, b) m ≡ true
lower_below m key b l = ap (λ o. is_lt (ordering_then o (nat_cmp m.number b))) (lt_is (bytes_cmp m.key key) l)

-- the numbers above this one are those from the bound on
pub record IsBound (at bound : ℕ) : Type 0 where
  pub low : bound ≤ at + 1
  pub high : (n : ℕ) → bound ≤ n → n < 18446744073709551615 → at < n

-- the number after this one, or where there is none the highest
pub bound_is : (at bound : ℕ) → bound ≡ min (at + 1) (2 ^ 64 - 1) → IsBound at bound
bound_is at bound e = ⊎_elim
    (λ (l : 2 ^ 64 - 1 < at + 1). let is : bound ≡ 2 ^ 64 - 1 = e ∙ min-eq_right (omega arith) in record { low = omega (arith, is, l); high = λ n b h. absurd (omega (arith, is, b, h)) })
    (λ (l : at + 1 ≤ 2 ^ 64 - 1). let is : bound ≡ at + 1 = e ∙ min-eq_left l in record { low = omega (arith, is); high = λ n b h. omega (arith, is, b) })
    (cases_lt (2 ^ 64 - 1) (at + 1))

-- a message of the key above the number stands from the count on
message_above : {X : Type 0} (ms : List TreeMessage) (key : List ℕ) (at bound count n : ℕ) → MessagesRise ms → IsBound at bound → count ≡ below (key, bound) ms → at < n → IsSome (ops_in ms key n)
    → ((i : ℕ) (w : TreeMessage) → count ≤ i → i < length ms → get_or ms i w ≡ w → w.key ≡ key → w.number ≡ n → X) → X
message_above ms key at bound count n up b is above s g = found_numbered ms key n s (λ w c k num.
    let low = b.low in
    let here : is_below (key, bound) (get_or ms c.0 w) ≡ false = ap (is_below (key, bound)) c.2 ∙ own_not_below w key bound k (omega arith) in
    let tells = (below_tells (key, bound) ms c.0 w up c.1).1 here in
    g c.0 w (omega (arith, tells, is)) c.1 c.2 k num)

pub number_none : (ms : List TreeMessage) (key : List ℕ) (at bound count : ℕ) → MessagesRise ms → IsBound at bound → count ≡ below (key, bound) ms → length ms ≤ count → IsNumberAfter (ops_in ms key) at None
number_none ms key at bound count up b is past n l = none_unless (ops_in ms key n) (λ s. message_above ms key at bound count n up b is l s (λ i w h inside e k num. absurd (omega arith)))

-- the message at the count is the key's
pub number_next : (ms : List TreeMessage) (key : List ℕ) (at bound count : ℕ) (m : TreeMessage) → All IsMessage ms → MessagesRise ms → IsBound at bound → count ≡ below (key, bound) ms → count < length ms → get_or ms count m ≡ m → same_key m.key key ≡ true → IsNumberAfter (ops_in ms key) at (Some m.number)
number_next ms key at bound count m valid up b is inside e same = record {
  above = b.high m.number not_under (let limit = (valid_at ms count m valid inside e).is_numbered.1 in omega arith);
  there = subst (λ k. IsSome (ops_in ms k m.number)) own (subst (λ (x : TreeMessage). IsSome (ops_in ms x.key x.number)) e (all_at (λ (x : TreeMessage). IsSome (ops_in ms x.key x.number)) ms count m (each_there ms) inside));
  none = λ n l h. none_unless (ops_in ms key n) (λ s. message_above ms key at bound count n up b is l s (λ i w behind within f k num.
      let first : is_below (key, m.number) (get_or ms count m) ≡ false = ap (is_below (key, m.number)) e ∙ own_not_below m key m.number own (omega arith) in
      let later : is_below (key, m.number) (get_or ms i w) ≡ true = ap (is_below (key, m.number)) f ∙ own_below w key m.number k (omega arith) in
      let fewer = (below_tells (key, m.number) ms count m up inside).1 first in
      let more = (below_tells (key, m.number) ms i w up within).0 later in
      absurd (omega (arith, fewer, more, behind))));
}
  where
    own : m.key ≡ key
    own = is_own key m.key same

    not_under : bound ≤ m.number
    not_under = ⊎_elim
        (λ (l : m.number < bound). absurd (let fewer = (below_tells (key, bound) ms count m up inside).0 (ap (is_below (key, bound)) e ∙ own_below m key bound own l) in omega (arith, fewer, is)))
        (λ (l : bound ≤ m.number). l)
        (cases_lt m.number bound)

-- the message at the count is another key's
pub number_end : (ms : List TreeMessage) (key : List ℕ) (at bound count : ℕ) (m : TreeMessage) → MessagesRise ms → IsBound at bound → count ≡ below (key, bound) ms → count < length ms → get_or ms count m ≡ m → same_key m.key key ≡ false → IsNumberAfter (ops_in ms key) at None
number_end ms key at bound count m up b is inside e other n l = none_unless (ops_in ms key n) (λ s. message_above ms key at bound count n up b is l s (λ i w behind within f k num.
    let first : is_below (m.key, 0) (get_or ms count m) ≡ false = ap (is_below (m.key, 0)) e ∙ own_not_below m m.key 0 refl (omega arith) in
    let later : is_below (m.key, 0) (get_or ms i w) ≡ true = ap (is_below (m.key, 0)) f ∙ lower_below w m.key 0 (ap (λ x. lt x m.key) k ∙ higher) in
    let fewer = (below_tells (m.key, 0) ms count m up inside).1 first in
    let more = (below_tells (m.key, 0) ms i w up within).0 later in
    absurd (omega (arith, fewer, more, behind))))
  where
    not_lower : lt m.key key ≡ false
    not_lower = by_lt (lt m.key key) refl where
      by_lt : (b : Bool) → lt m.key key ≡ b → lt m.key key ≡ false
      by_lt true t = absurd (let fewer = (below_tells (key, bound) ms count m up inside).0 (ap (is_below (key, bound)) e ∙ lower_below m key bound t) in omega (arith, fewer, is))
      by_lt false t = t

    higher : lt key m.key ≡ true
    higher = ⊎_elim
        (λ (h : key ≡ m.key). apart (not_other key m.key (sym h)) other)
        (λ (h : lt key m.key ≡ true). h)
        (at_most key m.key not_lower)

-- ---- in a leaf's rows

own_is_above : (v : Version) (key : List ℕ) (b : ℕ) → v.key ≡ key → is_above (key, b) v ≡ is_lt (nat_cmp b v.number)
own_is_above v key b e =
    ap (λ x. is_lt (ordering_then (bytes_cmp key x) (nat_cmp b v.number))) e
    ∙ ap (λ o. is_lt (ordering_then o (nat_cmp b v.number))) (tied_itself nat_list_cmp_total key)

same_row : (a b : Version) → ◌≡◌ {A = Option Version} (Some a) (Some b) → a ≡ b
same_row a b e = cc

-- a row of the key above the number stands from the count on
row_above : {X : Type 0} (rows : List Version) (key : List ℕ) (at count n : ℕ) → IsCountUpTo rows (key, at) count → at < n → IsSome (ops_in (map row_message rows) key n)
    → ((i : ℕ) (w : Version) → count ≤ i → slice_get rows i ≡ Some w → w.key ≡ key → w.number ≡ n → X) → X
row_above rows key at count n up above s g = found_row_numbered rows key n s (λ w c k num.
    let here : slice_get rows c.0 ≡ Some w = slice_get-get_or rows c.0 w c.1 ∙ ap (λ x. Some x) c.2 in
    ⊎_elim
    (λ (l : c.0 < count). apart (own_is_above w key at k ∙ ap is_lt (less_than at w.number (omega arith))) (up.up_to c.0 w l here))
    (λ (l : count ≤ c.0). g c.0 w l here k num)
    (cases_lt c.0 count))

pub row_none : (rows : List Version) (key : List ℕ) (at count : ℕ) → IsCountUpTo rows (key, at) count → length rows ≤ count → IsNumberAfter (ops_in (map row_message rows) key) at None
row_none rows key at count up past n l = none_unless (ops_in (map row_message rows) key n) (λ s. row_above rows key at count n up l s (λ i w b e k num. let inside = slice_get_within rows i w e in omega arith))

-- the row at the count is the key's
pub row_next : (rows : List Version) (key : List ℕ) (at count : ℕ) (v : Version) → VersionsRise rows → IsCountUpTo rows (key, at) count → slice_get rows count ≡ Some v → same_key v.key key ≡ true → IsNumberAfter (ops_in (map row_message rows) key) at (Some v.number)
row_next rows key at count v rise up e same = record {
  above = ⊎_elim
      (λ (l : at < v.number). l)
      (λ (l : v.number ≤ at). apart (up.above count v (omega arith) e) (own_is_above v key at own ∙ not_less at v.number l))
      (cases_lt at v.number);
  there = subst (λ k. IsSome (ops_in (map row_message rows) k v.number)) own (row_there rows v (count, slice_get_within rows count v e, same_row (get_or rows count v) v (sym (slice_get-get_or rows count v (slice_get_within rows count v e)) ∙ e)));
  none = λ n l h. none_unless (ops_in (map row_message rows) key n) (λ s. row_above rows key at count n up l s (λ i w b f k num. ⊎_elim
      (λ (t : count ≡ i). absurd (let is : v.number ≡ w.number = ap (λ (x : Version). x.number) (same_row v w (sym e ∙ ap (slice_get rows) t ∙ f)) in omega arith))
      (λ (o : (count < i) ⊎ (i < count)). ⊎_elim
      (λ (c : count < i). absurd (let less : v.number < w.number = falls_number key v.number w.number (ap (λ x. place_cmp (x, v.number) (key, w.number)) (sym own) ∙ ap (λ x. place_cmp (v.key, v.number) (x, w.number)) (sym k) ∙ versions_rise_at rows count i v w rise c e f) in omega arith))
      (λ (c : i < count). absurd (omega arith)) o)
      (cases_order count i)));
}
  where
    own : v.key ≡ key
    own = is_own key v.key same

-- the row at the count is another key's
pub row_end : (rows : List Version) (key : List ℕ) (at count : ℕ) (v : Version) → VersionsRise rows → IsCountUpTo rows (key, at) count → slice_get rows count ≡ Some v → same_key v.key key ≡ false → IsNumberAfter (ops_in (map row_message rows) key) at None
row_end rows key at count v rise up e other n l = none_unless (ops_in (map row_message rows) key n) (λ s. row_above rows key at count n up l s (λ i w b f k num. ⊎_elim
    (λ (t : count ≡ i). apart (not_other key v.key (ap (λ (x : Version). x.key) (same_row v w (sym e ∙ ap (slice_get rows) t ∙ f)) ∙ k)) other)
    (λ (o : (count < i) ⊎ (i < count)). ⊎_elim
    (λ (c : count < i). apart higher (ap (λ x. lt x v.key) (sym k) ∙ place_le (version_place v) (version_place w) (versions_rise_at rows count i v w rise c e f)))
    (λ (c : i < count). absurd (omega arith)) o)
    (cases_order count i)))
  where
    higher : lt key v.key ≡ true
    higher = ⊎_elim
        (λ (h : key ≡ v.key). apart (not_other key v.key (sym h)) other)
        (λ (h : lt key v.key ≡ true). h)
        (at_most key v.key (place_le (key, at) (version_place v) (lt_is (place_cmp (key, at) (version_place v)) (up.above count v (omega arith) e))))

-- ---- on the way down

-- where the next key isn't this one, it has no next number
pub told_none : (ops : Operations) (next : Option (List ℕ)) (key : List ℕ) (at : ℕ) → IsNextTold ops next key → is_next next key ≡ false → IsNumberAfter ops at None
told_none ops next key at told e n l = ⊎_elim
    (λ (h : is_next next key ≡ true). apart h e)
    (λ (h : (k : ℕ) → ops k ≡ None). h n)
    told

-- newer operations leave what is next below them
below_stays : (own lower : Operations) (at number : ℕ) → IsAbove own lower → IsNumberAfter lower at (Some number) → IsNumberAfter (over own lower) at (Some number)
below_stays own lower at number newer next = record {
  above = next.above;
  there = some_right (own number) (lower number) next.there;
  none = λ n l h. both_none (own n) (lower n) (none_unless (own n) (λ s. absurd (let less = newer n number s next.there in omega arith))) (next.none n l h);
}

-- where there is none below, theirs is next
own_is_next : (own lower : Operations) (at : ℕ) (next : Option ℕ) → NoneAbove at lower → IsNumberAfter own at next → IsNumberAfter (over own lower) at next
own_is_next own lower at None none next = λ n l. both_none (own n) (lower n) (next n l) (none n l)
own_is_next own lower at (Some number) none next = record {
  above = next.above;
  there = some_left (own number) (lower number) next.there;
  none = λ n l h. both_none (own n) (lower n) (next.none n l h) (none n l);
}

-- what the levels from the place on, and the rows below them, have next
pub record IsNextFrom {A : Type 0} (levels : List (Level A)) (rows : Operations) (key : List ℕ) (at i : ℕ) (next : Option ℕ) : Type 0 where
  pub within : i ≤ length levels
  pub so_far : IsNumberAfter (ops_down key (buffers_of (drop i levels)) rows) at next

all_left : {A : Type 0} (levels : List (Level A)) → drop (length levels) levels ≡ []
all_left [] = refl
all_left (x ∷ xs) = all_left xs

pub next_from_rows : {A : Type 0} (levels : List (Level A)) (rows : Operations) (key : List ℕ) (at : ℕ) (next : Option ℕ) → IsNumberAfter rows at next → IsNextFrom levels rows key at (length levels) next
next_from_rows {A} levels rows key at next is = record {
  within = omega arith;
  so_far = subst (λ (ls : List (Level A)). IsNumberAfter (ops_down key (buffers_of ls) rows) at next) (sym (all_left levels)) is;
}

newer_dropped : {A : Type 0} (levels : List (Level A)) (rows : Operations) (key : List ℕ) (i : ℕ) → NewerDown key (buffers_of levels) rows → NewerDown key (buffers_of (drop i levels)) rows
newer_dropped levels rows key zero h = h
newer_dropped [] rows key (suc i) h = h
newer_dropped (x ∷ xs) rows key (suc i) h = newer_dropped xs rows key i h.1

cut_at : {A : Type 0} (levels : List (Level A)) (i : ℕ) (l : Level A) → i < length levels → l ≡ get_or levels i l → drop i levels ≡ l ∷ drop (i + 1) levels
cut_at levels i l h e = at_drop_more (λ xs. xs) levels i l h ∙ ap (λ x. x ∷ drop (i + 1) levels) (sym e)

-- a lower level, or the rows, have one
pub next_stays : {A : Type 0} (levels : List (Level A)) (rows : Operations) (key : List ℕ) (at i number : ℕ) (l : Level A) → i < length levels → l ≡ get_or levels i l → NewerDown key (buffers_of levels) rows → IsNextFrom levels rows key at (i + 1) (Some number) → IsNextFrom levels rows key at i (Some number)
next_stays {A} levels rows key at i number l h e newer is = record {
  within = omega arith;
  so_far = subst (λ (ls : List (Level A)). IsNumberAfter (ops_down key (buffers_of ls) rows) at (Some number)) (sym (cut_at levels i l h e))
      (below_stays (ops_in l.buffer.now.messages key) (ops_down key (buffers_of (drop (i + 1) levels)) rows) at number
      (subst (λ (ls : List (Level A)). NewerDown key (buffers_of ls) rows) (cut_at levels i l h e) (newer_dropped levels rows key i newer)).0 is.so_far);
}

-- none of them has one
pub next_here : {A : Type 0} (levels : List (Level A)) (rows : Operations) (key : List ℕ) (at i : ℕ) (next : Option ℕ) (l : Level A) → i < length levels → l ≡ get_or levels i l → IsNextFrom levels rows key at (i + 1) None → IsNumberAfter (ops_in l.buffer.now.messages key) at next → IsNextFrom levels rows key at i next
next_here {A} levels rows key at i next l h e is own = record {
  within = omega arith;
  so_far = subst (λ (ls : List (Level A)). IsNumberAfter (ops_down key (buffers_of ls) rows) at next) (sym (cut_at levels i l h e))
      (own_is_next (ops_in l.buffer.now.messages key) (ops_down key (buffers_of (drop (i + 1) levels)) rows) at next is.so_far own);
}

-- ---- one level up

again : (i : ℕ) → 0 < i → i ≡ (i - 1) + 1
again i h = omega (arith, h)

-- the next number that is there stays
pub up_kept : {A : Type 0} (levels : List (Level A)) (rows : Operations) (key : List ℕ) (at i : ℕ) (next : Option ℕ) (l : Level A) → 0 < i → l ≡ get_or levels (i - 1) l → NewerDown key (buffers_of levels) rows → is_some next ≡ true → IsNextFrom levels rows key at i next → IsNextFrom levels rows key at (i - 1) next
up_kept levels rows key at i None l h e newer some is = absurd (let z : false ≡ true = some in cc)
up_kept levels rows key at i (Some number) l h e newer some is =
    next_stays levels rows key at (i - 1) number l (let w = is.within in omega (arith, h, w)) e newer (subst (λ k. IsNextFrom levels rows key at k (Some number)) (again i h) is)

-- the level's own one is next
pub up_here : {A : Type 0} (levels : List (Level A)) (rows : Operations) (key : List ℕ) (at i : ℕ) (next found : Option ℕ) (l : Level A) → 0 < i → l ≡ get_or levels (i - 1) l → is_some next ≡ false → IsNumberAfter (ops_in l.buffer.now.messages key) at found → IsNextFrom levels rows key at i next → IsNextFrom levels rows key at (i - 1) found
up_here levels rows key at i (Some number) found l h e none own is = absurd (let z : true ≡ false = none in cc)
up_here levels rows key at i None found l h e none own is =
    next_here levels rows key at (i - 1) found l (let w = is.within in omega (arith, h, w)) e (subst (λ k. IsNextFrom levels rows key at k None) (again i h) is) own

-- neither the level nor what is below it has one
pub up_none : {A : Type 0} (levels : List (Level A)) (rows : Operations) (key : List ℕ) (at i : ℕ) (next : Option ℕ) (l : Level A) → 0 < i → l ≡ get_or levels (i - 1) l → AllByRecursion (λ (x : Level A). IsNextTold (ops_in x.buffer.now.messages key) (key_in x.next) key) levels → is_next (key_in l.next) key ≡ false → is_some next ≡ false → IsNextFrom levels rows key at i next
    → IsNextFrom levels rows key at (i - 1) next
up_none levels rows key at i (Some number) l h e told other none is = absurd (let z : true ≡ false = none in cc)
up_none {A} levels rows key at i None l h e told other none is = up_here levels rows key at i None None l h e none (told_none (ops_in l.buffer.now.messages key) (key_in l.next) key at own other) is where
  own : IsNextTold (ops_in l.buffer.now.messages key) (key_in l.next) key
  own = subst (λ (x : Level A). IsNextTold (ops_in x.buffer.now.messages key) (key_in x.next) key) (sym e) (all_at (λ (x : Level A). IsNextTold (ops_in x.buffer.now.messages key) (key_in x.next) key) levels (i - 1) l told (let w = is.within in omega (arith, h, w)))

-- all levels have been gone over
pub up_done : {A : Type 0} (levels : List (Level A)) (rows : Operations) (key : List ℕ) (at i : ℕ) (next : Option ℕ) → i ≤ 0 → IsNextFrom levels rows key at i next → IsNumberAfter (ops_down key (buffers_of levels) rows) at next
up_done {A} levels rows key at i next h is = subst (λ k. IsNumberAfter (ops_down key (buffers_of (drop k levels)) rows) at next) (let none : i ≡ 0 = omega (arith, h) in none) is.so_far
