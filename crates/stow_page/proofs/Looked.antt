-- What a look-up in versions that rise finds.
use Rattle.std.proofs.Common.{◌≡◌, ◌≢◌, ℕ, zero, suc, ◌+◌, ◌-◌, ◌<◌, ◌≤◌, Bool, true, false, cond, List, [], ◌∷◌, ◌++◌, length, get_or, map, filter, refl, sym, ◌∙◌, ap, subst, arith, ⊎_elim, inl, inr, ◌⊎◌, Some, None}
use Rattle.std.specs.Option.{unwrap_or, option_map}
use Rattle.std.specs.List.{slice_get, AllByRecursion}
use Rattle.std.specs.List.Sorted.{IsStrictlySortedBy}
use Rattle.std.specs.Cmp.{tied_itself, first_so}
use Rattle.std.proofs.lemmas.Map.Lookups.{exact_bytes}
use Rattle.std.specs.Cmp.Lexicographic.{bytes_decides, nat_list_cmp_total}
use Rattle.std.specs.Str.{bytes_eq}
use Rattle.std.specs.Prelude.{nat_le, ◌&&◌}
use Rattle.std.specs.declared.cmp.Ordering.{Ordering}
use Rattle.std.specs.declared.cmp.Ordering.TheVariants.{Less, Equal, Greater}
use Rattle.std.specs.Ordering.{nat_cmp, is_lt, ordering_then, ordering_reverse}
use Rattle.std.proofs.lemmas.Bool.{cases_Bool, cases_order, true≢false}
use Rattle.std.proofs.lemmas.Bool.Decides.{nat_tests}
use Rattle.std.proofs.lemmas.Option.{slice_get_within, slice_get-map, slice_get-get_or}
use Rattle.std.proofs.lemmas.List.{length-map}
use Rattle.stow_tree_model.specs.StowBytes.Bytes.{bytes_cmp}
use Rattle.stow_tree_model.specs.Version.{Version}
use Rattle.stow_tree_model.specs.Order.{VersionPlace, place_cmp, version_place, VersionsRise}
use Rattle.stow_tree_model.proofs.Orders.{place_total, less_than, same_number, more_than}
use Rattle.stow_page.specs.Rows.{is_above, is_up_to, last_of, version_at, AreAlone, IsCountBetween, IsCountFrom, IsCountUpTo}

-- ---- versions by their index

pub all_at : {X : Type 0} (P : X → Type 0) (xs : List X) (i : ℕ) (x : X) → AllByRecursion P xs → slice_get xs i ≡ Some x → P x
all_at P [] i x all e = let none = slice_get_within [] i x e in absurd (omega arith)
all_at P (y ∷ ys) zero x all e = subst P (ap (λ o. unwrap_or o x) e) all.0
all_at P (y ∷ ys) (suc i) x all e = all_at P ys i x all.1 e

pub rise_at : (ps : List VersionPlace) (i j : ℕ) (a b : VersionPlace) → IsStrictlySortedBy place_cmp ps → i < j → slice_get ps i ≡ Some a → slice_get ps j ≡ Some b → place_cmp a b ≡ Less
unfolding IsStrictlySortedBy
rise_at [] i j a b rise low e f = let none = slice_get_within [] i a e in absurd (omega arith)
rise_at (p ∷ ps) i zero a b rise low e f = absurd (omega arith)
rise_at (p ∷ ps) zero (suc j) a b rise low e f = all_at (λ q. place_cmp a q ≡ Less) ps j b (subst (λ q. AllByRecursion (λ r. place_cmp q r ≡ Less) ps) (ap (λ o. unwrap_or o a) e) rise.0) f
rise_at (p ∷ ps) (suc i) (suc j) a b rise low e f = rise_at ps i j a b rise.1 (omega arith) e f

pub versions_rise_at : (rows : List Version) (i j : ℕ) (v w : Version) → VersionsRise rows → i < j → slice_get rows i ≡ Some v → slice_get rows j ≡ Some w → place_cmp (version_place v) (version_place w) ≡ Less
versions_rise_at rows i j v w rise low e f =
    rise_at (map version_place rows) i j (version_place v) (version_place w) rise low
    (slice_get-map version_place rows i ∙ ap (λ o. option_map version_place o) e) (slice_get-map version_place rows j ∙ ap (λ o. option_map version_place o) f)

-- ---- the last one of a filtered list

filter_none : (p : Version → Bool) (rows : List Version) → ((i : ℕ) (v : Version) → slice_get rows i ≡ Some v → p v ≡ false) → filter p rows ≡ []
filter_none p [] h = refl
filter_none p (v ∷ later) h = ap (λ b. cond b (v ∷ filter p later) (filter p later)) (h 0 v refl) ∙ filter_none p later (λ i w e. h (suc i) w e)

pub last_none : (p : Version → Bool) (rows : List Version) → ((i : ℕ) (v : Version) → slice_get rows i ≡ Some v → p v ≡ false) → last_of (filter p rows) ≡ None
last_none p rows h = ap last_of (filter_none p rows h)

last_behind : (v w : Version) (rows : List Version) → last_of rows ≡ Some v → last_of (w ∷ rows) ≡ Some v
last_behind v w [] e = cc
last_behind v w (_ ∷ _) e = e

pub last_at : (p : Version → Bool) (rows : List Version) (i : ℕ) (v : Version) → slice_get rows i ≡ Some v → p v ≡ true → ((j : ℕ) (w : Version) → i < j → slice_get rows j ≡ Some w → p w ≡ false) → last_of (filter p rows) ≡ Some v
last_at p [] i v e is later = let none = slice_get_within [] i v e in absurd (omega arith)
last_at p (w ∷ rows) zero v e is later =
    let same : w ≡ v = ap (λ o. unwrap_or o v) e in
    ap (λ b. last_of (cond b (w ∷ filter p rows) (filter p rows))) (ap p same ∙ is)
    ∙ ap (λ vs. last_of (w ∷ vs)) (filter_none p rows (λ j u f. later (suc j) u (omega arith) f)) ∙ ap Some same
last_at p (w ∷ rows) (suc i) v e is later =
    let more : last_of (filter p rows) ≡ Some v = last_at p rows i v e is (λ j u low f. later (suc j) u (omega arith) f) in
    ⊎_elim
    (λ (y : p w ≡ true). ap (λ b. last_of (cond b (w ∷ filter p rows) (filter p rows))) y ∙ last_behind v w (filter p rows) more)
    (λ (n : p w ≡ false). ap (λ b. last_of (cond b (w ∷ filter p rows) (filter p rows))) n ∙ more)
    (cases_Bool (p w))

-- ---- a place among them

pub lt_is : (r : Ordering) → is_lt r ≡ true → r ≡ Less
lt_is Less e = refl
lt_is Equal e = cc
lt_is Greater e = cc

-- above a version that stands above the place all stand above it
pub above_later : (place a b : VersionPlace) → is_lt (place_cmp place a) ≡ true → place_cmp a b ≡ Less → is_lt (place_cmp place b) ≡ true
above_later place a b h l = ap is_lt (place_total.trans place a b (lt_is _ h) l)

-- below a version that doesn't stand above the place none stands above it
pub not_above_earlier : (place a b : VersionPlace) → is_lt (place_cmp place b) ≡ false → place_cmp a b ≡ Less → is_lt (place_cmp place a) ≡ false
not_above_earlier place a b h l = ⊎_elim
    (λ (y : is_lt (place_cmp place a) ≡ true). absurd (true≢false (sym (above_later place a b y l) ∙ h)))
    (λ (n : is_lt (place_cmp place a) ≡ false). n)
    (cases_Bool (is_lt (place_cmp place a)))

at_same_key : (a b : List ℕ) (m n : ℕ) → a ≡ b → place_cmp (a, m) (b, n) ≡ nat_cmp m n
at_same_key a b m n e = ap (λ c. ordering_then (bytes_cmp a c) (nat_cmp m n)) (sym e) ∙ ap (λ o. ordering_then o (nat_cmp m n)) (tied_itself nat_list_cmp_total a)

lower_number : (m n : ℕ) → is_lt (nat_cmp m n) ≡ true → m < n
lower_number m n h = ⊎_elim
    (λ (e : m ≡ n). absurd (true≢false (sym h ∙ ap (λ k. is_lt (nat_cmp m k)) (sym e) ∙ ap is_lt (same_number m))))
    (λ (g : (m < n) ⊎ (n < m)). ⊎_elim (λ (l : m < n). l) (λ (l : n < m). absurd (true≢false (sym h ∙ ap is_lt (more_than m n l)))) g)
    (cases_order m n)

not_lower_number : (m n : ℕ) → is_lt (nat_cmp m n) ≡ false → n ≤ m
not_lower_number m n h = ⊎_elim
    (λ (e : m ≡ n). omega arith)
    (λ (g : (m < n) ⊎ (n < m)). ⊎_elim (λ (l : m < n). absurd (true≢false (sym (ap is_lt (less_than m n l)) ∙ h))) (λ (l : n < m). omega arith) g)
    (cases_order m n)

above_not_up_to : (key : List ℕ) (number : ℕ) (v : Version) → is_above (key, number) v ≡ true → is_up_to key number v ≡ false
above_not_up_to key number v h = ⊎_elim
    (λ (y : bytes_eq key v.key ≡ true).
    let same : key ≡ v.key = (bytes_decides key v.key).0 y in
    let low : number < v.number = lower_number number v.number (sym (ap is_lt (at_same_key key v.key number v.number same)) ∙ h) in
    let no : nat_le v.number number ≡ false = grind (arith, nat_tests) in
    (λ i. y i && no i))
    (λ (n : bytes_eq key v.key ≡ false). ap (λ b. b && nat_le v.number number) n)
    (cases_Bool (bytes_eq key v.key))

not_above_up_to : (key : List ℕ) (number : ℕ) (v : Version) → is_above (key, number) v ≡ false → v.key ≡ key → is_up_to key number v ≡ true
not_above_up_to key number v h e =
    let low : v.number ≤ number = not_lower_number number v.number (sym (ap is_lt (at_same_key key v.key number v.number (sym e))) ∙ h) in
    let yes : nat_le v.number number ≡ true = grind (arith, nat_tests) in
    λ i. (bytes_decides key v.key).1 (sym e) i && yes i

pub other_key : (key : List ℕ) (number : ℕ) (v : Version) → v.key ≢ key → is_up_to key number v ≡ false
other_key key number v ne = ⊎_elim
    (λ (y : bytes_eq key v.key ≡ true). absurd (ne (sym ((bytes_decides key v.key).0 y))))
    (λ (n : bytes_eq key v.key ≡ false). ap (λ b. b && nat_le v.number number) n)
    (cases_Bool (bytes_eq key v.key))

-- a version that isn't above the place and isn't the key's has a lower key
pub lower_at : (key other : List ℕ) (o : Ordering) → is_lt (ordering_then (bytes_cmp key other) o) ≡ false → other ≢ key → bytes_cmp other key ≡ Less
lower_at key other o h ne = by (bytes_cmp key other) refl
  where
    by : (r : Ordering) → bytes_cmp key other ≡ r → bytes_cmp other key ≡ Less
    by Less e = absurd (true≢false (sym (ap (λ r. is_lt (ordering_then r o)) e) ∙ h))
    by Equal e = absurd (ne (sym (exact_bytes key other e)))
    by Greater e = nat_list_cmp_total.antisymm other key ∙ ap ordering_reverse e

-- what stands below a version of a lower key has a lower key too
below_at : (key a b : List ℕ) (o : Ordering) → ordering_then (bytes_cmp a b) o ≡ Less → bytes_cmp b key ≡ Less → bytes_cmp a key ≡ Less
below_at key a b o h l = by (bytes_cmp a b) refl
  where
    by : (r : Ordering) → bytes_cmp a b ≡ r → bytes_cmp a key ≡ Less
    by Less e = nat_list_cmp_total.trans a b key e l
    by Equal e = subst (λ c. bytes_cmp c key ≡ Less) (sym (exact_bytes a b e)) l
    by Greater e = absurd (let wrong : Greater ≡ Less = sym (ap (λ r. ordering_then r o) e) ∙ h in cc)

lower_key : (key : List ℕ) (number : ℕ) (v w : Version) → is_above (key, number) v ≡ false → v.key ≢ key → place_cmp (version_place w) (version_place v) ≡ Less → is_up_to key number w ≡ false
lower_key key number v w h ne l =
    let low : bytes_cmp w.key key ≡ Less = below_at key w.key v.key (nat_cmp w.number v.number) l (lower_at key v.key (nat_cmp number v.number) h ne) in
    other_key key number w (λ e. let wrong : Equal ≡ Less = sym (tied_itself nat_list_cmp_total key) ∙ ap (λ k. bytes_cmp k key) (sym e) ∙ low in cc)

-- ---- the look-up

pub found_none : (rows : List Version) (key : List ℕ) (number count : ℕ) → IsCountUpTo rows (key, number) count → count ≡ 0 → version_at rows key number ≡ None
unfolding version_at
found_none rows key number count h e = last_none (is_up_to key number) rows (λ i v f. above_not_up_to key number v (h.above i v (omega arith) f))

pub found_it : (rows : List Version) (key : List ℕ) (number count i : ℕ) (v : Version) → IsCountUpTo rows (key, number) count → count ≡ i + 1 → slice_get rows i ≡ Some v → is_up_to key number v ≡ true → version_at rows key number ≡ Some v
unfolding version_at
found_it rows key number count i v h e f is =
    last_at (is_up_to key number) rows i v f is (λ j w low g. above_not_up_to key number w (h.above j w (omega arith) g))

pub found_other : (rows : List Version) (key : List ℕ) (number count i : ℕ) (v : Version) → VersionsRise rows → IsCountUpTo rows (key, number) count → count ≡ i + 1 → slice_get rows i ≡ Some v → is_up_to key number v ≡ false → version_at rows key number ≡ None
unfolding version_at
found_other rows key number count i v rise h e f isnt = last_none (is_up_to key number) rows none
  where
    ne : v.key ≢ key
    ne same = true≢false (sym (not_above_up_to key number v (h.up_to i v (omega arith) f) same) ∙ isnt)

    none : (j : ℕ) (w : Version) → slice_get rows j ≡ Some w → is_up_to key number w ≡ false
    none j w g = ⊎_elim
        (λ (same : j ≡ i). other_key key number w (λ k. ne (ap (λ o. (unwrap_or o v).key) (sym f ∙ ap (slice_get rows) (sym same) ∙ g) ∙ k)))
        (λ (c : (j < i) ⊎ (i < j)). ⊎_elim
        (λ (low : j < i). lower_key key number v w (h.up_to i v (omega arith) f) ne (versions_rise_at rows j i w v rise low g f))
        (λ (low : i < j). above_not_up_to key number w (h.above j w (omega arith) g))
        c)
        (cases_order j i)

-- ---- the search for a place

-- what is known of the places from the first on below the one bound, and from the other on before the last
pub record IsNarrowed (rows : List Version) (place : VersionPlace) (from to low high : ℕ) : Type 0 where
  pub first : from ≤ low
  pub ordered : low ≤ high
  pub last : high ≤ to
  pub within : to ≤ length rows
  pub up_to : (i : ℕ) (v : Version) → from ≤ i → i < low → slice_get rows i ≡ Some v → is_above place v ≡ false
  pub above : (i : ℕ) (v : Version) → high ≤ i → i < to → slice_get rows i ≡ Some v → is_above place v ≡ true

under_or_from : (i n : ℕ) → (i < n) ⊎ (n ≤ i)
under_or_from i n = ⊎_elim
    (λ (e : i ≡ n). inr (omega arith))
    (λ (c : (i < n) ⊎ (n < i)). ⊎_elim (λ (l : i < n). inl l) (λ (l : n < i). inr (omega arith)) c)
    (cases_order i n)

pub narrowed_first : (rows : List Version) (place : VersionPlace) (from to : ℕ) → from ≤ to → to ≤ length rows → IsNarrowed rows place from to from to
narrowed_first rows place from to order within = record {
  first = omega arith;
  ordered = order;
  last = omega arith;
  within = within;
  up_to = λ i v above low e. absurd (omega (arith, above, low));
  above = λ i v past before e. absurd (omega (arith, past, before));
}

same_at : (rows : List Version) (i : ℕ) (v w : Version) → slice_get rows i ≡ Some v → slice_get rows i ≡ Some w → v ≡ w
same_at rows i v w e f = ap (λ o. unwrap_or o v) (sym e ∙ f)

pub narrowed_down : (rows : List Version) (place : VersionPlace) (from to low high middle : ℕ) (v : Version) → VersionsRise rows → IsNarrowed rows place from to low high → low ≤ middle → middle < high → slice_get rows middle ≡ Some v → is_above place v ≡ true → IsNarrowed rows place from to low middle
narrowed_down rows place from to low high middle v rise h a b e is = record {
  first = h.first;
  ordered = a;
  last = let last = h.last in omega arith;
  within = h.within;
  up_to = h.up_to;
  above = λ i w past before f. ⊎_elim
      (λ (same : i ≡ middle). subst (λ u. is_above place u ≡ true) (same_at rows middle v w e (subst (λ j. slice_get rows j ≡ Some w) same f)) is)
      (λ (c : (i < middle) ⊎ (middle < i)). ⊎_elim
      (λ (l : i < middle). absurd (omega arith))
      (λ (l : middle < i). above_later place (version_place v) (version_place w) is (versions_rise_at rows middle i v w rise l e f))
      c)
      (cases_order i middle);
}

pub narrowed_up : (rows : List Version) (place : VersionPlace) (from to low high middle : ℕ) (v : Version) → VersionsRise rows → IsNarrowed rows place from to low high → low ≤ middle → middle < high → slice_get rows middle ≡ Some v → is_above place v ≡ false → IsNarrowed rows place from to (middle + 1) high
narrowed_up rows place from to low high middle v rise h a b e is = record {
  first = let first = h.first in omega arith;
  ordered = omega arith;
  last = h.last;
  within = h.within;
  above = h.above;
  up_to = λ i w from_there below f. ⊎_elim
      (λ (same : i ≡ middle). subst (λ u. is_above place u ≡ false) (same_at rows middle v w e (subst (λ j. slice_get rows j ≡ Some w) same f)) is)
      (λ (c : (i < middle) ⊎ (middle < i)). ⊎_elim
      (λ (l : i < middle). not_above_earlier place (version_place w) (version_place v) is (versions_rise_at rows i middle w v rise l f e))
      (λ (l : middle < i). absurd (omega arith))
      c)
      (cases_order i middle);
}

pub narrowed_last : (rows : List Version) (place : VersionPlace) (from to low high : ℕ) → IsNarrowed rows place from to low high → high ≤ low → IsCountBetween rows place from to low
narrowed_last rows place from to low high h e =
    let ordered = h.ordered in
    let last = h.last in
    record { order = h.first; within = omega arith; up_to = h.up_to; above = λ i v past before f. h.above i v (omega arith) before f }

-- what was counted between the first version and the end
pub counted_whole : (rows : List Version) (place : VersionPlace) (to count : ℕ) → to ≡ length rows → IsCountBetween rows place 0 to count → IsCountUpTo rows place count
counted_whole rows place to count e h = record {
  within = let within = h.within in omega arith;
  up_to = λ i v low f. h.up_to i v (omega arith) low f;
  above = λ i v past f. h.above i v past (let within = slice_get_within rows i v f in omega arith) f;
}

-- what was counted between the two bounds of what is known
pub counted_narrowed : (rows : List Version) (place : VersionPlace) (from to low high count : ℕ) → to ≡ length rows → IsNarrowed rows place from to low high → IsCountBetween rows place low high count → IsCountFrom rows place from count
counted_narrowed rows place from to low high count e n h = record {
  order = let first = n.first in let order = h.order in omega arith;
  within = let last = n.last in let within = h.within in omega arith;
  up_to = λ i v from_there below f. ⊎_elim
      (λ (l : i < low). n.up_to i v from_there l f)
      (λ (l : low ≤ i). h.up_to i v l below f)
      (under_or_from i low);
  above = λ i v past before f. ⊎_elim
      (λ (l : i < high). h.above i v past l f)
      (λ (l : high ≤ i). n.above i v l (omega arith) f)
      (under_or_from i high);
}

-- with the version before a count not above the place, and the one at it above, it is how many stand up to it
pub counted_from : (rows : List Version) (place : VersionPlace) (count : ℕ) → count ≤ length rows → count ≡ 0 → IsNarrowed rows place 0 (length rows) count (length rows)
counted_from rows place count within e = subst (λ n. IsNarrowed rows place 0 (length rows) n (length rows)) (sym e) (narrowed_first rows place 0 (length rows) (omega arith) (omega arith))

pub counted_up : (rows : List Version) (place : VersionPlace) (count : ℕ) (v : Version) → VersionsRise rows → count ≤ length rows → 0 < count → slice_get rows (count - 1) ≡ Some v → is_above place v ≡ false → IsNarrowed rows place 0 (length rows) count (length rows)
counted_up rows place count v rise within some e is =
    let same : count - 1 + 1 ≡ count = omega arith in
    subst (λ n. IsNarrowed rows place 0 (length rows) n (length rows)) same
    (narrowed_up rows place 0 (length rows) 0 (length rows) (count - 1) v rise (narrowed_first rows place 0 (length rows) (omega arith) (omega arith)) (omega arith) (omega arith) e is)

pub counted_all : (rows : List Version) (place : VersionPlace) (count : ℕ) → IsNarrowed rows place 0 (length rows) count (length rows) → count ≡ length rows → IsCountUpTo rows place count
counted_all rows place count h e = counted_whole rows place (length rows) count refl (narrowed_last rows place 0 (length rows) count (length rows) h (omega arith))

pub counted_here : (rows : List Version) (place : VersionPlace) (count : ℕ) (v : Version) → VersionsRise rows → IsNarrowed rows place 0 (length rows) count (length rows) → slice_get rows count ≡ Some v → is_above place v ≡ true → IsCountUpTo rows place count
counted_here rows place count v rise h e is =
    counted_whole rows place (length rows) count refl
    (narrowed_last rows place 0 (length rows) count count (narrowed_down rows place 0 (length rows) count (length rows) count v rise h (omega arith) (slice_get_within rows count v e) e is) (omega arith))

-- ---- a version where a hint says

-- what stands above one of the key's versions up to the number, and isn't one, stands above the place
above_beside : (key : List ℕ) (number : ℕ) (v w : Version) → is_up_to key number v ≡ true → is_up_to key number w ≡ false → place_cmp (version_place v) (version_place w) ≡ Less → is_above (key, number) w ≡ true
above_beside key number v w is isnt l = ⊎_elim
    (λ (y : is_above (key, number) w ≡ true). y)
    (λ (n : is_above (key, number) w ≡ false). absurd (by n (bytes_cmp key w.key) refl))
    (cases_Bool (is_above (key, number) w))
  where
    same : key ≡ v.key
    same = (bytes_decides key v.key).0 (first_so (bytes_eq key v.key) (nat_le v.number number) is)

    by : is_above (key, number) w ≡ false → (r : Ordering) → bytes_cmp key w.key ≡ r → ⊥
    by n Less e = true≢false (sym (ap (λ r. is_lt (ordering_then r (nat_cmp number w.number))) e) ∙ n)
    by n Equal e = true≢false (sym (not_above_up_to key number w n (sym (exact_bytes key w.key e))) ∙ isnt)
    by n Greater e =
        let wrong : Greater ≡ Less = sym (ap (λ r. ordering_then r (nat_cmp v.number w.number)) (ap (λ k. bytes_cmp k w.key) (sym same) ∙ e)) ∙ l in
        cc

-- the key's version up to the number, where the next one is none, is the newest
newest : (rows : List Version) (key : List ℕ) (number i : ℕ) (v : Version) → VersionsRise rows → slice_get rows i ≡ Some v → is_up_to key number v ≡ true
    → ((w : Version) → slice_get rows (i + 1) ≡ Some w → is_up_to key number w ≡ false) → slice_get rows i ≡ version_at rows key number
unfolding version_at
newest rows key number i v rise e is next = e ∙ sym (last_at (is_up_to key number) rows i v e is later)
  where
    later : (j : ℕ) (w : Version) → i < j → slice_get rows j ≡ Some w → is_up_to key number w ≡ false
    later j w low f = ⊎_elim
        (λ (same : j ≡ i + 1). next w (subst (λ k. slice_get rows k ≡ Some w) same f))
        (λ (c : (j < i + 1) ⊎ (i + 1 < j)). ⊎_elim
        (λ (l : j < i + 1). absurd (omega arith))
        (λ (l : i + 1 < j).
        let within = slice_get_within rows j w f in
        let u : Version = get_or rows (i + 1) v in
        let there : slice_get rows (i + 1) ≡ Some u = slice_get-get_or rows (i + 1) v (omega arith) in
        let above = above_beside key number v u is (next u there) (versions_rise_at rows i (i + 1) v u rise (omega arith) e there) in
        above_not_up_to key number w (above_later (key, number) (version_place u) (version_place w) above (versions_rise_at rows (i + 1) j u w rise l there f)))
        c)
        (cases_order j (i + 1))

pub newest_last : (rows : List Version) (key : List ℕ) (number i : ℕ) (v : Version) → VersionsRise rows → slice_get rows i ≡ Some v → is_up_to key number v ≡ true → i + 1 ≡ length rows → slice_get rows i ≡ version_at rows key number
newest_last rows key number i v rise e is last = newest rows key number i v rise e is (λ w f. let within = slice_get_within rows (i + 1) w f in absurd (omega arith))

pub newest_before : (rows : List Version) (key : List ℕ) (number i : ℕ) (v w : Version) → VersionsRise rows → slice_get rows i ≡ Some v → is_up_to key number v ≡ true → slice_get rows (i + 1) ≡ Some w → is_up_to key number w ≡ false
    → slice_get rows i ≡ version_at rows key number
newest_before rows key number i v w rise e is f isnt = newest rows key number i v rise e is (λ u g. subst (λ x. is_up_to key number x ≡ false) (same_at rows (i + 1) w u f g) isnt)

-- ---- a version behind them

get_front : (rows more : List Version) (i : ℕ) (w : Version) → slice_get rows i ≡ Some w → slice_get (rows ++ more) i ≡ Some w
get_front [] more i w e = let none = slice_get_within [] i w e in absurd (omega arith)
get_front (_ ∷ rows) more zero w e = e
get_front (_ ∷ rows) more (suc i) w e = get_front rows more i w e

get_behind : (rows : List Version) (v : Version) → slice_get (rows ++ v ∷ []) (length rows) ≡ Some v
get_behind [] v = refl
get_behind (_ ∷ rows) v = get_behind rows v

rises_behind : (ps : List VersionPlace) (p : VersionPlace) → IsStrictlySortedBy place_cmp ps → ((i : ℕ) (q : VersionPlace) → slice_get ps i ≡ Some q → place_cmp q p ≡ Less) → IsStrictlySortedBy place_cmp (ps ++ p ∷ [])
unfolding IsStrictlySortedBy
rises_behind [] p rise below = (tt, tt)
rises_behind (q ∷ ps) p rise below = (first ps rise.0, rises_behind ps p rise.1 (λ i r e. below (suc i) r e))
  where
    first : (rs : List VersionPlace) → AllByRecursion (λ r. place_cmp q r ≡ Less) rs → AllByRecursion (λ r. place_cmp q r ≡ Less) (rs ++ p ∷ [])
    first [] all = (below 0 q refl, tt)
    first (r ∷ rs) all = (all.0, first rs all.1)

places_behind : (rows : List Version) (v : Version) → map version_place (rows ++ v ∷ []) ≡ map version_place rows ++ version_place v ∷ []
places_behind [] v = refl
places_behind (w ∷ rows) v = ap (λ ps. version_place w ∷ ps) (places_behind rows v)

pub rise_behind_none : (rows : List Version) (v : Version) → length rows ≡ 0 → VersionsRise (rows ++ v ∷ [])
unfolding IsStrictlySortedBy
rise_behind_none [] v e = (tt, tt)
rise_behind_none (_ ∷ _) v e = absurd (omega arith)

-- at the last index or below
pub rise_behind : (rows : List Version) (i : ℕ) (last v : Version) → VersionsRise rows → length rows ≡ i + 1 → slice_get rows i ≡ Some last → place_cmp (version_place last) (version_place v) ≡ Less → VersionsRise (rows ++ v ∷ [])
rise_behind rows i last v rise e f l =
    subst (IsStrictlySortedBy place_cmp) (sym (places_behind rows v)) (rises_behind (map version_place rows) (version_place v) rise below)
  where
    below : (j : ℕ) (q : VersionPlace) → slice_get (map version_place rows) j ≡ Some q → place_cmp q (version_place v) ≡ Less
    below j q g =
        let within : j < length rows = subst (λ n. j < n) (length-map rows version_place) (slice_get_within (map version_place rows) j q g) in
        let w : Version = get_or rows j last in
        let there : slice_get rows j ≡ Some w = slice_get-get_or rows j last within in
        let is : q ≡ version_place w = ap (λ o. unwrap_or o q) (sym g ∙ slice_get-map version_place rows j ∙ ap (λ o. option_map version_place o) there) in
        let low : place_cmp (version_place w) (version_place v) ≡ Less = ⊎_elim
        (λ (same : j ≡ i). subst (λ u. place_cmp (version_place u) (version_place v) ≡ Less) (same_at rows i last w f (subst (λ k. slice_get rows k ≡ Some w) same there)) l)
        (λ (c : (j < i) ⊎ (i < j)). ⊎_elim
        (λ (lower : j < i). place_total.trans (version_place w) (version_place last) (version_place v) (versions_rise_at rows j i w last rise lower there f) l)
        (λ (higher : i < j). absurd (omega arith))
        c)
        (cases_order j i) in
        subst (λ p. place_cmp p (version_place v) ≡ Less) (sym is) low

pub rise_behind_last : (rows : List Version) (i : ℕ) (last v : Version) → slice_get rows i ≡ Some last → VersionsRise (rows ++ v ∷ []) → place_cmp (version_place last) (version_place v) ≡ Less
rise_behind_last rows i last v f rise =
    let within = slice_get_within rows i last f in
    versions_rise_at (rows ++ v ∷ []) i (length rows) last v rise (omega arith) (get_front rows (v ∷ []) i last f) (get_behind rows v)

of_key : (key : List ℕ) (number : ℕ) (v : Version) → is_up_to key number v ≡ true → key ≡ v.key
of_key key number v is = (bytes_decides key v.key).0 (⊎_elim
    (λ (y : bytes_eq key v.key ≡ true). y)
    (λ (n : bytes_eq key v.key ≡ false). absurd (true≢false (sym is ∙ ap (λ b. b && nat_le v.number number) n)))
    (cases_Bool (bytes_eq key v.key)))

-- .. where versions beside each other are of different keys it is any that is the key's
pub newest_alone : (rows : List Version) (key : List ℕ) (number i : ℕ) (v : Version) → VersionsRise rows → AreAlone rows → slice_get rows i ≡ Some v → is_up_to key number v ≡ true → slice_get rows i ≡ version_at rows key number
newest_alone rows key number i v rise alone e is = newest rows key number i v rise e is
    (λ w f. other_key key number w (λ same. alone.are_apart.apart i v w e f (sym (of_key key number v is) ∙ sym same)))
