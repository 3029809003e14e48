-- Histories: what they show, and what a merge leaves of them.
use Rattle.std.proofs.Common.{◌≡◌, ◌≢◌, ℕ, zero, suc, ◌<◌, ◌≤◌, Bool, true, false, List, [], ◌∷◌, Option, Some, None, refl, ap, ◌∙◌, sym, subst, arith, ⊎_elim, inl, inr, ◌⊎◌}
use Rattle.std.specs.Prelude.{if◌then◌else◌, ◌&&◌, not, nat_le, map, is_none}
use Rattle.std.specs.declared.cmp.Ordering.{Ordering}
use Rattle.std.specs.declared.cmp.Ordering.TheVariants.{Less, Equal, Greater}
use Rattle.std.specs.Ordering.{eq_by_cmp, nat_cmp, ordering_then, ordering_reverse}
use Rattle.std.specs.Cmp.{tied_itself}
use Rattle.std.specs.List.{AllByRecursion}
use Rattle.std.proofs.lemmas.Bool.{cases_lt, cond-true, cond-false, le-leb, lt-leb, lt-ltb, and_from, and_left, and_right, and_parts, or_left, or_right, not-true}
use Rattle.std.proofs.lemmas.Bool.Decides.{nat_tests}
use Rattle.std.specs.Prelude.{Contains}
use Rattle.std.specs.Cmp.Lexicographic.{nat_list_cmp_total}
use Rattle.std.proofs.lemmas.Map.Lookups.{exact_bytes}
use Rattle.stow_bytes.specs.Bytes.{bytes_cmp}
use Rattle.stow_tree_model.specs.Keys.{tenant_of}
use Rattle.stow_tree_model.specs.TreeMessage.{TreeMessage}
use Rattle.stow_tree_model.specs.Version.{Version}
use Rattle.stow_tree_model.specs.Order.{VersionPlace, place_cmp, place_of, version_place}
use Rattle.stow_tree_model.specs.Operations.{Operations, value_in, numbered, outcome, applied, latest}
use Rattle.stow_tree_model.specs.Messages.{ops_in}
use Rattle.stow_tree_model.specs.Agreement.{TenantPins}
use Rattle.stow_tree_model.specs.Merged.{same_key, begins_with, value_of, is_pin_within, is_kept, version_at, kept, begins_with_version, trimmed, merged_history}
use Rattle.stow_tree_model.proofs.Falling.{Falls, IsHistory, AtMost, value_by, shown_by}
use Rattle.stow_tree_model.proofs.Orders.{key_cases, place_cases}
use Rattle.stow_tree_model.proofs.Latest.{latest_same, latest_stays, contains_cases}

-- ---- places

number_less : (m n : ℕ) → nat_cmp m n ≡ Less → m < n
number_less m n e = grind (arith, nat_tests)

-- of one key the numbers fall
pub falls_number : (k : List ℕ) (m n : ℕ) → place_cmp (k, m) (k, n) ≡ Less → m < n
falls_number k m n e = number_less m n (ap (λ o. ordering_then o (nat_cmp m n)) (sym (tied_itself nat_list_cmp_total k)) ∙ e)

by_first : (r s : Ordering) → ordering_then r s ≡ Less → (r ≡ Equal → ⊥) → r ≡ Less
by_first Less s e ne = refl
by_first Equal s e ne = absurd (ne refl)
by_first Greater s e ne = cc

pub falls_key : (p q : VersionPlace) → place_cmp p q ≡ Less → (q.0 ≢ p.0) → bytes_cmp p.0 q.0 ≡ Less
falls_key p q e ne = by_first (bytes_cmp p.0 q.0) (nat_cmp p.1 q.1) e (λ z. ne (sym (exact_bytes p.0 q.0 z)))

not_back : (k b : List ℕ) (m n : ℕ) → bytes_cmp b k ≡ Less → place_cmp (k, m) (b, n) ≡ Less → ⊥
not_back k b m n l e =
    let g : bytes_cmp k b ≡ Greater = nat_list_cmp_total.antisymm k b ∙ ap ordering_reverse l in
    let z : Greater ≡ Less = ap (λ o. ordering_then o (nat_cmp m n)) (sym g) ∙ e in
    cc

abbrev pub OtherKey : List ℕ → List VersionPlace → Type 0
OtherKey key ps = AllByRecursion (λ q. key ≢ q.0) ps

-- once the key has ended it does not come back
pub no_more : (key : List ℕ) (n : ℕ) (q : VersionPlace) (ps : List VersionPlace) → place_cmp q (key, n) ≡ Less → key ≢ q.0 → AllByRecursion (λ r. place_cmp r q ≡ Less) ps → OtherKey key (q ∷ ps)
no_more key n q ps less ne below = (ne, rest ps below)
  where
    rest : (rs : List VersionPlace) → AllByRecursion (λ r. place_cmp r q ≡ Less) rs → OtherKey key rs
    rest [] h = h
    rest (r ∷ rs) h = (λ e. not_back key q.0 r.1 q.1 (falls_key q (key, n) less ne) (subst (λ k. place_cmp (k, r.1) q ≡ Less) (sym e) h.0), rest rs h.1)

-- ---- whether a number shows a place

pub shown_cases : (key k : List ℕ) (m n : ℕ) → ((key ≡ k) × (m ≤ n) × ((same_key key k && nat_le m n) ≡ true)) ⊎ (((key ≡ k) × (n < m) × ((same_key key k && nat_le m n) ≡ false)) ⊎ ((key ≢ k) × ((same_key key k && nat_le m n) ≡ false)))
shown_cases key k m n = ⊎_elim
    (λ (h : (key ≡ k) × (same_key key k ≡ true)). ⊎_elim
    (λ (l : n < m). inr (inl (h.0, l, and_right (same_key key k) (nat_le m n) (lt-leb m n l))))
    (λ (l : m ≤ n). inl (h.0, l, and_from (same_key key k) (nat_le m n) h.1 (le-leb m n l)))
    (cases_lt n m))
    (λ (h : (key ≢ k) × (same_key key k ≡ false)). inr (inr (h.0, and_left (same_key key k) (nat_le m n) h.1)))
    (key_cases key k)

pub value_by-own : (m : TreeMessage) (older : List TreeMessage) (key : List ℕ) (n : ℕ) → (same_key key m.key && nat_le m.number n) ≡ true → value_by (m ∷ older) key n ≡ numbered m.number (value_of (m ∷ older))
unfolding value_by
value_by-own m older key n e = cond-true _ _ _ e

pub value_by-later : (m : TreeMessage) (older : List TreeMessage) (key : List ℕ) (n : ℕ) → (same_key key m.key && nat_le m.number n) ≡ false → value_by (m ∷ older) key n ≡ value_by older key n
unfolding value_by
value_by-later m older key n e = cond-false _ _ _ e

pub shown_by-own : (v : Version) (older : List Version) (key : List ℕ) (n : ℕ) → (same_key key v.key && nat_le v.number n) ≡ true → shown_by (v ∷ older) key n ≡ numbered v.number v.value
unfolding shown_by
shown_by-own v older key n e = cond-true _ _ _ e

pub shown_by-later : (v : Version) (older : List Version) (key : List ℕ) (n : ℕ) → (same_key key v.key && nat_le v.number n) ≡ false → shown_by (v ∷ older) key n ≡ shown_by older key n
unfolding shown_by
shown_by-later v older key n e = cond-false _ _ _ e

other_test : (key k : List ℕ) (m n : ℕ) → key ≢ k → (same_key key k && nat_le m n) ≡ false
other_test key k m n ne = ⊎_elim
    (λ (h : (key ≡ k) × (same_key key k ≡ true)). absurd (ne h.0))
    (λ (h : (key ≢ k) × (same_key key k ≡ false)). and_left (same_key key k) (nat_le m n) h.1)
    (key_cases key k)

value_by-none : (ms : List TreeMessage) (key : List ℕ) (n : ℕ) → OtherKey key (map place_of ms) → value_by ms key n ≡ None
unfolding value_by
value_by-none [] key n h = refl
value_by-none (m ∷ ms) key n h = cond-false _ _ _ (other_test key m.key m.number n h.0) ∙ value_by-none ms key n h.1

shown_by-none : (vs : List Version) (key : List ℕ) (n : ℕ) → OtherKey key (map version_place vs) → shown_by vs key n ≡ None
unfolding shown_by
shown_by-none [] key n h = refl
shown_by-none (v ∷ vs) key n h = cond-false _ _ _ (other_test key v.key v.number n h.0) ∙ shown_by-none vs key n h.1

-- ---- what a history shows

pub latest_none : (f : Operations) (n : ℕ) → ((k : ℕ) → k ≤ n → f k ≡ None) → latest f n ≡ None
unfolding latest
latest_none f zero h = ap (λ o. applied 0 o None) (h 0 (omega arith))
latest_none f (suc n) h = (λ i. applied (suc n) (h (suc n) (omega arith) i) (latest_none f n (λ k l. h k (omega arith)) i))

-- one operation above all others
top_step : (f g : Operations) (n : ℕ) → g n ≡ None → ((k : ℕ) → k < n → f k ≡ g k) → latest f n ≡ applied n (f n) (latest g n)
unfolding latest
top_step f g zero none same = sym (ap (λ o. applied 0 (f 0) (applied 0 o None)) none)
top_step f g (suc n) none same = λ i. applied (suc n) (f (suc n)) ((latest_same f g n (λ k l. same k (omega arith)) ∙ sym (ap (λ o. applied (suc n) o (latest g n)) none)) i)

pub ops_in-at : (m : TreeMessage) (older : List TreeMessage) → ops_in (m ∷ older) m.key m.number ≡ Some m.op
ops_in-at m older = ⊎_elim
    (λ (h : (◌≡◌ {A = VersionPlace} (m.key, m.number) (place_of m)) × (eq_by_cmp place_cmp (m.key, m.number) (place_of m) ≡ true)). cond-true _ _ _ h.1)
    (λ (h : (◌≢◌ {A = VersionPlace} (m.key, m.number) (place_of m)) × (eq_by_cmp place_cmp (m.key, m.number) (place_of m) ≡ false)). absurd (h.0 refl))
    (place_cases (m.key, m.number) (place_of m))

pub ops_in-skip : (m : TreeMessage) (older : List TreeMessage) (key : List ℕ) (n : ℕ) → (◌≢◌ {A = VersionPlace} (key, n) (place_of m)) → ops_in (m ∷ older) key n ≡ ops_in older key n
ops_in-skip m older key n ne = ⊎_elim
    (λ (h : (◌≡◌ {A = VersionPlace} (key, n) (place_of m)) × (eq_by_cmp place_cmp (key, n) (place_of m) ≡ true)). absurd (ne h.0))
    (λ (h : (◌≢◌ {A = VersionPlace} (key, n) (place_of m)) × (eq_by_cmp place_cmp (key, n) (place_of m) ≡ false)). cond-false _ _ _ h.1)
    (place_cases (key, n) (place_of m))

-- nothing of the key from the place on
pub ops_in-above : (m : VersionPlace) (older : List TreeMessage) (n : ℕ) → m.1 ≤ n → AllByRecursion (λ q. place_cmp q m ≡ Less) (map place_of older) → ops_in older m.0 n ≡ None
ops_in-above m [] n l h = refl
ops_in-above m (x ∷ older) n l h =
    ops_in-skip x older m.0 n (λ e. let k : m.0 ≡ x.key = ap (λ (p : VersionPlace). p.0) e in
    let b : x.number < m.1 = falls_number m.0 x.number m.1 (subst (λ y. place_cmp (y, x.number) (m.0, m.1) ≡ Less) (sym k) h.0) in
    let q : n ≡ x.number = ap (λ (p : VersionPlace). p.1) e in omega arith)
    ∙ ops_in-above m older n l h.1

pub value_in-numbered : (n : ℕ) (v : Option (List ℕ)) → value_in (numbered n v) ≡ v
value_in-numbered n None = refl
value_in-numbered n (Some v) = refl

pub older_value : (m : TreeMessage) (older : List TreeMessage) → IsHistory (m ∷ older) → value_in (value_by older m.key m.number) ≡ (if begins_with m.key older then value_of older else None)
unfolding value_by
older_value m [] h = refl
older_value m (x ∷ older) h = ⊎_elim
    (λ (e : (m.key ≡ x.key) × (same_key m.key x.key ≡ true)).
    let b : x.number < m.number = falls_number m.key x.number m.number (subst (λ y. place_cmp (y, x.number) (m.key, m.number) ≡ Less) (sym e.0) h.0.0) in
    ap value_in (value_by-own x older m.key m.number (and_from (same_key m.key x.key) (nat_le x.number m.number) e.1 (le-leb x.number m.number (omega arith))))
    ∙ value_in-numbered x.number (value_of (x ∷ older))
    ∙ sym (cond-true _ _ _ e.1))
    (λ (e : (m.key ≢ x.key) × (same_key m.key x.key ≡ false)).
    ap value_in (value_by-none (x ∷ older) m.key m.number (no_more m.key m.number (place_of x) (map place_of older) h.0.0 e.0 h.1.0))
    ∙ sym (cond-false _ _ _ e.1))
    (key_cases m.key x.key)

pub value_of-step : (m : TreeMessage) (older : List TreeMessage) → value_of (m ∷ older) ≡ outcome m.op (if begins_with m.key older then value_of older else None)
unfolding value_of
value_of-step m older = refl

pub own_shows : (m : TreeMessage) (older : List TreeMessage) (n : ℕ) → IsHistory (m ∷ older) → m.number ≤ n → value_by older m.key m.number ≡ latest (ops_in older m.key) m.number → numbered m.number (value_of (m ∷ older)) ≡ latest (ops_in (m ∷ older) m.key) n
own_shows m older n h l shows =
    ap (numbered m.number) (value_of-step m older ∙ ap (outcome m.op) (sym (older_value m older h)))
    ∙ ap (applied m.number (Some m.op)) (shows)
    ∙ ap (λ o. applied m.number o (latest (ops_in older m.key) m.number)) (sym (ops_in-at m older))
    ∙ sym (top_step (ops_in (m ∷ older) m.key) (ops_in older m.key) m.number
    (ops_in-above (place_of m) older m.number (omega arith) h.0)
    (λ k b. ops_in-skip m older m.key k (λ e. let q : k ≡ m.number = ap (λ (p : VersionPlace). p.1) e in omega arith)))
    ∙ sym (latest_stays (ops_in (m ∷ older) m.key) m.number n l (λ k b c. ops_in-skip m older m.key k (λ e. let q : k ≡ m.number = ap (λ (p : VersionPlace). p.1) e in omega arith) ∙ ops_in-above (place_of m) older k (omega arith) h.0))

pub history_shows_law : (history : List TreeMessage) (key : List ℕ) (n : ℕ) → IsHistory history → value_by history key n ≡ latest (ops_in history key) n
unfolding value_by
history_shows_law [] key n h = sym (latest_none _ n (λ k l. refl))
history_shows_law (m ∷ older) key n h = ⊎_elim
    (λ (s : (key ≡ m.key) × (m.number ≤ n) × ((same_key key m.key && nat_le m.number n) ≡ true)).
    value_by-own m older key n s.2
    ∙ subst (λ k. numbered m.number (value_of (m ∷ older)) ≡ latest (ops_in (m ∷ older) k) n) (sym s.0) (own_shows m older n h s.1 (history_shows_law older m.key m.number h.1)))
    (λ (r : ((key ≡ m.key) × (n < m.number) × ((same_key key m.key && nat_le m.number n) ≡ false)) ⊎ ((key ≢ m.key) × ((same_key key m.key && nat_le m.number n) ≡ false))). ⊎_elim
    (λ (s : (key ≡ m.key) × (n < m.number) × ((same_key key m.key && nat_le m.number n) ≡ false)).
    value_by-later m older key n s.2
    ∙ history_shows_law older key n h.1
    ∙ latest_same (ops_in older key) (ops_in (m ∷ older) key) n (λ k l. sym (ops_in-skip m older key k (λ e. let q : k ≡ m.number = ap (λ (p : VersionPlace). p.1) e in let b = s.1 in omega arith))))
    (λ (s : (key ≢ m.key) × ((same_key key m.key && nat_le m.number n) ≡ false)).
    value_by-later m older key n s.1
    ∙ history_shows_law older key n h.1
    ∙ latest_same (ops_in older key) (ops_in (m ∷ older) key) n (λ k l. sym (ops_in-skip m older key k (λ e. s.0 (ap (λ (p : VersionPlace). p.0) e)))))
    r)
    (shown_cases key m.key m.number n)

-- ---- what a merge leaves

-- the newer message does not come between the number and the history
abbrev NewerIsShown : TenantPins → Option TreeMessage → List ℕ → ℕ → Type 0
NewerIsShown pins None key n = Unit {0}
NewerIsShown pins (Some newer) key n = newer.key ≡ key → (n < newer.number) × Contains (pins (tenant_of key)) n

pub pin_within : (pins : List ℕ) (from to n : ℕ) → Contains pins n → from ≤ n → n < to → is_pin_within pins from to ≡ true
pin_within [] from to n (k, l, e) low high = absurd (omega arith)
pin_within (p ∷ pins) from to n h low high = ⊎_elim
    (λ (e : p ≡ n). or_left _ _ (and_from _ _ (le-leb from p (omega arith)) (lt-ltb p to (omega arith))))
    (λ (k : Contains pins n). or_right _ _ (pin_within pins from to n k low high))
    (contains_cases p n pins h)

is_kept_shown : (pins : TenantPins) (newer : Option TreeMessage) (m : TreeMessage) (n : ℕ) → NewerIsShown pins newer m.key n → m.number ≤ n → is_kept pins newer m ≡ true
is_kept_shown pins None m n h l = refl
is_kept_shown pins (Some newer) m n h l = ⊎_elim
    (λ (e : (newer.key ≡ m.key) × (same_key newer.key m.key ≡ true)). or_right _ _ (pin_within (pins (tenant_of m.key)) m.number newer.number n (h e.0).1 l (h e.0).0))
    (λ (e : (newer.key ≢ m.key) × (same_key newer.key m.key ≡ false)). or_left _ _ (ap not e.1))
    (key_cases newer.key m.key)

kept-yes : (pins : TenantPins) (newer : Option TreeMessage) (m : TreeMessage) (older : List TreeMessage) → is_kept pins newer m ≡ true → kept pins newer (m ∷ older) ≡ version_at m (value_of (m ∷ older)) ∷ kept pins (Some m) older
unfolding kept
kept-yes pins newer m older e = cond-true _ _ _ e

kept-skip : (pins : TenantPins) (newer : Option TreeMessage) (m : TreeMessage) (older : List TreeMessage) (key : List ℕ) (n : ℕ) → (same_key key m.key && nat_le m.number n) ≡ false → shown_by (kept pins newer (m ∷ older)) key n ≡ shown_by (kept pins (Some m) older) key n
unfolding kept
kept-skip pins newer m older key n e =
    elim (is_kept pins newer m) as (λ b. shown_by (if b then version_at m (value_of (m ∷ older)) ∷ kept pins (Some m) older else kept pins (Some m) older) key n ≡ shown_by (kept pins (Some m) older) key n) [
      | true ↦ shown_by-later (version_at m (value_of (m ∷ older))) (kept pins (Some m) older) key n e
      | false ↦ refl
    ]

kept_shows : (pins : TenantPins) (newer : Option TreeMessage) (history : List TreeMessage) (key : List ℕ) (n top : ℕ) → AtMost key top history → (Contains (pins (tenant_of key)) n ⊎ (top ≤ n)) → NewerIsShown pins newer key n → shown_by (kept pins newer history) key n ≡ value_by history key n
unfolding kept shown_by value_by
kept_shows pins newer [] key n top most shown above = refl
kept_shows pins newer (m ∷ older) key n top most shown above = ⊎_elim
    (λ (s : (key ≡ m.key) × (m.number ≤ n) × ((same_key key m.key && nat_le m.number n) ≡ true)).
    let yes_kept : is_kept pins newer m ≡ true = is_kept_shown pins newer m n (subst (λ k. NewerIsShown pins newer k n) s.0 above) s.1 in
    ap (λ vs. shown_by vs key n) (kept-yes pins newer m older yes_kept)
    ∙ shown_by-own (version_at m (value_of (m ∷ older))) (kept pins (Some m) older) key n s.2
    ∙ sym (value_by-own m older key n s.2))
    (λ (r : ((key ≡ m.key) × (n < m.number) × ((same_key key m.key && nat_le m.number n) ≡ false)) ⊎ ((key ≢ m.key) × ((same_key key m.key && nat_le m.number n) ≡ false))). ⊎_elim
    (λ (s : (key ≡ m.key) × (n < m.number) × ((same_key key m.key && nat_le m.number n) ≡ false)).
    let is_pin : Contains (pins (tenant_of key)) n = ⊎_elim (λ (p : Contains (pins (tenant_of key)) n). p) (λ (t : top ≤ n). let a = most.0 s.0 in let b = s.1 in absurd (omega arith)) shown in
    kept-skip pins newer m older key n s.2
    ∙ kept_shows pins (Some m) older key n top most.1 shown (λ e. (s.1, is_pin))
    ∙ sym (value_by-later m older key n s.2))
    (λ (s : (key ≢ m.key) × ((same_key key m.key && nat_le m.number n) ≡ false)).
    kept-skip pins newer m older key n s.1
    ∙ kept_shows pins (Some m) older key n top most.1 shown (λ e. absurd (s.0 (sym e)))
    ∙ sym (value_by-later m older key n s.1))
    r)
    (shown_cases key m.key m.number n)

-- the versions kept fall as the history does
pub kept_all : (P : VersionPlace → Type 0) (pins : TenantPins) (newer : Option TreeMessage) (history : List TreeMessage) → AllByRecursion P (map place_of history) → AllByRecursion P (map version_place (kept pins newer history))
unfolding kept
kept_all P pins newer [] h = h
kept_all P pins newer (m ∷ older) h =
    elim (is_kept pins newer m) as (λ b. AllByRecursion P (map version_place (if b then version_at m (value_of (m ∷ older)) ∷ kept pins (Some m) older else kept pins (Some m) older))) [
      | true ↦ (h.0, kept_all P pins (Some m) older h.1)
      | false ↦ kept_all P pins (Some m) older h.1
    ]

pub kept_falls : (pins : TenantPins) (newer : Option TreeMessage) (history : List TreeMessage) → IsHistory history → Falls (map version_place (kept pins newer history))
unfolding kept
kept_falls pins newer [] h = h
kept_falls pins newer (m ∷ older) h =
    elim (is_kept pins newer m) as (λ b. Falls (map version_place (if b then version_at m (value_of (m ∷ older)) ∷ kept pins (Some m) older else kept pins (Some m) older))) [
      | true ↦ (kept_all (λ q. place_cmp q (place_of m) ≡ Less) pins (Some m) older h.0, kept_falls pins (Some m) older h.1)
      | false ↦ kept_falls pins (Some m) older h.1
    ]

-- where the oldest of a key is a removal, nothing is shown below it
gone_shows : (v : Version) (older : List Version) (n : ℕ) → Falls (map version_place (v ∷ older)) → begins_with_version v.key older ≡ false → shown_by older v.key n ≡ None
unfolding shown_by
gone_shows v [] n f e = refl
gone_shows v (x ∷ older) n f e = ⊎_elim
    (λ (h : (v.key ≡ x.key) × (same_key v.key x.key ≡ true)). let z : true ≡ false = sym h.1 ∙ e in cc)
    (λ (h : (v.key ≢ x.key) × (same_key v.key x.key ≡ false)). shown_by-none (x ∷ older) v.key n (no_more v.key v.number (version_place x) (map version_place older) f.0.0 h.0 f.1.0))
    (key_cases v.key x.key)

held_none : (n : ℕ) (o : Option (List ℕ)) → is_none o ≡ true → numbered n o ≡ None
held_none n None e = refl
held_none n (Some v) e = cc

trimmed-step : (b : Bool) (v : Version) (older : List Version) (key : List ℕ) (n : ℕ) → shown_by (trimmed older) key n ≡ shown_by older key n
    → (b ≡ true → shown_by (v ∷ older) key n ≡ shown_by older key n) → shown_by (if b then trimmed older else v ∷ trimmed older) key n ≡ shown_by (v ∷ older) key n
unfolding shown_by
trimmed-step true v older key n e h = e ∙ sym (h refl)
trimmed-step false v older key n e h = ap (λ o. if same_key key v.key && nat_le v.number n then numbered v.number v.value else o) e

pub trimmed_shows : (vs : List Version) (key : List ℕ) (n : ℕ) → Falls (map version_place vs) → shown_by (trimmed vs) key n ≡ shown_by vs key n
unfolding trimmed
trimmed_shows [] key n f = refl
trimmed_shows (v ∷ older) key n f = trimmed-step (is_none v.value && not (begins_with_version v.key older)) v older key n (trimmed_shows older key n f.1) (λ e.
    let parts = and_parts (is_none v.value) (not (begins_with_version v.key older)) e in
    ⊎_elim
    (λ (s : (key ≡ v.key) × (v.number ≤ n) × ((same_key key v.key && nat_le v.number n) ≡ true)).
    shown_by-own v older key n s.2 ∙ held_none v.number v.value parts.0
    ∙ sym (subst (λ k. shown_by older k n ≡ None) (sym s.0) (gone_shows v older n f (not-true (begins_with_version v.key older) parts.1))))
    (λ (r : ((key ≡ v.key) × (n < v.number) × ((same_key key v.key && nat_le v.number n) ≡ false)) ⊎ ((key ≢ v.key) × ((same_key key v.key && nat_le v.number n) ≡ false))). ⊎_elim
    (λ (s : (key ≡ v.key) × (n < v.number) × ((same_key key v.key && nat_le v.number n) ≡ false)). shown_by-later v older key n s.2)
    (λ (s : (key ≢ v.key) × ((same_key key v.key && nat_le v.number n) ≡ false)). shown_by-later v older key n s.1)
    r)
    (shown_cases key v.key v.number n))

pub merge_shows : (pins : TenantPins) (history : List TreeMessage) (key : List ℕ) (n top : ℕ) → IsHistory history → AtMost key top history → (Contains (pins (tenant_of key)) n ⊎ (top ≤ n)) → shown_by (merged_history pins history) key n ≡ latest (ops_in history key) n
merge_shows pins history key n top h most shown =
    trimmed_shows (kept pins None history) key n (kept_falls pins None history h)
    ∙ kept_shows pins None history key n top most shown tt
    ∙ history_shows_law history key n h
