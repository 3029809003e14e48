-- What a merge leaves is what stays, and nothing else.
use Rattle.std.proofs.Common.{◌≡◌, ◌≢◌, ℕ, suc, ◌<◌, ◌≤◌, true, false, List, [], ◌∷◌, reverse, Option, Some, None, refl, ap, ◌∙◌, sym, subst, arith, ⊎_elim, inl, inr, ◌⊎◌}
use Rattle.std.specs.Prelude.{if◌then◌else◌, ◌&&◌, ◌||◌, not, map, is_none, nat_le, nat_lt, Contains, IsSome}
use Rattle.std.specs.declared.cmp.Ordering.TheVariants.{Less, Equal}
use Rattle.std.specs.Ordering.{eq_by_cmp, nat_cmp, ordering_then}
use Rattle.std.specs.Cmp.{tied_itself}
use Rattle.std.specs.List.{AllByRecursion}
use Rattle.std.specs.List.Sorted.{IsStrictlySortedBy}
use Rattle.std.proofs.lemmas.Bool.{and_left, and_right, cases_lt, cases_Bool, leb-true, ltb-true, and_from, and_parts, or_left, or_right}
use Rattle.std.proofs.lemmas.List.{reverse-append, reverse-reverse}
use Rattle.std.proofs.lemmas.List.Elements.{Contains-append_cases}
use Rattle.stow_tree_model.specs.Keys.{tenant_of}
use Rattle.stow_tree_model.specs.Op.{Op}
use Rattle.stow_tree_model.specs.TreeMessage.{TreeMessage}
use Rattle.stow_tree_model.specs.Version.{Version}
use Rattle.stow_tree_model.specs.Order.{VersionPlace, place_cmp, place_of, version_place, VersionsRise}
use Rattle.stow_tree_model.specs.Operations.{value_in, NoneAbove}
use Rattle.stow_tree_model.specs.Messages.{Messages, ops_of, value, ops_in}
use Rattle.stow_tree_model.specs.Agreement.{TenantPins}
use Rattle.stow_tree_model.specs.Merged.{IsGreatestUpTo, IsKept, same_key, value_of, is_pin_within, is_kept, version_at, kept, begins_with_version, trimmed, merged_history, pruned, IsPruning, PrunedExactly}
use Rattle.stow_tree_model.proofs.Falling.{Falls, IsHistory}
use Rattle.stow_tree_model.proofs.Orders.{place_total, key_cases, place_cases, less_within}
use Rattle.stow_tree_model.proofs.Latest.{latest_same, contains_cases}
use Rattle.stow_tree_model.proofs.Histories.{pin_within, falls_number, falls_key, no_more, kept_falls, own_shows, history_shows_law, value_in-numbered, ops_in-at, ops_in-skip, ops_in-above}
use Rattle.stow_tree_model.proofs.Merges.{same_places, history, is_history, ops_in-history, merged_rises}

-- ---- members of lists

pub contains_here : {X : Type 0} (x : X) (xs : List X) → Contains (x ∷ xs) x
contains_here x xs = (0, omega arith, refl)

pub contains_there : {X : Type 0} (x y : X) (xs : List X) → Contains xs y → Contains (x ∷ xs) y
contains_there x y xs (k, l, e) = (suc k, omega arith, e)

pub none_in_nothing : {X : Type 0} (x : X) → Contains [] x → ⊥
none_in_nothing x (k, l, e) = absurd (omega arith)

contains-reverse : {X : Type 0} (xs : List X) (x : X) → Contains (reverse xs) x → Contains xs x
contains-reverse [] x c = c
contains-reverse (y ∷ ys) x c = ⊎_elim
    (λ (h : Contains (reverse ys) x). contains_there y x ys (contains-reverse ys x h))
    (λ (h : Contains (y ∷ []) x). ⊎_elim
    (λ (e : y ≡ x). subst (λ z. Contains (y ∷ ys) z) e (contains_here y ys))
    (λ (n : Contains [] x). absurd (none_in_nothing x n))
    (contains_cases y x [] h))
    (Contains-append_cases (reverse ys) (y ∷ []) x (subst (λ zs. Contains zs x) (reverse-append (y ∷ []) ys) c))

reverse-contains : {X : Type 0} (xs : List X) (x : X) → Contains xs x → Contains (reverse xs) x
reverse-contains xs x c = contains-reverse (reverse xs) x (subst (λ zs. Contains zs x) (sym (reverse-reverse xs)) c)

-- what holds of each place holds of a member's
place_of_member : (P : VersionPlace → Type 0) (vs : List Version) (w : Version) → AllByRecursion P (map version_place vs) → Contains vs w → P (version_place w)
place_of_member P [] w h c = absurd (none_in_nothing w c)
place_of_member P (v ∷ vs) w h c = ⊎_elim
    (λ (e : v ≡ w). subst (λ x. P (version_place x)) e h.0)
    (λ (t : Contains vs w). place_of_member P vs w h.1 t)
    (contains_cases v w vs c)

not_below_itself : (p : VersionPlace) → place_cmp p p ≡ Less → ⊥
not_below_itself p e = let z : Equal ≡ Less = sym (tied_itself place_total p) ∙ e in cc

is_there : (o : Option Op) (p : Op) → o ≡ Some p → IsSome o
is_there o p e = subst (λ x. IsSome x) (sym e) refl

-- ---- the rest of a history in the set

-- from the next newer message downwards, the rest of the history is the set
abbrev Below : Messages → Option TreeMessage → List TreeMessage → Type 0
Below messages None ms = (key : List ℕ) (n : ℕ) → ops_in ms key n ≡ ops_of messages key n
Below messages (Some w) ms = ((key : List ℕ) (n : ℕ) → place_cmp (key, n) (place_of w) ≡ Less → ops_in ms key n ≡ ops_of messages key n) × (ops_of messages w.key w.number ≡ Some w.op)

abbrev After : Option TreeMessage → List TreeMessage → Type 0
After None ms = Unit {0}
After (Some w) ms = AllByRecursion (λ q. place_cmp q (place_of w) ≡ Less) (map place_of ms)

same_below : (messages : Messages) (newer : Option TreeMessage) (m : TreeMessage) (older : List TreeMessage) → Below messages newer (m ∷ older) → After newer (m ∷ older) → (key : List ℕ) (n : ℕ) → place_cmp (key, n) (place_of m) ≡ Less → ops_in (m ∷ older) key n ≡ ops_of messages key n
same_below messages None m older below after key n less = below key n
same_below messages (Some w) m older below after key n less = below.0 key n (place_total.trans (key, n) (place_of m) (place_of w) less after.0)

same_here : (messages : Messages) (newer : Option TreeMessage) (m : TreeMessage) (older : List TreeMessage) → Below messages newer (m ∷ older) → After newer (m ∷ older) → ops_of messages m.key m.number ≡ Some m.op
same_here messages None m older below after = sym (below m.key m.number) ∙ ops_in-at m older
same_here messages (Some w) m older below after = sym (below.0 m.key m.number after.0) ∙ ops_in-at m older

next_below : (messages : Messages) (newer : Option TreeMessage) (m : TreeMessage) (older : List TreeMessage) → Below messages newer (m ∷ older) → After newer (m ∷ older) → Below messages (Some m) older
next_below messages newer m older below after = (
  (λ key n less. sym (ops_in-skip m older key n (λ e. not_below_itself (place_of m) (subst (λ q. place_cmp q (place_of m) ≡ Less) e less))) ∙ same_below messages newer m older below after key n less),
  same_here messages newer m older below after,
)

none_above : (m : TreeMessage) (older : List TreeMessage) (n : ℕ) → IsHistory (m ∷ older) → m.number < n → ops_in (m ∷ older) m.key n ≡ None
none_above m older n h l =
    ops_in-skip m older m.key n (λ e. let q : n ≡ m.number = ap (λ (p : VersionPlace). p.1) e in omega arith)
    ∙ ops_in-above (place_of m) older n (omega arith) h.0

pin_found : (pins : List ℕ) (from to : ℕ) → is_pin_within pins from to ≡ true → (p : ℕ) × Contains pins p × (from ≤ p) × (p < to)
pin_found [] from to e = let z : false ≡ true = e in absurd (cc)
pin_found (p ∷ pins) from to e = ⊎_elim
    (λ (t : (nat_le from p && nat_lt p to) ≡ true).
    let parts = and_parts (nat_le from p) (nat_lt p to) t in
    (p, contains_here p pins, leb-true from p parts.0, ltb-true p to parts.1))
    (λ (f : (nat_le from p && nat_lt p to) ≡ false).
    let rest = pin_found pins from to (sym (ap (λ b. b || is_pin_within pins from to) f) ∙ e) in
    (rest.0, contains_there p rest.0 pins rest.1, rest.2, rest.3))
    (cases_Bool (nat_le from p && nat_lt p to))

lower : (w m : TreeMessage) → w.key ≡ m.key → place_cmp (place_of m) (place_of w) ≡ Less → m.number < w.number
lower w m e less = falls_number m.key m.number w.number (subst (λ k. place_cmp (place_of m) (k, w.number) ≡ Less) e less)

-- a message passes the test exactly where its place is kept
kept_is : (messages : Messages) (pins : TenantPins) (newer : Option TreeMessage) (m : TreeMessage) (older : List TreeMessage) → IsHistory (m ∷ older) → Below messages newer (m ∷ older) → After newer (m ∷ older)
    → is_kept pins newer m ≡ true → IsKept pins messages m.key m.number
kept_is messages pins None m older h below after e =
    (is_there (ops_of messages m.key m.number) m.op (same_here messages None m older below after), inl (λ n l. sym (below m.key n) ∙ none_above m older n h l))
kept_is messages pins (Some w) m older h below after e = (
  is_there (ops_of messages m.key m.number) m.op (same_here messages (Some w) m older below after),
  ⊎_elim
      (λ (s : (w.key ≡ m.key) × (same_key w.key m.key ≡ true)).
      let found = pin_found (pins (tenant_of m.key)) m.number w.number (sym (ap (λ b. not b || is_pin_within (pins (tenant_of m.key)) m.number w.number) s.1) ∙ e) in
      inr (
        found.0,
        found.1,
        (
          found.2,
          λ n l k.
              sym (below.0 m.key n (subst (λ x. place_cmp (m.key, n) (x, w.number) ≡ Less) (sym s.0) (less_within m.key n w.number (let b = found.3 in omega arith))))
              ∙ none_above m older n h l,
        ),
      ))
      (λ (s : (w.key ≢ m.key) × (same_key w.key m.key ≡ false)).
      inl (λ n l.
      sym (below.0 m.key n (ap (λ o. ordering_then o (nat_cmp n w.number)) (falls_key (place_of m) (place_of w) after.0 s.0)))
      ∙ none_above m older n h l))
      (key_cases w.key m.key),
)

is_kept_there : (messages : Messages) (pins : TenantPins) (newer : Option TreeMessage) (m : TreeMessage) (older : List TreeMessage) → Below messages newer (m ∷ older) → After newer (m ∷ older)
    → IsKept pins messages m.key m.number → is_kept pins newer m ≡ true
is_kept_there messages pins None m older below after k = refl
is_kept_there messages pins (Some w) m older below after k = ⊎_elim
    (λ (s : (w.key ≡ m.key) × (same_key w.key m.key ≡ true)).
    let l : m.number < w.number = lower w m s.0 after.0 in
    let there : ops_of messages m.key w.number ≡ Some w.op = subst (λ x. ops_of messages x w.number ≡ Some w.op) s.0 below.1 in
    ⊎_elim
    (λ (none : NoneAbove m.number (ops_of messages m.key)). let z : Some w.op ≡ None = sym there ∙ none w.number l in absurd (cc))
    (λ (p : (pin : ℕ) × Contains (pins (tenant_of m.key)) pin × IsGreatestUpTo messages m.key m.number pin). ⊎_elim
    (λ (b : p.0 < w.number). or_right (not (same_key w.key m.key)) _ (pin_within (pins (tenant_of m.key)) m.number w.number p.0 p.1 p.2.0 b))
    (λ (b : w.number ≤ p.0). let z : Some w.op ≡ None = sym there ∙ p.2.1 w.number l b in absurd (cc))
    (cases_lt p.0 w.number))
    k.1)
    (λ (s : (w.key ≢ m.key) × (same_key w.key m.key ≡ false)). or_left _ _ (ap not s.1))
    (key_cases w.key m.key)

value_there : (messages : Messages) (newer : Option TreeMessage) (m : TreeMessage) (older : List TreeMessage) → IsHistory (m ∷ older) → Below messages newer (m ∷ older) → After newer (m ∷ older)
    → value_of (m ∷ older) ≡ value_in (value messages m.key m.number)
value_there messages newer m older h below after =
    sym (value_in-numbered m.number (value_of (m ∷ older)))
    ∙ ap value_in (own_shows m older m.number h (omega arith) (history_shows_law older m.key m.number h.1)
    ∙ latest_same (ops_in (m ∷ older) m.key) (ops_of messages m.key) m.number (λ k l. ⊎_elim
    (λ (b : k < m.number). same_below messages newer m older below after m.key k (less_within m.key k m.number b))
    (λ (b : m.number ≤ k). let z : m.number ≡ k = omega arith in subst (λ x. ops_in (m ∷ older) m.key x ≡ ops_of messages m.key x) z (ops_in-at m older ∙ sym (same_here messages newer m older below after)))
    (cases_lt k m.number)))

-- ---- what is kept of a history

abbrev IsShown : TenantPins → Messages → Version → Type 0
IsShown pins messages v = IsKept pins messages v.key v.number × (v.value ≡ value_in (value messages v.key v.number))

kept_stays : (messages : Messages) (pins : TenantPins) (newer : Option TreeMessage) (ms : List TreeMessage) → IsHistory ms → Below messages newer ms → After newer ms
    → (v : Version) → Contains (kept pins newer ms) v → IsShown pins messages v
unfolding kept
kept_stays messages pins newer [] h below after v c = absurd (none_in_nothing v c)
kept_stays messages pins newer (m ∷ older) h below after v c =
    let rest : Contains (kept pins (Some m) older) v → IsShown pins messages v = kept_stays messages pins (Some m) older h.1 (next_below messages newer m older below after) h.0 v in
    elim (is_kept pins newer m) as (λ b. is_kept pins newer m ≡ b → Contains (if b then version_at m (value_of (m ∷ older)) ∷ kept pins (Some m) older else kept pins (Some m) older) v → IsShown pins messages v) [
      | true ↦ λ e d. ⊎_elim
          (λ (s : version_at m (value_of (m ∷ older)) ≡ v). subst (λ x. IsShown pins messages x) s (kept_is messages pins newer m older h below after e, value_there messages newer m older h below after))
          (λ (t : Contains (kept pins (Some m) older) v). rest t)
          (contains_cases (version_at m (value_of (m ∷ older))) v (kept pins (Some m) older) d)
      | false ↦ λ e d. rest d
    ] refl c

kept_more : (pins : TenantPins) (newer : Option TreeMessage) (m : TreeMessage) (older : List TreeMessage) (v : Version) → Contains (kept pins (Some m) older) v → Contains (kept pins newer (m ∷ older)) v
unfolding kept
kept_more pins newer m older v c = elim (is_kept pins newer m) as (λ b. Contains (if b then version_at m (value_of (m ∷ older)) ∷ kept pins (Some m) older else kept pins (Some m) older) v) [
  | true ↦ contains_there _ v _ c
  | false ↦ c
]

kept_head : (pins : TenantPins) (newer : Option TreeMessage) (m : TreeMessage) (older : List TreeMessage) → is_kept pins newer m ≡ true → Contains (kept pins newer (m ∷ older)) (version_at m (value_of (m ∷ older)))
unfolding kept
kept_head pins newer m older e = subst (λ b. Contains (if b then version_at m (value_of (m ∷ older)) ∷ kept pins (Some m) older else kept pins (Some m) older) (version_at m (value_of (m ∷ older)))) (sym e) (contains_here _ _)

-- the version that the set gives at a place
abbrev set_version : Messages → List ℕ → ℕ → Version
set_version messages key n = record { key = key; number = n; value = value_in (value messages key n) }

stays_kept : (messages : Messages) (pins : TenantPins) (newer : Option TreeMessage) (ms : List TreeMessage) → IsHistory ms → Below messages newer ms → After newer ms
    → (key : List ℕ) (n : ℕ) → IsKept pins messages key n → IsSome (ops_in ms key n) → Contains (kept pins newer ms) (set_version messages key n)
stays_kept messages pins newer [] h below after key n k s = let z : false ≡ true = s in absurd (cc)
stays_kept messages pins newer (m ∷ older) h below after key n k s = ⊎_elim
    (λ (e : (◌≡◌ {A = VersionPlace} (key, n) (place_of m)) × (eq_by_cmp place_cmp (key, n) (place_of m) ≡ true)).
    subst (λ (q : VersionPlace). IsKept pins messages q.0 q.1 → Contains (kept pins newer (m ∷ older)) (set_version messages q.0 q.1)) (sym e.0)
    (λ k. subst (λ x. Contains (kept pins newer (m ∷ older)) (version_at m x)) (value_there messages newer m older h below after)
    (kept_head pins newer m older (is_kept_there messages pins newer m older below after k))) k)
    (λ (e : (◌≢◌ {A = VersionPlace} (key, n) (place_of m)) × (eq_by_cmp place_cmp (key, n) (place_of m) ≡ false)).
    kept_more pins newer m older (set_version messages key n)
    (stays_kept messages pins (Some m) older h.1 (next_below messages newer m older below after) h.0 key n k (subst (λ o. IsSome o) (ops_in-skip m older key n e.0) s)))
    (place_cases (key, n) (place_of m))

-- ---- what is left once the oldest removals are left out

abbrev Wanted : List Version → Version → Type 0
Wanted vs v = (v.value ≢ None) ⊎ ((w : Version) × Contains vs w × (w.key ≡ v.key) × (w.number < v.number))

wanted_more : (x v : Version) (vs : List Version) → Wanted vs v → Wanted (x ∷ vs) v
wanted_more x v vs w = ⊎_elim
    (λ (ne : v.value ≢ None). inl ne)
    (λ (o : (w : Version) × Contains vs w × (w.key ≡ v.key) × (w.number < v.number)). inr (o.0, contains_there x o.0 vs o.1, o.2, o.3))
    w

version_lower : (v w : Version) → w.key ≡ v.key → place_cmp (version_place w) (version_place v) ≡ Less → w.number < v.number
version_lower v w e less = falls_number v.key w.number v.number (subst (λ k. place_cmp (k, w.number) (version_place v) ≡ Less) e less)

begun_older : (v : Version) (older : List Version) → Falls (map version_place (v ∷ older)) → begins_with_version v.key older ≡ true → (w : Version) × Contains (v ∷ older) w × (w.key ≡ v.key) × (w.number < v.number)
begun_older v [] f e = let z : false ≡ true = e in absurd (cc)
begun_older v (x ∷ older) f e = ⊎_elim
    (λ (s : (v.key ≡ x.key) × (same_key v.key x.key ≡ true)). (x, contains_there v x (x ∷ older) (contains_here x older), sym s.0, version_lower v x (sym s.0) f.0.0))
    (λ (s : (v.key ≢ x.key) × (same_key v.key x.key ≡ false)). let z : true ≡ false = sym e ∙ s.1 in absurd (cc))
    (key_cases v.key x.key)

head_wanted : (v : Version) (older : List Version) → Falls (map version_place (v ∷ older)) → (is_none v.value && not (begins_with_version v.key older)) ≡ false → Wanted (v ∷ older) v
head_wanted v older f e = ⊎_elim
    (λ (t : begins_with_version v.key older ≡ true). inr (begun_older v older f t))
    (λ (t : begins_with_version v.key older ≡ false). inl (λ z.
    let one : (is_none v.value && not (begins_with_version v.key older)) ≡ true = and_from (is_none v.value) (not (begins_with_version v.key older)) (ap is_none z) (ap not t) in
    let bad : true ≡ false = sym one ∙ e in cc))
    (cases_Bool (begins_with_version v.key older))

trimmed_from : (vs : List Version) (v : Version) → Falls (map version_place vs) → Contains (trimmed vs) v → Contains vs v × Wanted vs v
unfolding trimmed
trimmed_from [] v f c = absurd (none_in_nothing v c)
trimmed_from (x ∷ older) v f c =
    let rest : Contains (trimmed older) v → Contains (x ∷ older) v × Wanted (x ∷ older) v = λ t. (contains_there x v older (trimmed_from older v f.1 t).0, wanted_more x v older (trimmed_from older v f.1 t).1) in
    elim (is_none x.value && not (begins_with_version x.key older)) as (λ b. (is_none x.value && not (begins_with_version x.key older)) ≡ b → Contains (if b then trimmed older else x ∷ trimmed older) v → Contains (x ∷ older) v × Wanted (x ∷ older) v) [
      | true ↦ λ e d. rest d
      | false ↦ λ e d. ⊎_elim
          (λ (s : x ≡ v). subst (λ y. Contains (x ∷ older) y × Wanted (x ∷ older) y) s (contains_here x older, head_wanted x older f e))
          (λ (t : Contains (trimmed older) v). rest t)
          (contains_cases x v (trimmed older) d)
    ] refl c

trimmed_more : (x v : Version) (older : List Version) → Contains (trimmed older) v → Contains (trimmed (x ∷ older)) v
unfolding trimmed
trimmed_more x v older c = elim (is_none x.value && not (begins_with_version x.key older)) as (λ b. Contains (if b then trimmed older else x ∷ trimmed older) v) [
  | true ↦ c
  | false ↦ contains_there x v (trimmed older) c
]

trimmed_head : (x : Version) (older : List Version) → (is_none x.value && not (begins_with_version x.key older)) ≡ false → Contains (trimmed (x ∷ older)) x
unfolding trimmed
trimmed_head x older e = subst (λ b. Contains (if b then trimmed older else x ∷ trimmed older) x) (sym e) (contains_here x (trimmed older))

-- an older version of the key is next
begins_there : (v w : Version) (older : List Version) → Falls (map version_place (v ∷ older)) → Contains older w → w.key ≡ v.key → begins_with_version v.key older ≡ true
begins_there v w [] f c e = absurd (none_in_nothing w c)
begins_there v w (x ∷ older) f c e = ⊎_elim
    (λ (s : (v.key ≡ x.key) × (same_key v.key x.key ≡ true)). s.1)
    (λ (s : (v.key ≢ x.key) × (same_key v.key x.key ≡ false)).
    absurd (place_of_member (λ q. v.key ≢ q.0) (x ∷ older) w (no_more v.key v.number (version_place x) (map version_place older) f.0.0 s.0 f.1.0) c (sym e)))
    (key_cases v.key x.key)

wanted_test : (v : Version) (older : List Version) → Falls (map version_place (v ∷ older)) → Wanted (v ∷ older) v → (is_none v.value && not (begins_with_version v.key older)) ≡ false
wanted_test v older f w = ⊎_elim
    (λ (ne : v.value ≢ None). and_left (is_none v.value) _ (filled v.value ne))
    (λ (o : (w : Version) × Contains (v ∷ older) w × (w.key ≡ v.key) × (w.number < v.number)). ⊎_elim
    (λ (s : v ≡ o.0). let z : v.number ≡ o.0.number = ap (λ (x : Version). x.number) s in let l = o.3 in absurd (omega arith))
    (λ (t : Contains older o.0). and_right (is_none v.value) _ (ap not (begins_there v o.0 older f t o.2)))
    (contains_cases v o.0 older o.1))
    w
  where
    filled : (o : Option (List ℕ)) → o ≢ None → is_none o ≡ false
    filled None ne = absurd (ne refl)
    filled (Some x) ne = refl

trimmed_into : (vs : List Version) (v : Version) → Falls (map version_place vs) → Contains vs v → Wanted vs v → Contains (trimmed vs) v
trimmed_into [] v f c w = absurd (none_in_nothing v c)
trimmed_into (x ∷ older) v f c w = ⊎_elim
    (λ (s : x ≡ v). subst (λ y. Wanted (x ∷ older) y → Contains (trimmed (x ∷ older)) y) s (λ u. trimmed_head x older (wanted_test x older f u)) w)
    (λ (t : Contains older v).
    let less : place_cmp (version_place v) (version_place x) ≡ Less = place_of_member (λ q. place_cmp q (version_place x) ≡ Less) older v f.0 t in
    trimmed_more x v older (trimmed_into older v f.1 t (⊎_elim
    (λ (ne : v.value ≢ None). inl ne)
    (λ (o : (w : Version) × Contains (x ∷ older) w × (w.key ≡ v.key) × (w.number < v.number)). ⊎_elim
    (λ (s : x ≡ o.0).
    let k : v.key ≡ x.key = sym (ap (λ (y : Version). y.key) s ∙ o.2) in
    let a : v.number < x.number = version_lower x v k less in
    let b : x.number ≡ o.0.number = ap (λ (y : Version). y.number) s in
    let l = o.3 in absurd (omega arith))
    (λ (u : Contains older o.0). inr (o.0, u, o.2, o.3))
    (contains_cases x o.0 older o.1))
    w)))
    (contains_cases x v older c)

-- ---- rising lists with the same members

member_above : (x v : Version) (xs : List Version) → AllByRecursion (λ q. place_cmp (version_place x) q ≡ Less) (map version_place xs) → Contains xs v → place_cmp (version_place x) (version_place v) ≡ Less
member_above x v xs h c = place_of_member (λ q. place_cmp (version_place x) q ≡ Less) xs v h c

tail_members : (x y : Version) (xs ys : List Version) → x ≡ y → AllByRecursion (λ q. place_cmp (version_place x) q ≡ Less) (map version_place xs) → ((v : Version) → Contains (x ∷ xs) v → Contains (y ∷ ys) v) → (v : Version) → Contains xs v → Contains ys v
tail_members x y xs ys e h sub v c = ⊎_elim
    (λ (s : y ≡ v). absurd (not_below_itself (version_place x) (subst (λ z. place_cmp (version_place x) (version_place z) ≡ Less) (sym (e ∙ s)) (member_above x v xs h c))))
    (λ (t : Contains ys v). t)
    (contains_cases y v ys (sub v (contains_there x v xs c)))

rises_once : (xs ys : List Version) → VersionsRise xs → VersionsRise ys → ((v : Version) → Contains xs v → Contains ys v) → ((v : Version) → Contains ys v → Contains xs v) → xs ≡ ys
unfolding IsStrictlySortedBy
rises_once [] [] f g to from = refl
rises_once [] (y ∷ ys) f g to from = absurd (none_in_nothing y (from y (contains_here y ys)))
rises_once (x ∷ xs) [] f g to from = absurd (none_in_nothing x (to x (contains_here x xs)))
rises_once (x ∷ xs) (y ∷ ys) f g to from =
    let e : x ≡ y = ⊎_elim
    (λ (s : y ≡ x). sym s)
    (λ (t : Contains ys x). ⊎_elim
    (λ (s : x ≡ y). s)
    (λ (u : Contains xs y). absurd (not_below_itself (version_place x) (place_total.trans (version_place x) (version_place y) (version_place x) (member_above x y xs f.0 u) (member_above y x ys g.0 t))))
    (contains_cases x y xs (from y (contains_here y ys))))
    (contains_cases y x ys (to x (contains_here x xs))) in
    λ i. e i ∷ rises_once xs ys f.1 g.1 (tail_members x y xs ys e f.0 to) (tail_members y x ys xs (sym e) g.0 from) i

-- ---- the law

pub pruning : (pins : TenantPins) (messages : Messages) → IsPruning pins messages (pruned pins messages)
unfolding history
pruning pins messages =
    let hist = is_history messages in
    let below : Below messages None (history messages) = ops_in-history messages in
    let falls = kept_falls pins None (history messages) hist in
    record {
      rises = subst (IsStrictlySortedBy place_cmp) (same_places (pruned pins messages)) (merged_rises pins messages);
      only_these = λ v c.
          let parts = trimmed_from (kept pins None (history messages)) v falls (contains-reverse (merged_history pins (history messages)) v c) in
          let shown = kept_stays messages pins None (history messages) hist below tt in
          record {
            is_kept = (shown v parts.0).0;
            is_value = (shown v parts.0).1;
            is_wanted = ⊎_elim
                (λ (ne : v.value ≢ None). inl ne)
                (λ (o : (w : Version) × Contains (kept pins None (history messages)) w × (w.key ≡ v.key) × (w.number < v.number)). inr (o.0.number, o.3, subst (λ k. IsKept pins messages k o.0.number) o.2 (shown o.0 o.1).0))
                parts.1;
          };
      all_these = λ v s.
          let there = stays_kept messages pins None (history messages) hist below tt in
          let found : (n : ℕ) → IsKept pins messages v.key n → Contains (kept pins None (history messages)) (set_version messages v.key n) = λ n k. there v.key n k (subst (λ o. IsSome o) (sym (below v.key n)) k.0) in
          reverse-contains (merged_history pins (history messages)) v (trimmed_into (kept pins None (history messages)) v falls
          (subst (λ x. Contains (kept pins None (history messages)) (record { key = v.key; number = v.number; value = x })) (sym s.is_value) (found v.number s.is_kept))
          (⊎_elim
          (λ (ne : v.value ≢ None). inl ne)
          (λ (o : (n : ℕ) × (n < v.number) × IsKept pins messages v.key n). inr (set_version messages v.key o.0, found o.0 o.2, refl, o.1))
          s.is_wanted));
    }

pub pruned_exactly_law : PrunedExactly
pruned_exactly_law pins messages versions = (
  pruning pins messages,
  λ is. rises_once versions (pruned pins messages) is.rises (pruning pins messages).rises
      (λ v c. (pruning pins messages).all_these v (is.only_these v c))
      (λ v c. is.all_these v ((pruning pins messages).only_these v c)),
)
