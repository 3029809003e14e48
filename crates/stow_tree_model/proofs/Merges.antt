-- What a merge leaves means the same.
use Rattle.std.proofs.Common.{◌≡◌, ◌≢◌, ℕ, ◌<◌, ◌≤◌, Bool, true, false, List, [], ◌∷◌, ◌++◌, reverse, Option, Some, None, refl, ap, ◌∙◌, sym, subst, arith, ⊎_elim, inl, inr, ◌⊎◌, cond}
use Rattle.std.specs.Prelude.{if◌then◌else◌, ◌&&◌, not, map, is_none, nat_le}
use Rattle.std.specs.declared.cmp.Ordering.TheVariants.{Less, Equal}
use Rattle.std.specs.Ordering.{eq_by_cmp}
use Rattle.std.specs.Cmp.{tied_itself}
use Rattle.std.specs.FinMap as finite
use Rattle.std.specs.List.{AllByRecursion}
use Rattle.std.proofs.lemmas.Bool.{cases_lt}
use Rattle.std.proofs.lemmas.List.{reverse-append, reverse-reverse}
use Rattle.std.specs.Prelude.{Contains}
use Rattle.std.specs.List.Sorted.{IsStrictlySortedBy}
use Rattle.stow_tree_model.specs.Keys.{tenant_of}
use Rattle.stow_tree_model.specs.Op.{Op}
use Rattle.stow_tree_model.specs.TreeMessage.{TreeMessage}
use Rattle.stow_tree_model.specs.Version.{Version}
use Rattle.stow_tree_model.specs.Order.{VersionPlace, place_cmp, place_of, version_place}
use Rattle.stow_tree_model.specs.Operations.{numbered, outcome, latest, or_else, NoneAbove}
use Rattle.stow_tree_model.specs.Messages.{Messages, ops_of, ops_in, in_order}
use Rattle.stow_tree_model.specs.Agreement.{TenantPins}
use Rattle.stow_tree_model.specs.Merged.{same_key, kept, begins_with_version, trimmed, merged_history, pruned, op_of_value, row_message, rows_set, PrunedAgrees, MergeAgrees}
use Rattle.stow_tree_model.proofs.Falling.{Falls, IsHistory, AtMost, value_by, shown_by}
use Rattle.stow_tree_model.proofs.Orders.{place_total, place_cases}
use Rattle.stow_tree_model.proofs.Latest.{agree_from, merges_lem, latest_same}
use Rattle.stow_tree_model.proofs.SetLemmas.{ops_in-other_place, ops-with_all, same_agreement}
use Rattle.stow_tree_model.proofs.Ordered.{history_of, in_order_rises, ops_in-in_order}
use Rattle.stow_tree_model.proofs.Histories.{kept_all, kept_falls, history_shows_law, merge_shows, ops_in-at, value_of-step}

-- ---- no place twice

abbrev Lone : List TreeMessage → Type 0
Lone [] = Unit {0}
Lone (m ∷ ms) = (ops_in ms m.key m.number ≡ None) × Lone ms

apart : (p : VersionPlace) (ms : List TreeMessage) → AllByRecursion (λ q. place_cmp q p ≡ Less) (map place_of ms) → ops_in ms p.0 p.1 ≡ None
apart p ms h = ops_in-other_place ms p.0 p.1 (each ms h)
  where
    each : (xs : List TreeMessage) → AllByRecursion (λ q. place_cmp q p ≡ Less) (map place_of xs) → AllByRecursion (λ m. ◌≢◌ {A = VersionPlace} (p.0, p.1) (place_of m)) xs
    each [] g = tt
    each (m ∷ xs) g = ((λ e. let z : Equal ≡ Less = sym (tied_itself place_total p) ∙ (subst (λ q. place_cmp q p ≡ Less) (sym e) g.0) in cc), each xs g.1)

lone : (ms : List TreeMessage) → IsHistory ms → Lone ms
lone [] h = tt
lone (m ∷ ms) h = (apart (place_of m) ms h.0, lone ms h.1)

ops_in-append : (xs ys : List TreeMessage) (key : List ℕ) (n : ℕ) → ops_in (xs ++ ys) key n ≡ or_else (ops_in xs key n) (ops_in ys key n)
ops_in-append [] ys key n = refl
ops_in-append (x ∷ xs) ys key n = ap (cond (eq_by_cmp place_cmp (key, n) (place_of x)) (Some x.op)) (ops_in-append xs ys key n) ∙ by_test (eq_by_cmp place_cmp (key, n) (place_of x)) (ops_in xs key n) x.op (ops_in ys key n)
  where
    by_test : (b : Bool) (o : Option Op) (p : Op) (y : Option Op) → cond b (Some p) (or_else o y) ≡ or_else (cond b (Some p) o) y
    by_test true o p y = refl
    by_test false o p y = refl

or_none : (o : Option Op) → or_else o None ≡ o
or_none None = refl
or_none (Some o) = refl

last_first : (t : Bool) (p : Op) (o : Option Op) → (t ≡ true → o ≡ None) → or_else o (cond t (Some p) None) ≡ cond t (Some p) o
last_first true p o h = ap (λ x. or_else x (Some p)) (h refl)
last_first false p o h = or_none o

test_true : (p q : VersionPlace) → eq_by_cmp place_cmp p q ≡ true → p ≡ q
test_true p q e = ⊎_elim (λ (h : (p ≡ q) × (eq_by_cmp place_cmp p q ≡ true)). h.0) (λ (h : (p ≢ q) × (eq_by_cmp place_cmp p q ≡ false)). let z : true ≡ false = sym e ∙ h.1 in cc) (place_cases p q)

pub ops_in-reverse : (ms : List TreeMessage) → Lone ms → (key : List ℕ) (n : ℕ) → ops_in (reverse ms) key n ≡ ops_in ms key n
ops_in-reverse [] h key n = refl
ops_in-reverse (m ∷ ms) h key n =
    ap (λ xs. ops_in xs key n) (reverse-append (m ∷ []) ms)
    ∙ ops_in-append (reverse ms) (m ∷ []) key n
    ∙ ap (λ o. or_else o (ops_in (m ∷ []) key n)) (ops_in-reverse ms h.1 key n)
    ∙ last_first (eq_by_cmp place_cmp (key, n) (place_of m)) m.op (ops_in ms key n) (λ t. ap (λ (q : VersionPlace). ops_in ms q.0 q.1) (test_true (key, n) (place_of m) t) ∙ h.0)

-- ---- versions as messages

trimmed_all : (P : VersionPlace → Type 0) (vs : List Version) → AllByRecursion P (map version_place vs) → AllByRecursion P (map version_place (trimmed vs))
unfolding trimmed
trimmed_all P [] h = h
trimmed_all P (v ∷ vs) h =
    elim (is_none v.value && not (begins_with_version v.key vs)) as (λ b. AllByRecursion P (map version_place (if b then trimmed vs else v ∷ trimmed vs))) [
      | true ↦ trimmed_all P vs h.1
      | false ↦ (h.0, trimmed_all P vs h.1)
    ]

trimmed_falls : (vs : List Version) → Falls (map version_place vs) → Falls (map version_place (trimmed vs))
unfolding trimmed
trimmed_falls [] h = h
trimmed_falls (v ∷ vs) h =
    elim (is_none v.value && not (begins_with_version v.key vs)) as (λ b. Falls (map version_place (if b then trimmed vs else v ∷ trimmed vs))) [
      | true ↦ trimmed_falls vs h.1
      | false ↦ (trimmed_all (λ q. place_cmp q (version_place v) ≡ Less) vs h.0, trimmed_falls vs h.1)
    ]

pub same_places : (vs : List Version) → map place_of (map row_message vs) ≡ map version_place vs
same_places [] = refl
same_places (v ∷ vs) = ap (λ ps. version_place v ∷ ps) (same_places vs)

outcome_put : (o : Option (List ℕ)) (old : Option (List ℕ)) → outcome (op_of_value o) old ≡ o
outcome_put None old = refl
outcome_put (Some x) old = refl

versions_show : (vs : List Version) (key : List ℕ) (n : ℕ) → value_by (map row_message vs) key n ≡ shown_by vs key n
unfolding value_by shown_by
versions_show [] key n = refl
versions_show (v ∷ vs) key n = λ i. if same_key key v.key && nat_le v.number n then numbered v.number ((value_of-step (row_message v) (map row_message vs) ∙ outcome_put v.value _) i) else versions_show vs key n i

-- ---- the bound of a key

none_or : (t : Bool) (p : Op) (o : Option Op) → cond t (Some p) o ≡ None → o ≡ None
none_or true p o e = cc
none_or false p o e = e

at_most : (ms : List TreeMessage) (key : List ℕ) (top : ℕ) → NoneAbove top (ops_in ms key) → AtMost key top ms
at_most [] key top h = tt
at_most (m ∷ ms) key top h = (
  (λ e. ⊎_elim
      (λ (l : top < m.number). let z : Some m.op ≡ None = sym (ops_in-at m ms) ∙ (subst (λ k. ops_in (m ∷ ms) k m.number ≡ None) e (h m.number l)) in cc)
      (λ (l : m.number ≤ top). l)
      (cases_lt top m.number)),
  at_most ms key top (λ n l. none_or _ m.op (ops_in ms key n) (h n l)),
)

most_places : (ms : List TreeMessage) (key : List ℕ) (top : ℕ) → AtMost key top ms → AllByRecursion (λ q. key ≡ q.0 → q.1 ≤ top) (map place_of ms)
most_places [] key top h = tt
most_places (m ∷ ms) key top h = (h.0, most_places ms key top h.1)

none_above : (vs : List Version) (key : List ℕ) (top : ℕ) → AllByRecursion (λ q. key ≡ q.0 → q.1 ≤ top) (map version_place vs) → NoneAbove top (ops_in (map row_message vs) key)
none_above vs key top h n l = ops_in-other_place (map row_message vs) key n (each vs h)
  where
    each : (xs : List Version) → AllByRecursion (λ q. key ≡ q.0 → q.1 ≤ top) (map version_place xs) → AllByRecursion (λ m. ◌≢◌ {A = VersionPlace} (key, n) (place_of m)) (map row_message xs)
    each [] g = tt
    each (v ∷ xs) g = ((λ e. let a = g.0 (ap (λ (p : VersionPlace). p.0) e) in let b : n ≡ v.number = ap (λ (p : VersionPlace). p.1) e in absurd (omega arith)), each xs g.1)

-- ---- the merge of a set

map-message-reverse : (vs : List Version) → map row_message (reverse vs) ≡ reverse (map row_message vs)
map-message-reverse [] = refl
map-message-reverse (v ∷ vs) = ap (map row_message) (reverse-append (v ∷ []) vs) ∙ push (reverse vs) ∙ ap (λ ms. ms ++ row_message v ∷ []) (map-message-reverse vs) ∙ sym (reverse-append (row_message v ∷ []) (map row_message vs))
  where
    push : (xs : List Version) → map row_message (xs ++ v ∷ []) ≡ map row_message xs ++ row_message v ∷ []
    push [] = refl
    push (x ∷ xs) = ap (λ ms. row_message x ∷ ms) (push xs)

unfoldable pub history : Messages → List TreeMessage
history leaf = reverse (in_order leaf)

pub is_history : (leaf : Messages) → IsHistory (history leaf)
unfolding history
is_history leaf = history_of (in_order leaf) (in_order_rises leaf)

pub ops_in-history : (leaf : Messages) (key : List ℕ) (n : ℕ) → ops_in (history leaf) key n ≡ ops_of leaf key n
unfolding history
ops_in-history leaf key n =
    sym (ops_in-reverse (reverse (in_order leaf)) (lone (reverse (in_order leaf)) (is_history leaf)) key n)
    ∙ ap (λ ms. ops_in ms key n) (reverse-reverse (in_order leaf))
    ∙ ops_in-in_order leaf key n

falling : (pins : TenantPins) (ms : List TreeMessage) → IsHistory ms → IsHistory (map row_message (merged_history pins ms))
falling pins ms h = subst Falls (sym (same_places (merged_history pins ms))) (trimmed_falls (kept pins None ms) (kept_falls pins None ms h))

ops-pruned : (pins : TenantPins) (leaf : Messages) (key : List ℕ) (n : ℕ) → ops_of (rows_set (pruned pins leaf)) key n ≡ ops_in (map row_message (merged_history pins (history leaf))) key n
unfolding history
ops-pruned pins leaf key n =
    ops-with_all finite.empty (map row_message (pruned pins leaf)) key n
    ∙ ap (or_else (ops_in (map row_message (pruned pins leaf)) key n)) (finite.get-empty place_cmp (key, n))
    ∙ or_none _
    ∙ ap (λ ms. ops_in ms key n) (map-message-reverse (merged_history pins (reverse (in_order leaf))))
    ∙ ops_in-reverse (map row_message (merged_history pins (reverse (in_order leaf)))) (lone _ (falling pins (reverse (in_order leaf)) (is_history leaf))) key n

merged_latest : (pins : TenantPins) (leaf : Messages) (key : List ℕ) (top n : ℕ) → NoneAbove top (ops_of leaf key) → (Contains (pins (tenant_of key)) n ⊎ (top ≤ n)) → latest (ops_of leaf key) n ≡ latest (ops_of (rows_set (pruned pins leaf)) key) n
merged_latest pins leaf key top n h shown =
    latest_same (ops_of leaf key) (ops_in (history leaf) key) n (λ k l. sym (ops_in-history leaf key k))
    ∙ sym (merge_shows pins (history leaf) key n top (is_history leaf) (at_most (history leaf) key top (λ k l. ops_in-history leaf key k ∙ h k l)) shown)
    ∙ sym (versions_show (merged_history pins (history leaf)) key n)
    ∙ history_shows_law (map row_message (merged_history pins (history leaf))) key n (falling pins (history leaf) (is_history leaf))
    ∙ latest_same (ops_in (map row_message (merged_history pins (history leaf))) key) (ops_of (rows_set (pruned pins leaf)) key) n (λ k l. sym (ops-pruned pins leaf key k))

pub pruned_agrees_law : PrunedAgrees
pruned_agrees_law pins leaf key top h = agree_from (ops_of leaf key) (ops_of (rows_set (pruned pins leaf)) key) top
    (λ p a. merged_latest pins leaf key top p h (inl a))
    (merged_latest pins leaf key top top h (inr (omega arith)))
    h
    (λ n l. ops-pruned pins leaf key n ∙ none_above (merged_history pins (history leaf)) key top
    (trimmed_all (λ q. key ≡ q.0 → q.1 ≤ top) (kept pins None (history leaf)) (kept_all (λ q. key ≡ q.0 → q.1 ≤ top) pins None (history leaf)
    (most_places (history leaf) key top (at_most (history leaf) key top (λ k m. ops_in-history leaf key k ∙ h k m))))) n l)

pub merge_agrees_law : MergeAgrees
merge_agrees_law pins m n newer leaf bound is_newer over_m over_n key =
    let w = is_newer key in
    same_agreement (sym (over_m key)) (sym (over_n key)) refl
    (merges_lem (ops_of newer key) (ops_of leaf key) (ops_of (rows_set (pruned pins leaf)) key) w.0 (bound (tenant_of key)) w.1 w.3 w.4 (pruned_agrees_law pins leaf key w.0 w.2))

-- ---- the merged rows rise

all_push : (P : VersionPlace → Type 0) (ps : List VersionPlace) (p : VersionPlace) → AllByRecursion P ps → P p → AllByRecursion P (ps ++ p ∷ [])
all_push P [] p h l = (l, tt)
all_push P (r ∷ rs) p h l = (h.0, all_push P rs p h.1 l)

all_reverse : (P : VersionPlace → Type 0) (ps : List VersionPlace) → AllByRecursion P ps → AllByRecursion P (reverse ps)
all_reverse P [] h = h
all_reverse P (p ∷ ps) h = subst (AllByRecursion P) (sym (reverse-append (p ∷ []) ps)) (all_push P (reverse ps) p (all_reverse P ps h.1) h.0)

rises_push : (ps : List VersionPlace) (p : VersionPlace) → IsStrictlySortedBy place_cmp ps → AllByRecursion (λ q. place_cmp q p ≡ Less) ps → IsStrictlySortedBy place_cmp (ps ++ p ∷ [])
unfolding IsStrictlySortedBy
rises_push [] p f a = (tt, tt)
rises_push (q ∷ ps) p f a = (all_push (λ r. place_cmp q r ≡ Less) ps p f.0 a.0, rises_push ps p f.1 a.1)

pub rises_reverse : (ps : List VersionPlace) → Falls ps → IsStrictlySortedBy place_cmp (reverse ps)
unfolding IsStrictlySortedBy
rises_reverse [] h = h
rises_reverse (p ∷ ps) h = subst (IsStrictlySortedBy place_cmp) (sym (reverse-append (p ∷ []) ps)) (rises_push (reverse ps) p (rises_reverse ps h.1) (all_reverse (λ q. place_cmp q p ≡ Less) ps h.0))

map-reverse : (ms : List TreeMessage) → map place_of (reverse ms) ≡ reverse (map place_of ms)
map-reverse [] = refl
map-reverse (m ∷ ms) = ap (map place_of) (reverse-append (m ∷ []) ms) ∙ push (reverse ms) ∙ ap (λ ps. ps ++ place_of m ∷ []) (map-reverse ms) ∙ sym (reverse-append (place_of m ∷ []) (map place_of ms))
  where
    push : (xs : List TreeMessage) → map place_of (xs ++ m ∷ []) ≡ map place_of xs ++ place_of m ∷ []
    push [] = refl
    push (x ∷ xs) = ap (λ ps. place_of x ∷ ps) (push xs)

pub merged_rises : (pins : TenantPins) (leaf : Messages) → IsStrictlySortedBy place_cmp (map place_of (map row_message (pruned pins leaf)))
unfolding history
merged_rises pins leaf =
    subst (λ ms. IsStrictlySortedBy place_cmp (map place_of ms)) (sym (map-message-reverse (merged_history pins (reverse (in_order leaf)))))
    (subst (IsStrictlySortedBy place_cmp) (sym (map-reverse (map row_message (merged_history pins (reverse (in_order leaf))))))
    (rises_reverse _ (falling pins (reverse (in_order leaf)) (is_history leaf))))
