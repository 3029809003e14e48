-- Lists that rise, and sets in order.
use Rattle.std.proofs.Common.{◌≡◌, ℕ, Bool, true, false, List, [], ◌∷◌, ◌++◌, reverse, Some, refl, ap, ◌∙◌, sym, subst, cond}
use Rattle.std.specs.Prelude.{map, T, ◌&&◌}
use Rattle.std.specs.FinMap as finite
use Rattle.std.specs.FinMap.{find, is_sorted}
use Rattle.std.specs.declared.cmp.Ordering.{Ordering}
use Rattle.std.specs.declared.cmp.Ordering.TheVariants.{Less, Equal, Greater}
use Rattle.std.specs.Ordering.{is_lt, eq_by_cmp}
use Rattle.std.specs.List.{AllByRecursion}
use Rattle.std.proofs.lemmas.List.{reverse-append}
use Rattle.std.specs.List.Sorted.{IsStrictlySortedBy}
use Rattle.stow_tree_model.specs.Op.{Op}
use Rattle.stow_tree_model.specs.TreeMessage.{TreeMessage}
use Rattle.stow_tree_model.specs.Order.{VersionPlace, place_cmp, place_of}
use Rattle.stow_tree_model.specs.Messages.{Messages, ops_of, ops_in, message_at, in_order, InOrderOnce}
use Rattle.stow_tree_model.proofs.Falling.{Falls, IsHistory}
use Rattle.stow_tree_model.proofs.SetLemmas.{set_by_ops_law}

abbrev entry : TreeMessage → VersionPlace × Op
entry m = (place_of m, m.op)

find-entries : (ms : List TreeMessage) (q : VersionPlace) → find place_cmp q (map entry ms) ≡ ops_in ms q.0 q.1
find-entries [] q = refl
find-entries (m ∷ ms) q = ap (cond (eq_by_cmp place_cmp q (place_of m)) (Some m.op)) (find-entries ms q)

both : (a b : Bool) → T a → T b → T (a && b)
both true b p q = q
both false b p q = p

below : (p : VersionPlace) (ms : List TreeMessage) → AllByRecursion (λ q. place_cmp p q ≡ Less) (map place_of ms) → T (finite.Entries.below_all place_cmp p (map entry ms))
below p [] h = tt
below p (m ∷ ms) h = both _ _ (subst (λ r. T (is_lt r)) (sym h.0) tt) (below p ms h.1)

sorted : (ms : List TreeMessage) → IsStrictlySortedBy place_cmp (map place_of ms) → T (is_sorted place_cmp (map entry ms))
unfolding IsStrictlySortedBy
sorted [] h = tt
sorted (m ∷ ms) h = both _ _ (below (place_of m) ms h.0) (sorted ms h.1)

same_messages : (ms : List TreeMessage) → map message_at (map entry ms) ≡ ms
same_messages [] = refl
same_messages (m ∷ ms) = ap (λ x. m ∷ x) (same_messages ms)

pub in_order_once_law : InOrderOnce
unfolding in_order
in_order_once_law ms messages rises same =
    let e : finite.from_sorted {R = place_cmp} (map entry ms) ≡ messages = set_by_ops_law _ _ (λ key n. finite.get-from_sorted place_cmp (map entry ms) (key, n) (sorted ms rises) ∙ find-entries ms (key, n) ∙ same key n) in
    sym (ap (λ x. map message_at (finite.entries x)) (sym e) ∙ ap (map message_at) (finite.entries-from_sorted place_cmp (map entry ms) (sorted ms rises)) ∙ same_messages ms)

-- ---- the other way round

falls_push : (ps : List VersionPlace) (p : VersionPlace) → Falls ps → AllByRecursion (λ q. place_cmp p q ≡ Less) ps → Falls (ps ++ p ∷ [])
falls_push [] p f a = (tt, tt)
falls_push (q ∷ ps) p f a = (push_all ps f.0 a.0, falls_push ps p f.1 a.1)
  where
    push_all : (rs : List VersionPlace) → AllByRecursion (λ r. place_cmp r q ≡ Less) rs → place_cmp p q ≡ Less → AllByRecursion (λ r. place_cmp r q ≡ Less) (rs ++ p ∷ [])
    push_all [] h l = (l, tt)
    push_all (r ∷ rs) h l = (h.0, push_all rs h.1 l)

all_push : (P : VersionPlace → Type 0) (ps : List VersionPlace) (p : VersionPlace) → AllByRecursion P ps → P p → AllByRecursion P (ps ++ p ∷ [])
all_push P [] p h l = (l, tt)
all_push P (r ∷ rs) p h l = (h.0, all_push P rs p h.1 l)

all_reverse : (P : VersionPlace → Type 0) (ps : List VersionPlace) → AllByRecursion P ps → AllByRecursion P (reverse ps)
all_reverse P [] h = h
all_reverse P (p ∷ ps) h = subst (AllByRecursion P) (sym (reverse-append (p ∷ []) ps)) (all_push P (reverse ps) p (all_reverse P ps h.1) h.0)

pub falls_reverse : (ps : List VersionPlace) → IsStrictlySortedBy place_cmp ps → Falls (reverse ps)
unfolding IsStrictlySortedBy
falls_reverse [] h = h
falls_reverse (p ∷ ps) h = subst Falls (sym (reverse-append (p ∷ []) ps)) (falls_push (reverse ps) p (falls_reverse ps h.1) (all_reverse (λ q. place_cmp p q ≡ Less) ps h.0))

map-push : (ms : List TreeMessage) (m : TreeMessage) → map place_of (ms ++ m ∷ []) ≡ map place_of ms ++ place_of m ∷ []
map-push [] m = refl
map-push (x ∷ ms) m = ap (λ ps. place_of x ∷ ps) (map-push ms m)

map-reverse : (ms : List TreeMessage) → map place_of (reverse ms) ≡ reverse (map place_of ms)
map-reverse [] = refl
map-reverse (m ∷ ms) = ap (map place_of) (reverse-append (m ∷ []) ms) ∙ map-push (reverse ms) m ∙ ap (λ ps. ps ++ place_of m ∷ []) (map-reverse ms) ∙ sym (reverse-append (place_of m ∷ []) (map place_of ms))

pub history_of : (ms : List TreeMessage) → IsStrictlySortedBy place_cmp (map place_of ms) → IsHistory (reverse ms)
history_of ms h = subst Falls (sym (map-reverse ms)) (falls_reverse (map place_of ms) h)

-- ---- a set in order rises, and has its operations

first : (a b : Bool) → T (a && b) → T a
first true b p = tt
first false b p = p

second : (a b : Bool) → T (a && b) → T b
second true b p = p
second false b p = absurd p

less : (o : Ordering) → T (is_lt o) → o ≡ Less
less Less p = refl
less Equal p = absurd p
less Greater p = absurd p

above : (p : VersionPlace) (es : List (VersionPlace × Op)) → T (finite.Entries.below_all place_cmp p es) → AllByRecursion (λ q. place_cmp p q ≡ Less) (map place_of (map message_at es))
above p [] h = tt
above p (e ∷ es) h = (less (place_cmp p e.0) (first _ _ h), above p es (second (is_lt (place_cmp p e.0)) _ h))

rising : (es : List (VersionPlace × Op)) → T (is_sorted place_cmp es) → IsStrictlySortedBy place_cmp (map place_of (map message_at es))
unfolding IsStrictlySortedBy
rising [] h = tt
rising (e ∷ es) h = (above e.0 es (first _ _ h), rising es (second (finite.Entries.below_all place_cmp e.0 es) _ h))

ops_in-entries : (es : List (VersionPlace × Op)) (key : List ℕ) (n : ℕ) → ops_in (map message_at es) key n ≡ find place_cmp (key, n) es
ops_in-entries [] key n = refl
ops_in-entries (e ∷ es) key n = ap (cond (eq_by_cmp place_cmp (key, n) e.0) (Some e.1)) (ops_in-entries es key n)

pub in_order_rises : (m : Messages) → IsStrictlySortedBy place_cmp (map place_of (in_order m))
unfolding in_order
in_order_rises m = rising (finite.entries m) (finite.entries_sorted m)

pub ops_in-in_order : (m : Messages) (key : List ℕ) (n : ℕ) → ops_in (in_order m) key n ≡ ops_of m key n
unfolding in_order
ops_in-in_order m key n = ops_in-entries (finite.entries m) key n ∙ sym (finite.get-entries m (key, n))
