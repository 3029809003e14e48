-- Two lists in one.
use Rattle.std.proofs.Common.{◌≡◌, ◌≢◌, ℕ, Bool, true, false, List, [], ◌∷◌, Option, Some, None, refl, ap, ◌∙◌, sym, subst, ⊎_elim, cond}
use Rattle.std.specs.Prelude.{map}
use Rattle.std.specs.declared.cmp.Ordering.TheVariants.{Less, Equal, Greater}
use Rattle.std.specs.Ordering.{eq_by_cmp, ordering_reverse}
use Rattle.std.specs.Cmp.{tied_itself}
use Rattle.std.specs.FinMap as finite
use Rattle.std.specs.FinMap.Entries.{by_order}
use Rattle.std.specs.List.{AllByRecursion}
use Rattle.std.specs.List.Sorted.{IsStrictlySortedBy}
use Rattle.stow_tree_model.specs.Op.{Op}
use Rattle.stow_tree_model.specs.TreeMessage.{TreeMessage}
use Rattle.stow_tree_model.specs.Order.{VersionPlace, place_cmp, place_of}
use Rattle.stow_tree_model.specs.Operations.{or_else}
use Rattle.stow_tree_model.specs.Messages.{Messages, with_all, set_of, ops_in, in_order}
use Rattle.stow_tree_model.specs.Zipped.{zip_head, zipped}
use Rattle.stow_tree_model.proofs.Orders.{place_total, exact_places, place_cases}
use Rattle.stow_tree_model.proofs.SetLemmas.{set_by_ops_law, ops_in-other_place, ops-with_all}
use Rattle.stow_tree_model.proofs.Ordered.{in_order_rises, ops_in-in_order, in_order_once_law}

abbrev Above : VersionPlace → List TreeMessage → Type 0
Above p ms = AllByRecursion (λ q. place_cmp p q ≡ Less) (map place_of ms)

above_trans : (p q : VersionPlace) (ms : List TreeMessage) → place_cmp p q ≡ Less → Above q ms → Above p ms
above_trans p q [] l h = h
above_trans p q (m ∷ ms) l h = (place_total.trans p q (place_of m) l h.0, above_trans p q ms l h.1)

-- ---- rising

all_head : (P : VersionPlace → Type 0) (a : TreeMessage) (rest : List TreeMessage → List TreeMessage) (bs : List TreeMessage)
    → ((cs : List TreeMessage) → AllByRecursion P (map place_of cs) → AllByRecursion P (map place_of (rest cs))) → P (place_of a) → AllByRecursion P (map place_of bs)
    → AllByRecursion P (map place_of (zip_head a rest bs))
all_head P a rest [] f p h = (p, f [] tt)
all_head P a rest (b ∷ bs) f p h =
    elim (place_cmp (place_of a) (place_of b)) as (λ r. AllByRecursion P (map place_of (by_order r (a ∷ rest (b ∷ bs)) (b ∷ rest bs) (b ∷ zip_head a rest bs)))) [
      | Less ↦ (p, f (b ∷ bs) h)
      | Equal ↦ (h.0, f bs h.1)
      | Greater ↦ (h.0, all_head P a rest bs f p h.1)
    ]

all_zipped : (P : VersionPlace → Type 0) (rows bs : List TreeMessage) → AllByRecursion P (map place_of rows) → AllByRecursion P (map place_of bs) → AllByRecursion P (map place_of (zipped rows bs))
all_zipped P [] bs f h = h
all_zipped P (a ∷ rows) bs f h = all_head P a (zipped rows) bs (λ cs g. all_zipped P rows cs f.1 g) f.0 h

rises_head : (a : TreeMessage) (rows bs : List TreeMessage) → ((cs : List TreeMessage) → IsStrictlySortedBy place_cmp (map place_of cs) → IsStrictlySortedBy place_cmp (map place_of (zipped rows cs))) → Above (place_of a) rows → IsStrictlySortedBy place_cmp (map place_of bs) → IsStrictlySortedBy place_cmp (map place_of (zip_head a (zipped rows) bs))
unfolding IsStrictlySortedBy
rises_head a rows [] f l h = (all_zipped (λ q. place_cmp (place_of a) q ≡ Less) rows [] l tt, f [] tt)
rises_head a rows (b ∷ bs) f l h =
    elim (place_cmp (place_of a) (place_of b)) as (λ r. place_cmp (place_of a) (place_of b) ≡ r → IsStrictlySortedBy place_cmp (map place_of (by_order r (a ∷ zipped rows (b ∷ bs)) (b ∷ zipped rows bs) (b ∷ zip_head a (zipped rows) bs)))) [
      | Less ↦ λ e. (all_zipped (λ q. place_cmp (place_of a) q ≡ Less) rows (b ∷ bs) l (e, above_trans (place_of a) (place_of b) bs e h.0), f (b ∷ bs) h)
      | Equal ↦ λ e. (all_zipped (λ q. place_cmp (place_of b) q ≡ Less) rows bs (subst (λ p. Above p rows) (exact_places (place_of a) (place_of b) e) l) h.0, f bs h.1)
      | Greater ↦ λ e.
          let back : place_cmp (place_of b) (place_of a) ≡ Less = place_total.antisymm (place_of b) (place_of a) ∙ ap ordering_reverse e in (
            all_head (λ q. place_cmp (place_of b) q ≡ Less) a (zipped rows) bs (λ cs g. all_zipped (λ q. place_cmp (place_of b) q ≡ Less) rows cs (above_trans (place_of b) (place_of a) rows back l) g) back h.0,
            rises_head a rows bs f l h.1,
          )
    ] refl

pub zipped_rises : (rows bs : List TreeMessage) → IsStrictlySortedBy place_cmp (map place_of rows) → IsStrictlySortedBy place_cmp (map place_of bs) → IsStrictlySortedBy place_cmp (map place_of (zipped rows bs))
unfolding IsStrictlySortedBy
zipped_rises [] bs f h = h
zipped_rises (a ∷ rows) bs f h = rises_head a rows bs (λ cs g. zipped_rises rows cs f.1 g) f.0 h

-- ---- look-ups

not_above : (p : VersionPlace) (ms : List TreeMessage) → Above p ms → ops_in ms p.0 p.1 ≡ None
not_above p ms h = ops_in-other_place ms p.0 p.1 (apart ms h)
  where
    apart : (xs : List TreeMessage) → Above p xs → AllByRecursion (λ m. ◌≢◌ {A = VersionPlace} (p.0, p.1) (place_of m)) xs
    apart [] h = tt
    apart (m ∷ xs) h = ((λ e. let z : Equal ≡ Less = sym (tied_itself place_total p) ∙ (subst (λ q. place_cmp p q ≡ Less) (sym e) h.0) in cc), apart xs h.1)

pub or_none : (o : Option Op) → or_else o None ≡ o
or_none None = refl
or_none (Some o) = refl

cond_over : (t : Bool) (p : Op) (o x : Option Op) → cond t (Some p) (or_else o x) ≡ or_else (cond t (Some p) o) x
cond_over true p o x = refl
cond_over false p o x = refl

cond_under : (t : Bool) (p : Op) (o x : Option Op) → (t ≡ true → o ≡ None) → cond t (Some p) (or_else o x) ≡ or_else o (cond t (Some p) x)
cond_under true p o x h = sym (ap (λ y. or_else y (Some p)) (h refl))
cond_under false p o x h = refl

cond_both : (t s : Bool) (p q : Op) (o x : Option Op) → t ≡ s → cond t (Some p) (or_else o x) ≡ or_else (cond t (Some p) o) (cond s (Some q) x)
cond_both true s p q o x e = refl
cond_both false true p q o x e = cc
cond_both false false p q o x e = refl

test_true : (p q : VersionPlace) → eq_by_cmp place_cmp p q ≡ true → p ≡ q
test_true p q e = ⊎_elim (λ (h : (p ≡ q) × (eq_by_cmp place_cmp p q ≡ true)). h.0) (λ (h : (p ≢ q) × (eq_by_cmp place_cmp p q ≡ false)). let z : true ≡ false = sym e ∙ h.1 in cc) (place_cases p q)

ops_head : (a : TreeMessage) (rows bs : List TreeMessage) (key : List ℕ) (n : ℕ) → ((cs : List TreeMessage) → IsStrictlySortedBy place_cmp (map place_of cs) → ops_in (zipped rows cs) key n ≡ or_else (ops_in cs key n) (ops_in rows key n)) → IsStrictlySortedBy place_cmp (map place_of bs)
    → ops_in (zip_head a (zipped rows) bs) key n ≡ or_else (ops_in bs key n) (ops_in (a ∷ rows) key n)
unfolding IsStrictlySortedBy
ops_head a rows [] key n f h = ap (cond (eq_by_cmp place_cmp (key, n) (place_of a)) (Some a.op)) (f [] tt)
ops_head a rows (b ∷ bs) key n f h =
    elim (place_cmp (place_of a) (place_of b)) as (λ r. place_cmp (place_of a) (place_of b) ≡ r → ops_in (by_order r (a ∷ zipped rows (b ∷ bs)) (b ∷ zipped rows bs) (b ∷ zip_head a (zipped rows) bs)) key n ≡ or_else (ops_in (b ∷ bs) key n) (ops_in (a ∷ rows) key n)) [
      | Less ↦ λ e.
          ap (cond (eq_by_cmp place_cmp (key, n) (place_of a)) (Some a.op)) (f (b ∷ bs) h)
          ∙ cond_under (eq_by_cmp place_cmp (key, n) (place_of a)) a.op (ops_in (b ∷ bs) key n) (ops_in rows key n) (λ t.
          let p = test_true (key, n) (place_of a) t in
          ap (λ (q : VersionPlace). ops_in (b ∷ bs) q.0 q.1) p ∙ not_above (place_of a) (b ∷ bs) (e, above_trans (place_of a) (place_of b) bs e h.0))
      | Equal ↦ λ e.
          ap (cond (eq_by_cmp place_cmp (key, n) (place_of b)) (Some b.op)) (f bs h.1)
          ∙ cond_both (eq_by_cmp place_cmp (key, n) (place_of b)) (eq_by_cmp place_cmp (key, n) (place_of a)) b.op a.op (ops_in bs key n) (ops_in rows key n) (ap (eq_by_cmp place_cmp (key, n)) (sym (exact_places (place_of a) (place_of b) e)))
      | Greater ↦ λ e.
          ap (cond (eq_by_cmp place_cmp (key, n) (place_of b)) (Some b.op)) (ops_head a rows bs key n f h.1)
          ∙ cond_over (eq_by_cmp place_cmp (key, n) (place_of b)) b.op (ops_in bs key n) (ops_in (a ∷ rows) key n)
    ] refl

pub zipped_ops : (rows bs : List TreeMessage) (key : List ℕ) (n : ℕ) → IsStrictlySortedBy place_cmp (map place_of bs) → ops_in (zipped rows bs) key n ≡ or_else (ops_in bs key n) (ops_in rows key n)
unfolding IsStrictlySortedBy
zipped_ops [] bs key n h = sym (or_none (ops_in bs key n))
zipped_ops (a ∷ rows) bs key n h = ops_head a rows bs key n (λ cs g. zipped_ops rows cs key n g) h

pub zipped_in_order : (rows bs : List TreeMessage) → IsStrictlySortedBy place_cmp (map place_of rows) → IsStrictlySortedBy place_cmp (map place_of bs) → zipped rows bs ≡ in_order (with_all (set_of rows) bs)
zipped_in_order rows bs f h = in_order_once_law (zipped rows bs) (with_all (set_of rows) bs) (zipped_rises rows bs f h) (λ key n.
    zipped_ops rows bs key n h
    ∙ ap (or_else (ops_in bs key n)) (sym (ops-with_all finite.empty rows key n ∙ ap (or_else (ops_in rows key n)) (finite.get-empty place_cmp (key, n)) ∙ or_none (ops_in rows key n)))
    ∙ sym (ops-with_all (set_of rows) bs key n))

pub set_of-in_order : (messages : Messages) → set_of (in_order messages) ≡ messages
set_of-in_order messages = set_by_ops_law _ _ (λ key n.
    ops-with_all finite.empty (in_order messages) key n
    ∙ ap (or_else (ops_in (in_order messages) key n)) (finite.get-empty place_cmp (key, n))
    ∙ or_none _
    ∙ ops_in-in_order messages key n)

-- messages in order, with one more that takes its place
pub in_order-one_more : (messages : Messages) (m : TreeMessage) → zipped (in_order messages) (m ∷ []) ≡ in_order (finite.insert messages (place_of m) m.op)
unfolding IsStrictlySortedBy
in_order-one_more messages m =
    zipped_in_order (in_order messages) (m ∷ []) (in_order_rises messages) (tt, tt)
    ∙ ap (λ s. in_order (finite.insert s (place_of m) m.op)) (set_of-in_order messages)

pub in_order-set_of : (ms : List TreeMessage) → IsStrictlySortedBy place_cmp (map place_of ms) → in_order (set_of ms) ≡ ms
unfolding IsStrictlySortedBy
in_order-set_of ms h = sym (in_order_once_law ms (set_of ms) h (λ key n.
    sym (ops-with_all finite.empty ms key n ∙ ap (or_else (ops_in ms key n)) (finite.get-empty place_cmp (key, n)) ∙ or_none _)))
