-- A list without what is superseded means the same.
use Rattle.std.proofs.Common.{◌≡◌, ◌≢◌, ℕ, ◌<◌, ◌≤◌, Bool, true, false, List, [], ◌∷◌, Option, Some, None, refl, sym, ap, subst, ◌∙◌, arith, ⊎_elim}
use Rattle.std.specs.Prelude.{Contains, IsSome, if◌then◌else◌, not, ◌&&◌, ◌||◌, is_some, nat_le, nat_lt}
use Rattle.std.specs.List.Sorted.{IsStrictlySortedBy}
use Rattle.std.specs.Ordering.{eq_by_cmp}
use Rattle.std.specs.declared.cmp.Ordering.TheVariants.{Less}
use Rattle.std.proofs.lemmas.Bool.{and_parts, cases_lt, cases_Bool, cond-true, cond-false, leb-true, ltb-true}
use Rattle.stow_leaf.specs.Replacements.{MeanTheSame}
use Rattle.stow_leaf.proofs.Found.{first_stays, none_some, none_or, none_unless, some_or}
use Rattle.stow_leaf.proofs.Over.{Above, same_itself, same_pointwise, same_then}
use Rattle.stow_leaf.proofs.StowMessage.RisingLists.{AllAbove}
use Rattle.stow_superseded.specs.Laws.{SupersededMeanNothing}
use Rattle.stow_superseded.specs.Superseded.{is_whole, next_whole, is_hidden, is_superseded, without_superseded}
use Rattle.stow_superseded.proofs.Fewer.{above_without}
use Rattle.stow_superseded.proofs.Hiding.{BeginWhole, hidden_same}
use Rattle.stow_tree_model.specs.Agreement.{TenantPins}
use Rattle.stow_tree_model.specs.Keys.{tenant_of}
use Rattle.stow_tree_model.specs.Merged.{same_key, is_pin_within}
use Rattle.stow_tree_model.specs.Messages.{ops_in}
use Rattle.stow_tree_model.specs.Operations.{Operations, or_else, over}
use Rattle.stow_tree_model.specs.Order.{VersionPlace, place_cmp, place_of, MessagesRise}
use Rattle.stow_tree_model.specs.TreeMessage.{TreeMessage}
use Rattle.stow_tree_model.proofs.Histories.{falls_number, ops_in-at, ops_in-skip, pin_within}
use Rattle.stow_tree_model.proofs.Orders.{key_cases, place_cases}
use Rattle.stow_tree_model.proofs.Pruning.{contains_here, contains_there}

-- ---- what stands above a place

pub none_up_to : (p : VersionPlace) (ms : List TreeMessage) (n : ℕ) → n ≤ p.1 → AllAbove p ms → ops_in ms p.0 n ≡ None
none_up_to p [] n l h = refl
none_up_to p (x ∷ xs) n l h =
    ops_in-skip x xs p.0 n (λ e. let less : p.1 < n = falls_number p.0 p.1 n (subst (λ (q : VersionPlace). place_cmp p q ≡ Less) (sym e) h.0) in omega arith)
    ∙ none_up_to p xs n l h.1

-- ---- what stays begins with a put or a removal

abbrev NonePinned : List ℕ → ℕ → ℕ → Type 0
NonePinned pins from to = (p : ℕ) → Contains pins p → from ≤ p → p < to → ⊥

pin_found : {X : Type 0} (pins : List ℕ) (from to : ℕ) → is_pin_within pins from to ≡ true → ((p : ℕ) → Contains pins p → from ≤ p → p < to → X) → X
pin_found [] from to e f = absurd cc
pin_found (p ∷ pins) from to e f = ⊎_elim
    (λ (t : (nat_le from p && nat_lt p to) ≡ true). let parts = and_parts (nat_le from p) (nat_lt p to) t in f p (contains_here p pins) (leb-true from p parts.0) (ltb-true p to parts.1))
    (λ (t : (nat_le from p && nat_lt p to) ≡ false). pin_found pins from to (sym (ap (λ b. b || is_pin_within pins from to) t) ∙ e) (λ q c l m. f q (contains_there p q pins c) l m))
    (cases_Bool (nat_le from p && nat_lt p to))

none_within : (pins : List ℕ) (from to : ℕ) → NonePinned pins from to → is_pin_within pins from to ≡ false
none_within pins from to none = ⊎_elim
    (λ (e : is_pin_within pins from to ≡ true). absurd (pin_found pins from to e none))
    (λ (e : is_pin_within pins from to ≡ false). e)
    (cases_Bool (is_pin_within pins from to))

pub within_none : (pins : List ℕ) (from to : ℕ) → not (is_pin_within pins from to) ≡ true → NonePinned pins from to
within_none pins from to e p c l m = let t = pin_within pins from to p c l m in let z : false ≡ true = ap not (sym t) ∙ e in absurd cc

-- a hidden message has one that hides it
hider : {X : Type 0} (pins : TenantPins) (m : TreeMessage) (newer : Option TreeMessage) → is_hidden pins m newer ≡ true
    → ((w : TreeMessage) → newer ≡ Some w → NonePinned (pins (tenant_of m.key)) m.number w.number → X) → X
hider pins m None e f = absurd cc
hider pins m (Some w) e f = f w refl (within_none (pins (tenant_of m.key)) m.number w.number e)

begins_same : (pins : List ℕ) (from : ℕ) (f g : Operations) → f ≡ g → BeginWhole pins from f → BeginWhole pins from g
begins_same pins from f g e b = subst (BeginWhole pins from) e b

begins_whole : (pins : TenantPins) (key : List ℕ) (from : ℕ) (ms : List TreeMessage) (w : TreeMessage) → MessagesRise ms → AllAbove (key, from) ms → next_whole key ms ≡ Some w
    → NonePinned (pins (tenant_of key)) from w.number → BeginWhole (pins (tenant_of key)) from (ops_in (without_superseded pins ms) key)
unfolding IsStrictlySortedBy
begins_whole pins key from [] w up above e none = absurd cc
begins_whole pins key from (m ∷ ms) w up above e none = ⊎_elim
    (λ (s : (key ≡ m.key) × (same_key key m.key ≡ true)).
    let number : from < m.number = falls_number key from m.number (subst (λ k. place_cmp (key, from) (k, m.number) ≡ Less) (sym s.0) above.0) in
    ⊎_elim
    (λ (t : is_whole m.op ≡ true).
    let it : m ≡ w = of_some m w (sym (cond-true _ _ _ s.1 ∙ cond-true _ _ _ t) ∙ e) in
    first (λ v next free. begins_whole pins key from ms v up.1 above.1 next free) s.0 number t (subst (λ (x : TreeMessage). NonePinned (pins (tenant_of key)) from x.number) (sym it) none))
    (λ (t : is_whole m.op ≡ false). later (λ v next free. begins_whole pins key from ms v up.1 above.1 next free) s.0 number (sym (cond-true _ _ _ s.1 ∙ cond-false _ _ _ t) ∙ e))
    (cases_Bool (is_whole m.op)))
    (λ (s : (key ≢ m.key) × (same_key key m.key ≡ false)). let z : None ≡ Some w = sym (cond-false _ _ _ s.1) ∙ e in absurd cc)
    (key_cases key m.key)
  where
    of_some : (a b : TreeMessage) → Some a ≡ Some b → a ≡ b
    of_some a b e = cc

    Again : Type 0
    Again = (v : TreeMessage) → next_whole key ms ≡ Some v → NonePinned (pins (tenant_of key)) from v.number → BeginWhole (pins (tenant_of key)) from (ops_in (without_superseded pins ms) key)

    dropped : is_superseded pins m ms ≡ true → BeginWhole (pins (tenant_of key)) from (ops_in (without_superseded pins ms) key) → BeginWhole (pins (tenant_of key)) from (ops_in (without_superseded pins (m ∷ ms)) key)
    dropped e b = begins_same (pins (tenant_of key)) from _ _ (ap (λ l. ops_in l key) (sym (cond-true _ _ _ e))) b

    first : Again → key ≡ m.key → from < m.number → is_whole m.op ≡ true → NonePinned (pins (tenant_of key)) from m.number → BeginWhole (pins (tenant_of key)) from (ops_in (without_superseded pins (m ∷ ms)) key)
    first again k l t free = ⊎_elim
        (λ (e : is_superseded pins m ms ≡ true). dropped e (hider pins m (next_whole m.key ms) e (λ v next none. again v (ap (λ x. next_whole x ms) k ∙ next) (λ p c a b. ⊎_elim
        (λ (lt : p < m.number). free p c a lt)
        (λ (ge : m.number ≤ p). none p (subst (λ x. Contains (pins (tenant_of x)) p) k c) ge b)
        (cases_lt p m.number)))))
        (λ (e : is_superseded pins m ms ≡ false). begins_same (pins (tenant_of key)) from _ _ (ap (λ l. ops_in l key) (sym (cond-false _ _ _ e))) (record {
          at = m.number;
          op = m.op;
          above = l;
          is = ap (λ x. ops_in (m ∷ without_superseded pins ms) x m.number) k ∙ ops_in-at m (without_superseded pins ms);
          whole = t;
          before = λ n lt.
              ops_in-skip m (without_superseded pins ms) key n (λ q. let z : n ≡ m.number = ap (λ (x : VersionPlace). x.1) q in omega arith)
              ∙ ap (λ x. ops_in (without_superseded pins ms) x n) k
              ∙ none_up_to (place_of m) (without_superseded pins ms) n (omega arith) (above_without pins (place_of m) ms up.0);
          unpinned = free;
        }))
        (cases_Bool (is_superseded pins m ms))

    later : Again → key ≡ m.key → from < m.number → next_whole key ms ≡ Some w → BeginWhole (pins (tenant_of key)) from (ops_in (without_superseded pins (m ∷ ms)) key)
    later again k l next = dropped
        (ap (is_hidden pins m) (ap (λ x. next_whole x ms) (sym k) ∙ next)
        ∙ ap not (none_within (pins (tenant_of m.key)) m.number w.number (λ p c a b. none p (subst (λ x. Contains (pins (tenant_of x)) p) (sym k) c) (omega arith) b)))
        (again w next none)

-- ---- the law

-- a list's first message stands right above what is older
pub moved : (m : TreeMessage) (ms : List TreeMessage) (key : List ℕ) (older : Operations) (n : ℕ) → AllAbove (place_of m) ms
    → over (ops_in ms key) (over (ops_in (m ∷ []) key) older) n ≡ over (ops_in (m ∷ ms) key) older n
moved m ms key older n h = ⊎_elim
    (λ (e : (◌≡◌ {A = VersionPlace} (key, n) (place_of m)) × (eq_by_cmp place_cmp (key, n) (place_of m) ≡ true)).
    none_or (ops_in ms key n) _ (ap (λ (p : VersionPlace). ops_in ms p.0 p.1) e.0 ∙ none_up_to (place_of m) ms m.number (omega arith) h)
    ∙ ap (λ o. or_else o (older n)) (cond-true _ _ _ e.1 ∙ sym (cond-true _ _ _ e.1)))
    (λ (e : (◌≢◌ {A = VersionPlace} (key, n) (place_of m)) × (eq_by_cmp place_cmp (key, n) (place_of m) ≡ false)).
    ap (or_else (ops_in ms key n)) (none_or (ops_in (m ∷ []) key n) (older n) (cond-false _ _ _ e.1))
    ∙ ap (λ o. or_else o (older n)) (sym (ops_in-skip m ms key n e.0)))
    (place_cases (key, n) (place_of m))

only_there : (m : TreeMessage) (key : List ℕ) (n : ℕ) → IsSome (ops_in (m ∷ []) key n) → ◌≡◌ {A = VersionPlace} (key, n) (place_of m)
only_there m key n s = ⊎_elim
    (λ (e : (◌≡◌ {A = VersionPlace} (key, n) (place_of m)) × (eq_by_cmp place_cmp (key, n) (place_of m) ≡ true)). e.0)
    (λ (e : (◌≢◌ {A = VersionPlace} (key, n) (place_of m)) × (eq_by_cmp place_cmp (key, n) (place_of m) ≡ false)). absurd (none_some (ops_in (m ∷ []) key n) (cond-false _ _ _ e.1) s))
    (place_cases (key, n) (place_of m))

pub above_first : (m : TreeMessage) (ms : List TreeMessage) (key : List ℕ) (older : Operations) → AllAbove (place_of m) ms → Above (ops_in (m ∷ ms) key) older → Above (ops_in ms key) (over (ops_in (m ∷ []) key) older)
above_first m ms key older h new n k s t = some_or (ops_in (m ∷ []) key k) (older k)
    (λ u. let at = only_there m key k u in let number : k ≡ m.number = ap (λ (p : VersionPlace). p.1) at in ⊎_elim
    (λ (lt : k < n). lt)
    (λ (ge : n ≤ k). absurd (none_some (ops_in ms key n) (ap (λ (p : VersionPlace). ops_in ms p.0 n) at ∙ none_up_to (place_of m) ms n (omega arith) h) s))
    (cases_lt k n))
    (λ u. new n k (first_stays m ms key n s) u)
    t

pub superseded_same : SupersededMeanNothing
unfolding IsStrictlySortedBy
superseded_same pins key older [] rise new = same_itself (pins (tenant_of key)) (over (ops_in [] key) older)
superseded_same pins key older (m ∷ ms) rise new =
    let same = superseded_same pins key (over (ops_in (m ∷ []) key) older) ms rise.1 (above_first m ms key older rise.0 new) in
    same_then (pins (tenant_of key)) (over (ops_in (m ∷ ms) key) older) (over (ops_in ms key) below) (over (ops_in (without_superseded pins (m ∷ ms)) key) older)
    (same_pointwise (pins (tenant_of key)) (over (ops_in (m ∷ ms) key) older) (over (ops_in ms key) below) (λ n. moved m ms key older n rise.0))
    (same_then (pins (tenant_of key)) (over (ops_in ms key) below) (over (ops_in stay key) below) (over (ops_in (without_superseded pins (m ∷ ms)) key) older) same
    (⊎_elim
    (λ (e : is_superseded pins m ms ≡ true). subst (λ (l : List TreeMessage). MeanTheSame (pins (tenant_of key)) (over (ops_in stay key) below) (over (ops_in l key) older)) (sym (cond-true _ _ _ e)) (gone e))
    (λ (e : is_superseded pins m ms ≡ false). subst (λ (l : List TreeMessage). MeanTheSame (pins (tenant_of key)) (over (ops_in stay key) below) (over (ops_in l key) older)) (sym (cond-false _ _ _ e))
    (same_pointwise (pins (tenant_of key)) (over (ops_in stay key) below) (over (ops_in (m ∷ stay) key) older) (λ n. sym (moved m stay key older n (above_without pins (place_of m) ms rise.0)))))
    (cases_Bool (is_superseded pins m ms))))
  where
    below : Operations
    below = over (ops_in (m ∷ []) key) older

    stay : List TreeMessage
    stay = without_superseded pins ms

    gone : is_superseded pins m ms ≡ true → MeanTheSame (pins (tenant_of key)) (over (ops_in stay key) below) (over (ops_in stay key) older)
    gone e = ⊎_elim
        (λ (s : (key ≡ m.key) × (same_key key m.key ≡ true)). hider pins m (next_whole m.key ms) e (λ w next none. hidden_same (pins (tenant_of key)) (ops_in stay key) (ops_in (m ∷ []) key) older m.number
        (begins_whole pins key m.number ms w rise.1 (subst (λ k. AllAbove (k, m.number) ms) (sym s.0) rise.0) (ap (λ x. next_whole x ms) s.0 ∙ next) (subst (λ x. NonePinned (pins (tenant_of x)) m.number w.number) (sym s.0) none))
        (λ n l. ops_in-skip m [] key n (λ q. let z : n ≡ m.number = ap (λ (x : VersionPlace). x.1) q in omega arith))
        (λ n l. ops_in-skip m [] key n (λ q. let z : n ≡ m.number = ap (λ (x : VersionPlace). x.1) q in omega arith))
        (λ n l. none_unless (older n) (λ u.
        let less : n < m.number = new m.number n (ap is_some (ap (λ x. ops_in (m ∷ ms) x m.number) s.0 ∙ ops_in-at m ms)) u in omega arith))))
        (λ (s : (key ≢ m.key) × (same_key key m.key ≡ false)). same_pointwise (pins (tenant_of key)) (over (ops_in stay key) below) (over (ops_in stay key) older)
        (λ n. ap (or_else (ops_in stay key n)) (sym (none_or (ops_in (m ∷ []) key n) (older n) (ops_in-skip m [] key n (λ q. s.0 (ap (λ (x : VersionPlace). x.0) q)))))))
        (key_cases key m.key)

-- no message comes
pub part_there : (pins : TenantPins) (ms : List TreeMessage) (key : List ℕ) (n : ℕ) → IsSome (ops_in (without_superseded pins ms) key n) → IsSome (ops_in ms key n)
part_there pins [] key n s = s
part_there pins (m ∷ ms) key n s = step (is_superseded pins m ms) (part_there pins ms key n) s where
  here : (b : Bool) → (IsSome (ops_in (without_superseded pins ms) key n) → IsSome (ops_in ms key n)) → IsSome (if b then Some m.op else ops_in (without_superseded pins ms) key n) → IsSome (if b then Some m.op else ops_in ms key n)
  here true on s = s
  here false on s = on s

  step : (b : Bool) → (IsSome (ops_in (without_superseded pins ms) key n) → IsSome (ops_in ms key n)) → IsSome (ops_in (if b then without_superseded pins ms else m ∷ without_superseded pins ms) key n) → IsSome (ops_in (m ∷ ms) key n)
  step true on s = first_stays m ms key n (on s)
  step false on s = here (eq_by_cmp place_cmp (key, n) (place_of m)) on s
