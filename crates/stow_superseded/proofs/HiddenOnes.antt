-- A list without one message that the next one hides means the same.
use Rattle.std.proofs.Common.{◌≡◌, ◌≢◌, ℕ, zero, suc, ◌<◌, Bool, true, false, List, [], ◌∷◌, ◌++◌, Some, drop, sym, ap, subst, ◌∙◌, arith, ⊎_elim}
use Rattle.std.specs.Prelude.{slice_get, Contains, IsSome, if◌then◌else◌, ◌&&◌, is_some}
use Rattle.std.specs.Ordering.{eq_by_cmp}
use Rattle.std.specs.List.Sorted.{IsStrictlySortedBy}
use Rattle.std.specs.declared.cmp.Ordering.TheVariants.{Less}
use Rattle.std.proofs.lemmas.Bool.{and_parts}
use Rattle.stow_leaf.specs.Replacements.{MeanTheSame}
use Rattle.stow_leaf.proofs.Found.{first_stays, none_or, none_unless}
use Rattle.stow_leaf.proofs.Over.{Above, same_pointwise, same_then}
use Rattle.stow_leaf.proofs.StowMessage.RisingLists.{AllAbove}
use Rattle.stow_superseded.specs.Hidden.{hides}
use Rattle.stow_superseded.specs.Superseded.{is_whole, is_hidden}
use Rattle.stow_superseded.proofs.Hiding.{BeginWhole, hidden_same}
use Rattle.stow_superseded.proofs.Meaning.{none_up_to, within_none, moved, above_first}
use Rattle.stow_tree_model.specs.Agreement.{TenantPins}
use Rattle.stow_tree_model.specs.Keys.{tenant_of}
use Rattle.stow_tree_model.specs.Merged.{same_key}
use Rattle.stow_tree_model.specs.Messages.{ops_in}
use Rattle.stow_tree_model.specs.Operations.{Operations, or_else, over}
use Rattle.stow_tree_model.specs.Order.{VersionPlace, place_cmp, place_of, MessagesRise}
use Rattle.stow_tree_model.specs.TreeMessage.{TreeMessage}
use Rattle.stow_tree_model.proofs.Histories.{falls_number, ops_in-at, ops_in-skip}
use Rattle.stow_tree_model.proofs.Orders.{key_cases}

-- what stands above a place still does without one of them
pub above_fewer : (p : VersionPlace) (before : List TreeMessage) (m : TreeMessage) (after : List TreeMessage) → AllAbove p (before ++ (m ∷ after)) → AllAbove p (before ++ after)
above_fewer p [] m after h = h.1
above_fewer p (x ∷ before) m after h = (h.0, above_fewer p before m after h.1)

same_keys : (a b : List ℕ) → same_key a b ≡ true → a ≡ b
same_keys a b e = ⊎_elim
    (λ (s : (a ≡ b) × (same_key a b ≡ true)). s.0)
    (λ (s : (a ≢ b) × (same_key a b ≡ false)). absurd (let z : true ≡ false = sym e ∙ s.1 in cc))
    (key_cases a b)

module _ (pins : TenantPins) (m next : TreeMessage) (hid : hides pins m next ≡ true) where
  parts : (is_whole next.op ≡ true) × ((same_key m.key next.key && is_hidden pins m (Some next)) ≡ true)
  parts = and_parts (is_whole next.op) (same_key m.key next.key && is_hidden pins m (Some next)) hid

  free : (same_key m.key next.key ≡ true) × (is_hidden pins m (Some next) ≡ true)
  free = and_parts (same_key m.key next.key) (is_hidden pins m (Some next)) parts.1

  keys : m.key ≡ next.key
  keys = same_keys m.key next.key free.0

  -- what stands behind it begins with a put or a removal
  begins : (key : List ℕ) (after : List TreeMessage) → key ≡ m.key → place_cmp (place_of m) (place_of next) ≡ Less → AllAbove (place_of next) after → BeginWhole (pins (tenant_of key)) m.number (ops_in (next ∷ after) key)
  begins key after k up above = let same : key ≡ next.key = k ∙ keys in record {
    at = next.number;
    op = next.op;
    above = falls_number m.key m.number next.number (subst (λ x. place_cmp (place_of m) (x, next.number) ≡ Less) (sym keys) up);
    is = ap (λ x. ops_in (next ∷ after) x next.number) same ∙ ops_in-at next after;
    whole = parts.0;
    before = λ n lt.
        ops_in-skip next after key n (λ q. let z : n ≡ next.number = ap (λ (x : VersionPlace). x.1) q in omega arith)
        ∙ ap (λ x. ops_in after x n) same
        ∙ none_up_to (place_of next) after n (omega arith) above;
    unpinned = λ p c low high. within_none (pins (tenant_of m.key)) m.number next.number free.1 p (subst (λ x. Contains (pins (tenant_of x)) p) k c) low high;
  }

  pub hidden_one_same : (key : List ℕ) (older : Operations) (before after : List TreeMessage) → MessagesRise (before ++ (m ∷ next ∷ after)) → Above (ops_in (before ++ (m ∷ next ∷ after)) key) older
      → MeanTheSame (pins (tenant_of key)) (over (ops_in (before ++ (m ∷ next ∷ after)) key) older) (over (ops_in (before ++ (next ∷ after)) key) older)
  unfolding IsStrictlySortedBy
  hidden_one_same key older [] after rise new =
      same_then (pins (tenant_of key)) (over (ops_in (m ∷ next ∷ after) key) older) (over (ops_in (next ∷ after) key) below) (over (ops_in (next ∷ after) key) older)
      (same_pointwise (pins (tenant_of key)) (over (ops_in (m ∷ next ∷ after) key) older) (over (ops_in (next ∷ after) key) below) (λ n. moved m (next ∷ after) key older n rise.0))
      (⊎_elim
      (λ (s : (key ≡ m.key) × (same_key key m.key ≡ true)). hidden_same (pins (tenant_of key)) (ops_in (next ∷ after) key) (ops_in (m ∷ []) key) older m.number
      (begins key after s.0 rise.0.0 rise.1.0)
      (λ n l. ops_in-skip m [] key n (λ q. let z : n ≡ m.number = ap (λ (x : VersionPlace). x.1) q in omega arith))
      (λ n l. ops_in-skip m [] key n (λ q. let z : n ≡ m.number = ap (λ (x : VersionPlace). x.1) q in omega arith))
      (λ n l. none_unless (older n) (λ u.
      let less : n < m.number = new m.number n (ap is_some (ap (λ x. ops_in (m ∷ next ∷ after) x m.number) s.0 ∙ ops_in-at m (next ∷ after))) u in omega arith)))
      (λ (s : (key ≢ m.key) × (same_key key m.key ≡ false)). same_pointwise (pins (tenant_of key)) (over (ops_in (next ∷ after) key) below) (over (ops_in (next ∷ after) key) older)
      (λ n. ap (or_else (ops_in (next ∷ after) key n)) (sym (none_or (ops_in (m ∷ []) key n) (older n) (ops_in-skip m [] key n (λ q. s.0 (ap (λ (x : VersionPlace). x.0) q)))))))
      (key_cases key m.key))
    where
      below : Operations
      below = over (ops_in (m ∷ []) key) older
  hidden_one_same key older (x ∷ before) after rise new =
      same_then (pins (tenant_of key)) (over (ops_in (x ∷ more) key) older) (over (ops_in more key) below) (over (ops_in (x ∷ fewer) key) older)
      (same_pointwise (pins (tenant_of key)) (over (ops_in (x ∷ more) key) older) (over (ops_in more key) below) (λ n. moved x more key older n rise.0))
      (same_then (pins (tenant_of key)) (over (ops_in more key) below) (over (ops_in fewer key) below) (over (ops_in (x ∷ fewer) key) older)
      (hidden_one_same key below before after rise.1 (above_first x more key older rise.0 new))
      (same_pointwise (pins (tenant_of key)) (over (ops_in fewer key) below) (over (ops_in (x ∷ fewer) key) older) (λ n. sym (moved x fewer key older n (above_fewer (place_of x) before m (next ∷ after) rise.0)))))
    where
      below : Operations
      below = over (ops_in (x ∷ []) key) older

      more : List TreeMessage
      more = before ++ (m ∷ next ∷ after)

      fewer : List TreeMessage
      fewer = before ++ (next ∷ after)

-- no message comes
pub part_stays : (before : List TreeMessage) (m : TreeMessage) (after : List TreeMessage) (key : List ℕ) (n : ℕ) → IsSome (ops_in (before ++ after) key n) → IsSome (ops_in (before ++ (m ∷ after)) key n)
part_stays [] m after key n s = first_stays m after key n s
part_stays (x ∷ before) m after key n s = here (eq_by_cmp place_cmp (key, n) (place_of x)) (part_stays before m after key n) s where
  here : (b : Bool) → (IsSome (ops_in (before ++ after) key n) → IsSome (ops_in (before ++ (m ∷ after)) key n)) → IsSome (if b then Some x.op else ops_in (before ++ after) key n) → IsSome (if b then Some x.op else ops_in (before ++ (m ∷ after)) key n)
  here true on s = s
  here false on s = on s

-- ---- a list around two that stand side by side

no_element : {X : Type 0} (i : ℕ) {x : X} → slice_get [] i ≡ Some x → ⊥
no_element zero e = cc
no_element (suc i) e = cc

some_same : {X : Type 0} {x y : X} → Some x ≡ Some y → x ≡ y
some_same e = cc

pub first_of_rest : {X : Type 0} (xs : List X) (i : ℕ) (x : X) → slice_get xs i ≡ Some x → drop i xs ≡ x ∷ drop (suc i) xs
first_of_rest [] i x at = absurd (no_element i at)
first_of_rest (y ∷ ys) zero x at = ap (λ z. z ∷ ys) (some_same at)
first_of_rest (y ∷ ys) (suc i) x at = first_of_rest ys i x at
