-- The copies that a tenant's snapshots show, in order.
use Rattle.std.proofs.Common.{◌≡◌, ℕ, suc, Bool, true, false, cond, List, [], ◌∷◌, length, map, Option, Some, refl, ap, sym, ◌∙◌, subst, arith}
use Rattle.std.proofs.Math.Bool.{◌&&◌}
use Rattle.std.proofs.lemmas.List.{length-map}
use Rattle.std.specs.Prelude.{Contains, T, option_map}
use Rattle.std.specs.Cmp.{nat_cmp_total}
use Rattle.std.specs.FinMap.{FinMap, find, is_sorted, nat_cmp-IsAntisymmetric}
use Rattle.std.specs.FinMap as finite
use Rattle.std.specs.List.{AllByRecursion}
use Rattle.std.specs.Ordering.{nat_cmp, eq_by_cmp, is_lt}
use Rattle.std.specs.FinMap.Entries.{below_all}
use Rattle.stow_model.specs.Store.{Rows}
use Rattle.stow_ledger.specs.StowState.Rows.{rows_at}
use Rattle.stow_ledger.specs.StowState.State.{copies}
use Rattle.stow_ledger.proofs.StowState.Snapshots.{contains_first, get-copies}
use Rattle.stow_tree_model.specs.Messages.{Messages}

-- each id with what is made of its number
abbrev shown : {X : Type 0} → (ℕ → X) → List (ℕ × ℕ) → List (ℕ × X)
shown f es = map (λ (e : ℕ × ℕ). (e.0, f e.1)) es

below_shown : {X : Type 0} (f : ℕ → X) (k : ℕ) (es : List (ℕ × ℕ)) → below_all nat_cmp k (shown f es) ≡ below_all nat_cmp k es
below_shown f k [] = refl
below_shown f k (e ∷ es) = ap (λ b. is_lt (nat_cmp k e.0) && b) (below_shown f k es)

sorted_shown : {X : Type 0} (f : ℕ → X) (es : List (ℕ × ℕ)) → is_sorted nat_cmp (shown f es) ≡ is_sorted nat_cmp es
sorted_shown f [] = refl
sorted_shown f (e ∷ es) = λ i. below_shown f e.0 es i && sorted_shown f es i

mapped : {X : Type 0} (f : ℕ → X) (b : Bool) (n : ℕ) (o : Option ℕ) → option_map f (cond b (Some n) o) ≡ cond b (Some (f n)) (option_map f o)
mapped f true n o = refl
mapped f false n o = refl

find_shown : {X : Type 0} (f : ℕ → X) (q : ℕ) (es : List (ℕ × ℕ)) → option_map f (find nat_cmp q es) ≡ find nat_cmp q (shown f es)
find_shown f q [] = refl
find_shown f q (e ∷ es) = mapped f (eq_by_cmp nat_cmp q e.0) e.1 (find nat_cmp q es) ∙ ap (cond (eq_by_cmp nat_cmp q e.0) (Some (f e.1))) (find_shown f q es)

module _ (m : Messages) (t : ℕ) (numbers : FinMap nat_cmp ℕ) where
  abbrev es : List (ℕ × ℕ)
  es = finite.entries numbers

  sorted : T (is_sorted nat_cmp (shown (rows_at m t) es))
  sorted = subst T (sym (sorted_shown (rows_at m t) es)) (finite.entries_sorted numbers)

  pub entries_copies : finite.entries (copies m t es) ≡ shown (rows_at m t) es
  entries_copies =
      ap finite.entries (finite.same_map nat_cmp_total nat_cmp-IsAntisymmetric (copies m t es) (finite.from_sorted (shown (rows_at m t) es)) (λ q.
      get-copies m t es q ∙ find_shown (rows_at m t) q es ∙ sym (finite.get-from_sorted nat_cmp (shown (rows_at m t) es) q sorted)))
      ∙ finite.entries-from_sorted nat_cmp (shown (rows_at m t) es) sorted

  firsts : (xs : List (ℕ × ℕ)) → map (λ (e : ℕ × Rows). e.0) (shown (rows_at m t) xs) ≡ map (λ (e : ℕ × ℕ). e.0) xs
  firsts [] = refl
  firsts (x ∷ xs) = ap (λ l. x.0 ∷ l) (firsts xs)

  seconds : (xs : List (ℕ × ℕ)) → map (λ (e : ℕ × Rows). e.1) (shown (rows_at m t) xs) ≡ map (rows_at m t) (map (λ (e : ℕ × ℕ). e.1) xs)
  seconds [] = refl
  seconds (x ∷ xs) = ap (λ l. rows_at m t x.1 ∷ l) (seconds xs)

  -- the same ids, with the rows at their numbers
  pub keys_copies : finite.keys (copies m t es) ≡ finite.keys numbers
  keys_copies = ap (map (λ (e : ℕ × Rows). e.0)) entries_copies ∙ firsts es

  pub values_copies : finite.values (copies m t es) ≡ map (rows_at m t) (finite.values numbers)
  values_copies = ap (map (λ (e : ℕ × Rows). e.1)) entries_copies ∙ seconds es

  pub len_copies : finite.len (copies m t es) ≡ finite.len numbers
  len_copies = finite.len-entries (copies m t es) ∙ ap length entries_copies ∙ length-map es (λ (e : ℕ × ℕ). (e.0, rows_at m t e.1)) ∙ sym (finite.len-entries numbers)

-- what holds of each number that is there holds of all
pub all_from : (P : ℕ → Type 0) (ns : List ℕ) → ((n : ℕ) → Contains ns n → P n) → AllByRecursion P ns
all_from P [] each = tt
all_from P (n ∷ ns) each = (each n (contains_first n ns), all_from P ns (λ m c. each m (suc c.0, (let l = c.1 in omega (arith, l)), c.2)))
