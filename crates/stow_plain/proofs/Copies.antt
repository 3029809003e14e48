-- A list of copies with rising ids, as a map.
use Rattle.std.proofs.Common.{◌≡◌, ◌≢◌, ℕ, ◌+◌, ◌<◌, Bool, true, false, List, [], ◌∷◌, ◌++◌, length, Option, Some, None, refl, ap, ◌∙◌, sym, subst, arith, cond, ⊎_elim, map as each}
use Rattle.std.specs.Prelude.{T, filter, not, ◌&&◌, ◌==◌}
use Rattle.std.specs.List.{flat_map, AllByRecursion}
use Rattle.std.specs.declared.cmp.Ordering.{Ordering}
use Rattle.std.specs.declared.cmp.Ordering.TheVariants.{Less, Equal, Greater}
use Rattle.std.specs.Ordering.{nat_cmp, is_eq, is_lt, eq_by_cmp}
use Rattle.std.specs.Cmp.{nat_cmp_total, nat_cmp_is}
use Rattle.std.proofs.lemmas.Cmp.{eq_by_cmp_equiv}
use Rattle.std.specs.FinMap.{FinMap, find, put, is_sorted}
use Rattle.std.specs.FinMap.Entries.{by_order, below_all, where_key, find-where_key, is_sorted-where_key}
use Rattle.std.specs.FinMap as map
use Rattle.std.proofs.lemmas.Bool.{cases_eq, eq-eqb, eqb-true, cases_Bool}
use Rattle.std.proofs.lemmas.List.{length-map}
use Rattle.stow_model.specs.Store.{Rows}
use Rattle.stow_plain.specs.declared.plain_snapshot.PlainSnapshot.{PlainSnapshot}
use Rattle.stow_plain.specs.Contents.{pairs_of, snapshots_of, shown_in}

t_of : (b : Bool) → b ≡ true → T b
t_of b e = subst T (sym e) tt

of_t : (b : Bool) → T b → b ≡ true
of_t true h = refl
of_t false h = absurd h

and_first : (a b : Bool) → (a && b) ≡ true → a ≡ true
and_first true b e = refl
and_first false b e = e

and_second : (a b : Bool) → (a && b) ≡ true → b ≡ true
and_second true b e = e
and_second false b e = absurd (subst T (sym e) tt)

and_both : (a b : Bool) → a ≡ true → b ≡ true → (a && b) ≡ true
and_both a b p q = ap (λ x. x && b) p ∙ q

below_is : (x y : ℕ) → x < y → nat_cmp x y ≡ Less
below_is x y l = sym (nat_cmp_is x y Less l)

above_is : (x y : ℕ) → y < x → nat_cmp x y ≡ Greater
above_is x y l = sym (nat_cmp_is x y Greater l)

-- numbers are the same just where the order ties them
tied : (x q : ℕ) → (x == q) ≡ eq_by_cmp nat_cmp q x
tied x q = ⊎_elim
    (λ (e : x ≡ q). eq-eqb x q e ∙ sym (ap is_eq (sym (nat_cmp_is q x Equal (sym e)))))
    (λ (ne : x ≢ q). ⊎_elim
    (λ (t : (x == q) ≡ true). absurd (ne (eqb-true x q t)))
    (λ (f : (x == q) ≡ false). f ∙ sym (not_tied q x (λ e. ne (sym e))))
    (cases_Bool (x == q)))
    (cases_eq x q)
  where
    not_tied : (a b : ℕ) → a ≢ b → eq_by_cmp nat_cmp a b ≡ false
    not_tied a b ne = ⊎_elim
        (λ (t : eq_by_cmp nat_cmp a b ≡ true). absurd (ne (map.nat_cmp-IsAntisymmetric a b (equal (nat_cmp a b) t))))
        (λ (f : eq_by_cmp nat_cmp a b ≡ false). f)
        (cases_Bool (eq_by_cmp nat_cmp a b))
      where
        equal : (o : Ordering) → is_eq o ≡ true → o ≡ Equal
        equal Less e = cc
        equal Equal e = refl
        equal Greater e = cc

-- the entries of a map without a key
entries-remove : {X : Type 0} (m : FinMap nat_cmp X) (q : ℕ) → map.entries (map.remove m q) ≡ where_key nat_cmp (λ y. not (eq_by_cmp nat_cmp q y)) (map.entries m)
entries-remove {X} m q =
    let kept = where_key nat_cmp (λ y. not (eq_by_cmp nat_cmp q y)) (map.entries m) in
    let sorted : T (is_sorted nat_cmp kept) = is_sorted-where_key nat_cmp (λ y. not (eq_by_cmp nat_cmp q y)) (map.entries m) (map.entries_sorted m) in
    let same : map.remove m q ≡ map.from_sorted kept = map.same_map nat_cmp_total map.nat_cmp-IsAntisymmetric _ _ (λ k.
    map.get-remove nat_cmp_total m q k ∙ turned (eq_by_cmp nat_cmp k q) (eq_by_cmp nat_cmp q k) (map.get m k) ((eq_by_cmp_equiv nat_cmp_total).symm k q)
    ∙ sym (map.get-from_sorted nat_cmp kept k sorted
    ∙ find-where_key nat_cmp (λ y. not (eq_by_cmp nat_cmp q y)) k (λ x e. ap (λ y. not (eq_by_cmp nat_cmp q y)) (sym (map.nat_cmp-IsAntisymmetric k x e))) (map.entries m)
    ∙ ap (λ o. cond (not (eq_by_cmp nat_cmp q k)) o None) (sym (map.get-entries m k)))) in
    ap map.entries same ∙ map.entries-from_sorted nat_cmp kept sorted
  where
    reversed : {X : Type 0} (b : Bool) (o : Option X) → cond b None o ≡ cond (not b) o None
    reversed true o = refl
    reversed false o = refl

    turned : {X : Type 0} (a b : Bool) (o : Option X) → a ≡ b → cond a None o ≡ cond (not b) o None
    turned a b o e = ap (λ c. cond c None o) e ∙ reversed b o

module _ {A : Type 0} where
  module _ (copies : List (PlainSnapshot A)) (rise : is_sorted nat_cmp (pairs_of copies) ≡ true) where
    pub entries_of : map.entries (snapshots_of copies) ≡ pairs_of copies
    entries_of = map.entries-from_sorted nat_cmp (pairs_of copies) (t_of _ rise)

    pub len_of : map.len (snapshots_of copies) ≡ length copies
    len_of = map.len-entries (snapshots_of copies) ∙ ap length entries_of ∙ length-map copies (λ copy. (copy.id, copy.rows))

    pub get_of : (q : ℕ) → map.get (snapshots_of copies) q ≡ find nat_cmp q (pairs_of copies)
    get_of q = map.get-from_sorted nat_cmp (pairs_of copies) q (t_of _ rise)

  pub keys_of_pairs : {X : Type 0} (f : ℕ → X) (copies : List (PlainSnapshot A)) → each f (each (λ (p : ℕ × Rows). p.0) (pairs_of copies)) ≡ each (λ copy. f copy.id) copies
  keys_of_pairs f [] = refl
  keys_of_pairs f (c ∷ copies) = ap (λ t. f c.id ∷ t) (keys_of_pairs f copies)

  -- all that the copies show is what the map's values show
  shown_values : (copies : List (PlainSnapshot A)) → flat_map map.entries (each (λ (p : ℕ × Rows). p.1) (pairs_of copies)) ≡ shown_in copies
  shown_values [] = refl
  shown_values (c ∷ copies) = ap (λ t. map.entries c.rows ++ t) (shown_values copies)

  pub shown_of : (copies : List (PlainSnapshot A)) → is_sorted nat_cmp (pairs_of copies) ≡ true → flat_map map.entries (map.values (snapshots_of copies)) ≡ shown_in copies
  shown_of copies rise = ap (λ es. flat_map map.entries (each (λ (p : ℕ × Rows). p.1) es)) (entries_of copies rise) ∙ shown_values copies

  -- the first copy of an id is told
  pub find_here : (copy : PlainSnapshot A) (later : List (PlainSnapshot A)) (q : ℕ) → (copy.id == q) ≡ true → find nat_cmp q (pairs_of (copy ∷ later)) ≡ Some copy.rows
  find_here copy later q t = ap (λ b. cond b (Some copy.rows) (find nat_cmp q (pairs_of later))) (sym (tied copy.id q) ∙ t)

  pub find_later : (copy : PlainSnapshot A) (later : List (PlainSnapshot A)) (q : ℕ) → (copy.id == q) ≡ false → find nat_cmp q (pairs_of (copy ∷ later)) ≡ find nat_cmp q (pairs_of later)
  find_later copy later q f = ap (λ b. cond b (Some copy.rows) (find nat_cmp q (pairs_of later))) (sym (tied copy.id q) ∙ f)

  -- ---- a copy more, above the others

  below_push : (x : ℕ) (copies : List (PlainSnapshot A)) (s : PlainSnapshot A) → below_all nat_cmp x (pairs_of copies) ≡ true → x < s.id → below_all nat_cmp x (pairs_of (copies ++ s ∷ [])) ≡ true
  below_push x [] s h l = and_both _ _ (ap is_lt (below_is x s.id l)) refl
  below_push x (c ∷ copies) s h l =
      and_both (is_lt (nat_cmp x c.id)) (below_all nat_cmp x (pairs_of (copies ++ s ∷ [])))
      (and_first (is_lt (nat_cmp x c.id)) (below_all nat_cmp x (pairs_of copies)) h)
      (below_push x copies s (and_second (is_lt (nat_cmp x c.id)) (below_all nat_cmp x (pairs_of copies)) h) l)

  pub rise_push : (copies : List (PlainSnapshot A)) (s : PlainSnapshot A) → is_sorted nat_cmp (pairs_of copies) ≡ true → AllByRecursion (λ copy. copy.id < s.id) copies → is_sorted nat_cmp (pairs_of (copies ++ s ∷ [])) ≡ true
  rise_push [] s rise below = refl
  rise_push (c ∷ copies) s rise (l, below) =
      and_both (below_all nat_cmp c.id (pairs_of (copies ++ s ∷ []))) (is_sorted nat_cmp (pairs_of (copies ++ s ∷ [])))
      (below_push c.id copies s (and_first (below_all nat_cmp c.id (pairs_of copies)) (is_sorted nat_cmp (pairs_of copies)) rise) l)
      (rise_push copies s (and_second (below_all nat_cmp c.id (pairs_of copies)) (is_sorted nat_cmp (pairs_of copies)) rise) below)

  put_push : (copies : List (PlainSnapshot A)) (s : PlainSnapshot A) → AllByRecursion (λ copy. copy.id < s.id) copies → put nat_cmp s.id s.rows (pairs_of copies) ≡ pairs_of (copies ++ s ∷ [])
  put_push [] s below = refl
  put_push (c ∷ copies) s (l, below) =
      ap (λ r. by_order r ((s.id, s.rows) ∷ (c.id, c.rows) ∷ pairs_of copies) ((c.id, s.rows) ∷ pairs_of copies) ((c.id, c.rows) ∷ put nat_cmp s.id s.rows (pairs_of copies))) (above_is s.id c.id l)
      ∙ ap (λ es. (c.id, c.rows) ∷ es) (put_push copies s below)

  pub insert_push : (copies : List (PlainSnapshot A)) (s : PlainSnapshot A) → is_sorted nat_cmp (pairs_of copies) ≡ true → AllByRecursion (λ copy. copy.id < s.id) copies → snapshots_of (copies ++ s ∷ []) ≡ map.insert (snapshots_of copies) s.id s.rows
  insert_push copies s rise below = map.same_entries_map _ _
      (entries_of (copies ++ s ∷ []) (rise_push copies s rise below)
      ∙ sym (put_push copies s below)
      ∙ ap (put nat_cmp s.id s.rows) (sym (entries_of copies rise))
      ∙ sym (map.entries-insert nat_cmp_total (snapshots_of copies) s.id s.rows))

  pub all_push : (copies : List (PlainSnapshot A)) (s : PlainSnapshot A) → AllByRecursion (λ copy. copy.id < s.id) copies → AllByRecursion (λ copy. copy.id < s.id + 1) (copies ++ s ∷ [])
  all_push [] s below = (omega arith, tt)
  all_push (c ∷ copies) s (l, below) = (omega arith, all_push copies s below)

  find_above : (copies : List (PlainSnapshot A)) (q : ℕ) → AllByRecursion (λ copy. copy.id < q) copies → find nat_cmp q (pairs_of copies) ≡ None
  find_above [] q below = refl
  find_above (c ∷ copies) q (l, below) = ap (λ o. cond (is_eq o) (Some c.rows) (find nat_cmp q (pairs_of copies))) (above_is q c.id l) ∙ find_above copies q below

  -- an id above all others is new
  pub new_id : (copies : List (PlainSnapshot A)) (q : ℕ) → is_sorted nat_cmp (pairs_of copies) ≡ true → AllByRecursion (λ copy. copy.id < q) copies → map.get (snapshots_of copies) q ≡ None
  new_id copies q rise below = get_of copies rise q ∙ find_above copies q below

  -- ---- a copy fewer

  pairs-filter : (copies : List (PlainSnapshot A)) (q : ℕ) → pairs_of (filter (λ copy. not (copy.id == q)) copies) ≡ where_key nat_cmp (λ y. not (eq_by_cmp nat_cmp q y)) (pairs_of copies)
  pairs-filter [] q = refl
  pairs-filter (c ∷ copies) q =
      let left = filter (λ copy. not (copy.id == q)) copies in
      chosen (not (c.id == q)) c left
      ∙ (λ i. cond (not (tied c.id q i)) ((c.id, c.rows) ∷ pairs-filter copies q i) (pairs-filter copies q i))
    where
      chosen : (b : Bool) (c : PlainSnapshot A) (left : List (PlainSnapshot A)) → pairs_of (cond b (c ∷ left) left) ≡ cond b ((c.id, c.rows) ∷ pairs_of left) (pairs_of left)
      chosen true c left = refl
      chosen false c left = refl

  pub rise_filter : (copies : List (PlainSnapshot A)) (q : ℕ) → is_sorted nat_cmp (pairs_of copies) ≡ true → is_sorted nat_cmp (pairs_of (filter (λ copy. not (copy.id == q)) copies)) ≡ true
  rise_filter copies q rise = ap (is_sorted nat_cmp) (pairs-filter copies q) ∙ of_t _ (is_sorted-where_key nat_cmp (λ y. not (eq_by_cmp nat_cmp q y)) (pairs_of copies) (t_of _ rise))

  pub all_filter : (copies : List (PlainSnapshot A)) (q next : ℕ) → AllByRecursion (λ copy. copy.id < next) copies → AllByRecursion (λ copy. copy.id < next) (filter (λ copy. not (copy.id == q)) copies)
  all_filter [] q next below = tt
  all_filter (c ∷ copies) q next (l, below) =
      let left = filter (λ copy. not (copy.id == q)) copies in
      elim (not (c.id == q)) as (λ b. AllByRecursion (λ copy. copy.id < next) (cond b (c ∷ left) left)) [
        | true ↦ (l, all_filter copies q next below)
        | false ↦ all_filter copies q next below
      ]

  pub remove_filter : (copies : List (PlainSnapshot A)) (q : ℕ) → is_sorted nat_cmp (pairs_of copies) ≡ true → snapshots_of (filter (λ copy. not (copy.id == q)) copies) ≡ map.remove (snapshots_of copies) q
  remove_filter copies q rise = map.same_entries_map _ _
      (entries_of (filter (λ copy. not (copy.id == q)) copies) (rise_filter copies q rise)
      ∙ pairs-filter copies q
      ∙ ap (where_key nat_cmp (λ y. not (eq_by_cmp nat_cmp q y))) (sym (entries_of copies rise))
      ∙ sym (entries-remove (snapshots_of copies) q))
