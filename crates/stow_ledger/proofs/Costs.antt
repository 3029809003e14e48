-- What versions cost depends on which they are, not on their order or how often they stand there.
use Rattle.std.proofs.Common.{◌≡◌, ℕ, ◌+◌, Bool, true, false, List, [], ◌∷◌, ◌++◌, refl, ap, ◌∙◌, sym, subst, arith, ⊎_elim, cond, eqb}
use Rattle.std.specs.Prelude.{T, filter, not, sum_by, ◌&&◌, ◌||◌}
use Rattle.std.specs.Str.{bytes_eq}
use Rattle.std.proofs.lemmas.Bool.{cases_Bool, eqb-true, eq-eqb, cond-true, cond-false}
use Rattle.std.proofs.lemmas.Slice.Eq.{bytes_eq-Decides as bytes_decides}
use Rattle.std.proofs.lemmas.List.Folds.{list_any-append}
use Rattle.std.proofs.lemmas.List.Sums.{sum_by-append, sum_by-cons}
use Rattle.stow_state.specs.StowModel.Store.{Shown, cost, is_same_version, distinct}
use Rattle.stow_ledger.specs.Shown.{is_in, cost_of_all, CostByMembers}

-- ---- tests

and_first : (a b : Bool) → (a && b) ≡ true → a ≡ true
and_first true b e = refl
and_first false b e = e

and_second : (a b : Bool) → (a && b) ≡ true → b ≡ true
and_second true b e = e
and_second false b e = absurd (subst T (sym e) tt)

and_both : (a b : Bool) → a ≡ true → b ≡ true → (a && b) ≡ true
and_both a b p q = ap (λ x. x && b) p ∙ q

and_false : (b : Bool) → (b && false) ≡ false
and_false true = refl
and_false false = refl

and_true : (b : Bool) → (b && true) ≡ b
and_true true = refl
and_true false = refl

or_true : (b : Bool) → (b || true) ≡ true
or_true true = refl
or_true false = refl

pub or_false : (b : Bool) → (b || false) ≡ b
or_false true = refl
or_false false = refl

or_first : (a b : Bool) → (a || b) ≡ false → a ≡ false
or_first true b e = e
or_first false b e = refl

or_second : (a b : Bool) → (a || b) ≡ false → b ≡ false
or_second true b e = absurd (subst T e tt)
or_second false b e = e

pub contra : (b : Bool) → b ≡ true → b ≡ false → ⊥
contra b t f = subst T (sym t ∙ f) tt

-- ---- the same version

pub same_refl : (a : Shown) → is_same_version a a ≡ true
same_refl a = and_both (bytes_eq a.0 a.0) _ ((bytes_decides a.0 a.0).1 refl)
    (and_both (eqb a.1.number a.1.number) _ (eq-eqb a.1.number a.1.number refl) ((bytes_decides a.1.value a.1.value).1 refl))

pub same_is : (a b : Shown) → is_same_version a b ≡ true → a ≡ b
same_is a b h =
    let rest = and_second (bytes_eq a.0 b.0) (eqb a.1.number b.1.number && bytes_eq a.1.value b.1.value) h in
    let key : a.0 ≡ b.0 = (bytes_decides a.0 b.0).0 (and_first (bytes_eq a.0 b.0) (eqb a.1.number b.1.number && bytes_eq a.1.value b.1.value) h) in
    let number : a.1.number ≡ b.1.number = eqb-true a.1.number b.1.number (and_first (eqb a.1.number b.1.number) (bytes_eq a.1.value b.1.value) rest) in
    let value : a.1.value ≡ b.1.value = (bytes_decides a.1.value b.1.value).0 (and_second (eqb a.1.number b.1.number) (bytes_eq a.1.value b.1.value) rest) in
    λ i. (key i, record { number = number i; value = value i })

pub same_turned : (a b : Shown) → is_same_version a b ≡ is_same_version b a
same_turned a b = ⊎_elim
    (λ (t : is_same_version a b ≡ true). let e : a ≡ b = same_is a b t in t ∙ sym (subst (λ c. is_same_version c a ≡ true) e (same_refl a)))
    (λ (f : is_same_version a b ≡ false). ⊎_elim
    (λ (t : is_same_version b a ≡ true). let e : b ≡ a = same_is b a t in absurd (contra (is_same_version a b) (subst (λ c. is_same_version c b ≡ true) e (same_refl b)) f))
    (λ (g : is_same_version b a ≡ false). f ∙ sym g)
    (cases_Bool (is_same_version b a)))
    (cases_Bool (is_same_version a b))

-- the same version is in the same lists
in_same : (a b : Shown) (xs : List Shown) → is_same_version a b ≡ true → is_in a xs ≡ is_in b xs
in_same a b xs h = ap (λ c. is_in c xs) (same_is a b h)

-- ---- lists without repetition

abbrev pub Once : List Shown → Type 0
Once [] = Unit {0}
Once (x ∷ xs) = (is_in x xs ≡ false) × Once xs

pub in_distinct : (v : Shown) (xs : List Shown) → is_in v (distinct xs) ≡ is_in v xs
in_distinct v [] = refl
in_distinct v (x ∷ xs) = ⊎_elim
    (λ (t : is_in x xs ≡ true).
    ap (λ b. is_in v (cond b (distinct xs) (x ∷ distinct xs))) t ∙ in_distinct v xs ∙ ⊎_elim
    (λ (s : is_same_version v x ≡ true). in_same v x xs s ∙ t ∙ sym (ap (λ b. b || is_in v xs) s))
    (λ (d : is_same_version v x ≡ false). sym (ap (λ b. b || is_in v xs) d))
    (cases_Bool (is_same_version v x)))
    (λ (f : is_in x xs ≡ false).
    ap (λ b. is_in v (cond b (distinct xs) (x ∷ distinct xs))) f ∙ ap (λ b. is_same_version v x || b) (in_distinct v xs))
    (cases_Bool (is_in x xs))

pub once_distinct : (xs : List Shown) → Once (distinct xs)
once_distinct [] = tt
once_distinct (x ∷ xs) = ⊎_elim
    (λ (t : is_in x xs ≡ true). subst Once (sym (cond-true (is_in x xs) (distinct xs) (x ∷ distinct xs) t)) (once_distinct xs))
    (λ (f : is_in x xs ≡ false). subst Once (sym (cond-false (is_in x xs) (distinct xs) (x ∷ distinct xs) f)) (in_distinct x xs ∙ f, once_distinct xs))
    (cases_Bool (is_in x xs))

-- what has no repetition is left as it is
pub distinct_once : (xs : List Shown) → Once xs → distinct xs ≡ xs
distinct_once [] h = refl
distinct_once (x ∷ xs) (n, h) = cond-false (is_in x xs) (distinct xs) (x ∷ distinct xs) n ∙ ap (λ ys. x ∷ ys) (distinct_once xs h)

abbrev without : Shown → List Shown → List Shown
without v xs = filter (λ w. not (is_same_version v w)) xs

in_without : (v w : Shown) (xs : List Shown) → is_in w (without v xs) ≡ (is_in w xs && not (is_same_version v w))
in_without v w [] = refl
in_without v w (x ∷ xs) = ⊎_elim
    (λ (t : is_same_version v x ≡ true).
    ap (λ b. is_in w (cond (not b) (x ∷ without v xs) (without v xs))) t ∙ in_without v w xs ∙ ⊎_elim
    (λ (s : is_same_version w x ≡ true).
    let e : x ≡ w = sym (same_is w x s) in
    let gone : is_same_version v w ≡ true = subst (λ c. is_same_version v c ≡ true) e t in
    ap (λ b. is_in w xs && not b) gone ∙ and_false (is_in w xs) ∙ sym (ap (λ b. (is_same_version w x || is_in w xs) && not b) gone ∙ and_false (is_same_version w x || is_in w xs)))
    (λ (d : is_same_version w x ≡ false). sym (ap (λ b. (b || is_in w xs) && not (is_same_version v w)) d))
    (cases_Bool (is_same_version w x)))
    (λ (f : is_same_version v x ≡ false).
    ap (λ b. is_in w (cond (not b) (x ∷ without v xs) (without v xs))) f ∙ ap (λ b. is_same_version w x || b) (in_without v w xs) ∙ ⊎_elim
    (λ (s : is_same_version w x ≡ true).
    let e : x ≡ w = sym (same_is w x s) in
    let stays : is_same_version v w ≡ false = subst (λ c. is_same_version v c ≡ false) e f in
    ap (λ b. b || (is_in w xs && not (is_same_version v w))) s ∙ sym (ap (λ b. (b || is_in w xs) && not (is_same_version v w)) s ∙ ap not stays))
    (λ (d : is_same_version w x ≡ false). ap (λ b. b || (is_in w xs && not (is_same_version v w))) d ∙ sym (ap (λ b. (b || is_in w xs) && not (is_same_version v w)) d))
    (cases_Bool (is_same_version w x)))
    (cases_Bool (is_same_version v x))

once_without : (v : Shown) (xs : List Shown) → Once xs → Once (without v xs)
once_without v [] h = tt
once_without v (x ∷ xs) (n, h) = ⊎_elim
    (λ (t : is_same_version v x ≡ true). subst Once (sym (cond-false (not (is_same_version v x)) (x ∷ without v xs) (without v xs) (ap not t))) (once_without v xs h))
    (λ (f : is_same_version v x ≡ false). subst Once (sym (cond-true (not (is_same_version v x)) (x ∷ without v xs) (without v xs) (ap not f)))
    (in_without v x xs ∙ ap (λ b. b && not (is_same_version v x)) n, once_without v xs h))
    (cases_Bool (is_same_version v x))

without_absent : (v : Shown) (xs : List Shown) → is_in v xs ≡ false → without v xs ≡ xs
without_absent v [] h = refl
without_absent v (x ∷ xs) h =
    cond-true (not (is_same_version v x)) (x ∷ without v xs) (without v xs) (ap not (or_first (is_same_version v x) (is_in v xs) h))
    ∙ ap (λ ys. x ∷ ys) (without_absent v xs (or_second (is_same_version v x) (is_in v xs) h))

-- a version that is there costs what the others leave
sum-without : (v : Shown) (xs : List Shown) → Once xs → is_in v xs ≡ true → sum_by cost xs ≡ cost v + sum_by cost (without v xs)
sum-without v [] h t = absurd (contra false t refl)
sum-without v (x ∷ xs) (n, h) t = ⊎_elim
    (λ (s : is_same_version v x ≡ true).
    let e : v ≡ x = same_is v x s in
    let absent : is_in v xs ≡ false = ap (λ c. is_in c xs) e ∙ n in
    sum_by-cons cost x xs ∙ ap (λ c. cost c + sum_by cost xs) (sym e)
    ∙ ap (λ ys. cost v + sum_by cost ys) (sym (cond-false (not (is_same_version v x)) (x ∷ without v xs) (without v xs) (ap not s) ∙ without_absent v xs absent)))
    (λ (d : is_same_version v x ≡ false).
    let there : is_in v xs ≡ true = ap (λ b. b || is_in v xs) (sym d) ∙ t in
    let rest = sum-without v xs h there in
    let left : sum_by cost (without v (x ∷ xs)) ≡ cost x + sum_by cost (without v xs) = ap (sum_by cost) (cond-true (not (is_same_version v x)) (x ∷ without v xs) (without v xs) (ap not d)) ∙ sum_by-cons cost x (without v xs) in
    let whole = sum_by-cons cost x xs in
    whole ∙ ap (λ n. cost x + n) rest ∙ swapped (cost x) (cost v) (sum_by cost (without v xs)) ∙ ap (λ n. cost v + n) (sym left))
    (cases_Bool (is_same_version v x))
  where
    swapped : (a b c : ℕ) → a + (b + c) ≡ b + (a + c)
    swapped a b c = omega arith

-- lists without repetition that have the same members cost the same
pub sum_members : (xs ys : List Shown) → Once xs → Once ys → ((v : Shown) → is_in v xs ≡ is_in v ys) → sum_by cost xs ≡ sum_by cost ys
sum_members [] [] h k same = refl
sum_members [] (y ∷ ys) h k same = absurd (contra (is_in y (y ∷ ys)) (ap (λ b. b || is_in y ys) (same_refl y)) (sym (same y)))
sum_members (x ∷ xs) ys (n, h) k same =
    let there : is_in x ys ≡ true = sym (same x) ∙ ap (λ b. b || is_in x xs) (same_refl x) in
    let rest = sum_members xs (without x ys) h (once_without x ys k) (λ v. left x xs ys n same v ∙ sym (in_without x v ys)) in
    sum_by-cons cost x xs ∙ ap (λ n. cost x + n) rest ∙ sym (sum-without x ys k there)
  where
    left : (x : Shown) (xs ys : List Shown) → is_in x xs ≡ false → ((v : Shown) → is_in v (x ∷ xs) ≡ is_in v ys) → (v : Shown) → is_in v xs ≡ (is_in v ys && not (is_same_version x v))
    left x xs ys n same v = ⊎_elim
        (λ (s : is_same_version x v ≡ true). sym (in_same x v xs s) ∙ n ∙ sym (ap (λ b. is_in v ys && not b) s ∙ and_false (is_in v ys)))
        (λ (d : is_same_version x v ≡ false).
        ap (λ b. b || is_in v xs) (sym (same_turned v x ∙ d)) ∙ same v ∙ sym (ap (λ b. is_in v ys && not b) d ∙ and_true (is_in v ys)))
        (cases_Bool (is_same_version x v))

pub once_append : (xs ys : List Shown) → Once xs → Once ys → ((v : Shown) → is_in v xs ≡ true → is_in v ys ≡ false) → Once (xs ++ ys)
once_append [] ys h k apart = k
once_append (x ∷ xs) ys (n, h) k apart = (
  list_any-append (is_same_version x) xs ys ∙ ap (λ b. b || is_in x ys) n ∙ apart x (ap (λ b. b || is_in x xs) (same_refl x)),
  once_append xs ys h k (λ v t. apart v (ap (λ b. is_same_version v x || b) t ∙ or_true (is_same_version v x))),
)

or_turned : (a b : Bool) → (a || b) ≡ (b || a)
or_turned true b = sym (or_true b)
or_turned false b = sym (or_false b)

pub cost_by_once : (before after freed : List Shown) → Once freed → ((v : Shown) → is_in v before ≡ (is_in v after || is_in v freed)) → ((v : Shown) → is_in v freed ≡ true → is_in v after ≡ false) → cost_of_all before ≡ cost_of_all after + sum_by cost freed
cost_by_once before after freed once members apart =
    sum_members (distinct before) (freed ++ distinct after) (once_distinct before)
    (once_append freed (distinct after) once (once_distinct after) (λ v t. in_distinct v after ∙ apart v t))
    (λ v. in_distinct v before ∙ members v ∙ or_turned (is_in v after) (is_in v freed) ∙ sym (list_any-append (is_same_version v) freed (distinct after) ∙ ap (λ b. is_in v freed || b) (in_distinct v after)))
    ∙ sum_by-append cost freed (distinct after)
    ∙ turned (sum_by cost freed) (sum_by cost (distinct after))
  where
    turned : (a b : ℕ) → a + b ≡ b + a
    turned a b = omega arith

pub cost_by_members_law : CostByMembers
cost_by_members_law before after freed each members apart = cost_by_once before after freed (subst Once each (once_distinct freed)) members apart
