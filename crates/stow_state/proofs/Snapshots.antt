-- Snapshots: their ids with numbers, and with rows.
use Rattle.std.proofs.Common.{option_map, ◌≤◌, subst, zero, ◌≡◌, ◌≢◌, ℕ, suc, Bool, true, false, List, [], ◌∷◌, length, Option, Some, None, is_some, refl, ap, ◌∙◌, sym, arith, ⊎_elim, inl, inr, ◌⊎◌, cond}
use Rattle.std.specs.Prelude.{map, Contains, ◌||◌}
use Rattle.std.specs.declared.cmp.Ordering.{Ordering}
use Rattle.std.specs.declared.cmp.Ordering.TheVariants.{Less, Equal, Greater}
use Rattle.std.specs.Ordering.{nat_cmp, is_eq, eq_by_cmp}
use Rattle.std.specs.Cmp.{nat_cmp_total}
use Rattle.std.specs.Option.{unwrap_or}
use Rattle.std.specs.FinMap as finite
use Rattle.std.specs.FinMap.{FinMap, find, put}
use Rattle.std.proofs.lemmas.List.Elements.{Contains-append_cases}
use Rattle.std.specs.List.{list_any}
use Rattle.std.proofs.lemmas.Bool.{cond-true, cond-false, or_left}
use Rattle.stow_model.specs.Store.{Rows}
use Rattle.stow_tree_model.specs.Messages.{Messages}
use Rattle.stow_state.specs.Rows.{rows_at}
use Rattle.stow_state.specs.State.{TenantState, copies, IdsBelow}
use Rattle.stow_state.specs.Steps.{numbers_of, SnapshotMoves, NumbersMove}

pub contains_first : (x : ℕ) (xs : List ℕ) → Contains (x ∷ xs) x
contains_first x xs = (0, omega arith, refl)

contains_later : (x y : ℕ) (xs : List ℕ) → Contains xs y → Contains (x ∷ xs) y
contains_later x y xs (k, l, e) = (suc k, omega arith, e)

-- the copies are the same where the rows are at each number
pub copies_same : (l m : Messages) (tenant : ℕ) (es : List (ℕ × ℕ)) → ((n : ℕ) → Contains (map (λ e. e.1) es) n → rows_at l tenant n ≡ rows_at m tenant n) → copies l tenant es ≡ copies m tenant es
copies_same l m tenant [] h = refl
copies_same l m tenant (s ∷ es) h = λ i. finite.insert (copies_same l m tenant es (λ n c. h n (contains_later s.1 n (map (λ e. e.1) es) c)) i) s.0 (h s.1 (contains_first s.1 (map (λ e. e.1) es)) i)

-- ---- ids

order_cases : (r : Ordering) → ((r ≡ Equal) × (is_eq r ≡ true)) ⊎ ((r ≢ Equal) × (is_eq r ≡ false))
order_cases Less = inr (λ e. cc, refl)
order_cases Equal = inl (refl, refl)
order_cases Greater = inr (λ e. cc, refl)

pub id_cases : (a b : ℕ) → ((a ≡ b) × (eq_by_cmp nat_cmp a b ≡ true)) ⊎ (eq_by_cmp nat_cmp a b ≡ false)
id_cases a b = ⊎_elim
    (λ (h : (nat_cmp a b ≡ Equal) × (is_eq (nat_cmp a b) ≡ true)). inl (finite.nat_cmp-IsAntisymmetric a b h.0, h.1))
    (λ (h : (nat_cmp a b ≢ Equal) × (is_eq (nat_cmp a b) ≡ false)). inr h.1)
    (order_cases (nat_cmp a b))

either : {X Y : Type 0} (b : Bool) (x : X) (y : Y) (o : Option X) (p : Option Y) → is_some o ≡ is_some p → is_some (cond b (Some x) o) ≡ is_some (cond b (Some y) p)
either true x y o p e = refl
either false x y o p e = e

is_some-copies : (m : Messages) (tenant : ℕ) (es : List (ℕ × ℕ)) (id : ℕ) → is_some (finite.get (copies m tenant es) id) ≡ is_some (find nat_cmp id es)
is_some-copies m tenant [] id = ap (λ (o : Option Rows). is_some o) (finite.get-empty nat_cmp id)
is_some-copies m tenant (s ∷ es) id =
    ap (λ (o : Option Rows). is_some o) (finite.get-insert nat_cmp_total (copies m tenant es) s.0 (rows_at m tenant s.1) id)
    ∙ either (eq_by_cmp nat_cmp id s.0) (rows_at m tenant s.1) s.1 (finite.get (copies m tenant es) id) (find nat_cmp id es) (is_some-copies m tenant es id)

pub get-numbers_of : (own : TenantState) (ids : List ℕ) (q : ℕ) → finite.get (numbers_of own ids) q ≡ cond (list_any (eq_by_cmp nat_cmp q) ids) (Some (unwrap_or (finite.get own.snapshots q) own.last)) None
get-numbers_of own [] q = finite.get-empty nat_cmp q
get-numbers_of own (id ∷ ids) q =
    finite.get-insert nat_cmp_total (numbers_of own ids) id (unwrap_or (finite.get own.snapshots id) own.last) q
    ∙ ⊎_elim
    (λ (h : (q ≡ id) × (eq_by_cmp nat_cmp q id ≡ true)).
    cond-true _ _ _ h.1
    ∙ ap (λ x. Some (unwrap_or (finite.get own.snapshots x) own.last)) (sym h.0)
    ∙ sym (cond-true _ _ _ (or_left (eq_by_cmp nat_cmp q id) (list_any (eq_by_cmp nat_cmp q) ids) h.1)))
    (λ (h : eq_by_cmp nat_cmp q id ≡ false).
    cond-false _ _ _ h ∙ get-numbers_of own ids q
    ∙ sym (ap (λ b. cond (b || list_any (eq_by_cmp nat_cmp q) ids) (Some (unwrap_or (finite.get own.snapshots q) own.last)) None) h))
    (id_cases q id)

as_before : (o : Option ℕ) (d : ℕ) → cond (is_some o) (Some (unwrap_or o d)) None ≡ o
as_before None d = refl
as_before (Some n) d = refl

-- the snapshots that were there have the numbers that they had
pub numbers_stay : (m : Messages) (tenant : ℕ) (own : TenantState) → numbers_of own (finite.keys (copies m tenant (finite.entries own.snapshots))) ≡ own.snapshots
numbers_stay m tenant own = finite.same_map nat_cmp_total finite.nat_cmp-IsAntisymmetric _ _ (λ q.
    get-numbers_of own (finite.keys (copies m tenant (finite.entries own.snapshots))) q
    ∙ ap (λ b. cond b (Some (unwrap_or (finite.get own.snapshots q) own.last)) None)
    (sym (finite.contains_key-keys (copies m tenant (finite.entries own.snapshots)) q) ∙ is_some-copies m tenant (finite.entries own.snapshots) q ∙ ap (λ (o : Option ℕ). is_some o) (sym (finite.get-entries own.snapshots q)))
    ∙ as_before (finite.get own.snapshots q) own.last)

nothing : {X : Type 0} (es : List X) → length es ≡ 0 → es ≡ []
nothing [] e = refl
nothing (x ∷ es) e = absurd (omega arith)

pub no_entries : {K : Type 0} (R : K → K → Ordering) (X : Type 0) → finite.entries (finite.empty {X = X} {R = R}) ≡ []
no_entries R X = nothing _ (sym (finite.len-entries (finite.empty {X = X} {R = R})) ∙ finite.len-empty R X)

pub entries-empty : finite.entries (finite.empty {X = ℕ} {R = nat_cmp}) ≡ []
entries-empty = no_entries nat_cmp ℕ

-- ---- look-ups of copies

mapped_choice : {X Y : Type 0} (f : X → Y) (b : Bool) (x : X) (o : Option X) → cond b (Some (f x)) (option_map f o) ≡ option_map f (cond b (Some x) o)
mapped_choice f true x o = refl
mapped_choice f false x o = refl

pub get-copies : (m : Messages) (tenant : ℕ) (es : List (ℕ × ℕ)) (id : ℕ) → finite.get (copies m tenant es) id ≡ option_map (rows_at m tenant) (find nat_cmp id es)
get-copies m tenant [] id = finite.get-empty nat_cmp id
get-copies m tenant (s ∷ es) id =
    finite.get-insert nat_cmp_total (copies m tenant es) s.0 (rows_at m tenant s.1) id
    ∙ ap (cond (eq_by_cmp nat_cmp id s.0) (Some (rows_at m tenant s.1))) (get-copies m tenant es id)
    ∙ mapped_choice (rows_at m tenant) (eq_by_cmp nat_cmp id s.0) s.1 (find nat_cmp id es)

pub get-copies_of : (m : Messages) (tenant : ℕ) (numbers : FinMap nat_cmp ℕ) (id : ℕ) → finite.get (copies m tenant (finite.entries numbers)) id ≡ option_map (rows_at m tenant) (finite.get numbers id)
get-copies_of m tenant numbers id = get-copies m tenant (finite.entries numbers) id ∙ ap (option_map (rows_at m tenant)) (sym (finite.get-entries numbers id))

pub copies_below : (m : Messages) (tenant next : ℕ) (numbers : FinMap nat_cmp ℕ) → IdsBelow next numbers → IdsBelow next (copies m tenant (finite.entries numbers))
copies_below m tenant next numbers new id l = get-copies_of m tenant numbers id ∙ ap (option_map (rows_at m tenant)) (new id l)

-- ---- values

one_value : (x y : ℕ) → Contains (x ∷ []) y → y ≡ x
one_value x y (zero, l, e) = sym e
one_value x y (suc k, l, e) = absurd (omega arith)

first_or_later : (x y : ℕ) (xs : List ℕ) → Contains (x ∷ xs) y → (y ≡ x) ⊎ Contains xs y
first_or_later x y xs c = ⊎_elim (λ (h : Contains (x ∷ []) y). inl (one_value x y h)) (λ (h : Contains xs y). inr h) (Contains-append_cases (x ∷ []) xs y c)

-- what is found is a value
pub found_value : (q n : ℕ) (es : List (ℕ × ℕ)) → find nat_cmp q es ≡ Some n → Contains (map (λ e. e.1) es) n
found_value q n [] e = cc
found_value q n (s ∷ es) e = here (eq_by_cmp nat_cmp q s.0) e (found_value q n es)
  where
    here : (b : Bool) → cond b (Some s.1) (find nat_cmp q es) ≡ Some n → (find nat_cmp q es ≡ Some n → Contains (map (λ e. e.1) es) n) → Contains (s.1 ∷ map (λ e. e.1) es) n
    here true is later = (let same : s.1 ≡ n = cc in subst (λ x. Contains (s.1 ∷ map (λ e. e.1) es) x) same (contains_first s.1 (map (λ e. e.1) es)))
    here false is later = contains_later s.1 n (map (λ e. e.1) es) (later is)

-- the list by where a new key stands to the first, as an insertion takes it
abbrev by_order : {A : Type 0} → Ordering → A → A → A → A
by_order Less a b c = a
by_order Equal a b c = b
by_order Greater a b c = c

values-put : (k v x : ℕ) (es : List (ℕ × ℕ)) → Contains (map (λ e. e.1) (put nat_cmp k v es)) x → (x ≡ v) ⊎ Contains (map (λ e. e.1) es) x
values-put k v x [] c = first_or_later v x [] c
values-put k v x (s ∷ es) c =
    let later : List ℕ = map (λ e. e.1) es in
    elim (nat_cmp k s.0) as (λ r. Contains (map (λ (e : ℕ × ℕ). e.1) (by_order r ((k, v) ∷ s ∷ es) ((s.0, v) ∷ es) (s ∷ put nat_cmp k v es))) x → (x ≡ v) ⊎ Contains (s.1 ∷ later) x) [
      | Less ↦ first_or_later v x (s.1 ∷ later)
      | Equal ↦ λ h. ⊎_elim (λ (g : x ≡ v). inl g) (λ (g : Contains later x). inr (contains_later s.1 x later g)) (first_or_later v x later h)
      | Greater ↦ λ h. ⊎_elim
          (λ (g : x ≡ s.1). inr (subst (λ y. Contains (s.1 ∷ later) y) (sym g) (contains_first s.1 later)))
          (λ (g : Contains (map (λ (e : ℕ × ℕ). e.1) (put nat_cmp k v es)) x). ⊎_elim (λ (i : x ≡ v). inl i) (λ (i : Contains later x). inr (contains_later s.1 x later i)) (values-put k v x es g))
          (first_or_later s.1 x (map (λ (e : ℕ × ℕ). e.1) (put nat_cmp k v es)) h)
    ] c

values-insert : (m : FinMap nat_cmp ℕ) (k v x : ℕ) → Contains (finite.values (finite.insert m k v)) x → (x ≡ v) ⊎ Contains (finite.values m) x
values-insert m k v x c = values-put k v x (finite.entries m) (subst (λ (es : List (ℕ × ℕ)). Contains (map (λ e. e.1) es) x) (finite.entries-insert nat_cmp_total m k v) c)

no_value : (x : ℕ) → Contains [] x → ⊥
no_value x (k, l, e) = absurd (omega arith)

known_or_last : (m : FinMap nat_cmp ℕ) (id d x : ℕ) → x ≡ unwrap_or (finite.get m id) d → (x ≡ d) ⊎ Contains (finite.values m) x
known_or_last m id d x is = at (finite.get m id) refl is
  where
    at : (o : Option ℕ) → finite.get m id ≡ o → x ≡ unwrap_or o d → (x ≡ d) ⊎ Contains (finite.values m) x
    at None e same = inl same
    at (Some n) e same = inr (subst (λ y. Contains (finite.values m) y) (sym same) (found_value id n (finite.entries m) (sym (finite.get-entries m id) ∙ e)))

-- a snapshot's number is one that a snapshot had, or the last write's
pub values-numbers_of : (own : TenantState) (ids : List ℕ) (x : ℕ) → Contains (finite.values (numbers_of own ids)) x → (x ≡ own.last) ⊎ Contains (finite.values own.snapshots) x
values-numbers_of own [] x c = absurd (no_value x (subst (λ (es : List (ℕ × ℕ)). Contains (map (λ e. e.1) es) x) entries-empty c))
values-numbers_of own (id ∷ ids) x c = ⊎_elim
    (λ (h : x ≡ unwrap_or (finite.get own.snapshots id) own.last). known_or_last own.snapshots id own.last x h)
    (λ (h : Contains (finite.values (numbers_of own ids)) x). values-numbers_of own ids x h)
    (values-insert (numbers_of own ids) id (unwrap_or (finite.get own.snapshots id) own.last) x c)

-- ---- snapshots that move

-- an id of a map is one that its look-up finds
get-numbers_of_keys : {X : Type 0} (own : TenantState) (m : FinMap nat_cmp X) (q : ℕ) → finite.get (numbers_of own (finite.keys m)) q ≡ cond (is_some (finite.get m q)) (Some (unwrap_or (finite.get own.snapshots q) own.last)) None
get-numbers_of_keys own m q =
    get-numbers_of own (finite.keys m) q
    ∙ ap (λ b. cond b (Some (unwrap_or (finite.get own.snapshots q) own.last)) None) (sym (finite.contains_key-keys m q))

pub numbers_below : {X : Type 0} (own : TenantState) (m : FinMap nat_cmp X) (next : ℕ) → IdsBelow next m → IdsBelow next (numbers_of own (finite.keys m))
numbers_below own m next new id l =
    get-numbers_of_keys own m id ∙ ap (λ o. cond (is_some o) (Some (unwrap_or (finite.get own.snapshots id) own.last)) None) (new id l)

not_there : {X Y : Type 0} (f : X → Y) (o : Option X) → option_map f o ≡ None → o ≡ None
not_there f None e = refl
not_there f (Some x) e = cc

-- what an id shows by its number, after its snapshot moved
shown_after : (f g : ℕ → Rows) (last : ℕ) (o : Option ℕ) (after : Option Rows) → ((n : ℕ) → o ≡ Some n → g n ≡ f n) → g last ≡ f last → SnapshotMoves (f last) (option_map f o) after → option_map g (cond (is_some after) (Some (unwrap_or o last)) None) ≡ after
shown_after f g last o after same same_last moves = ⊎_elim
    (λ (h : after ≡ None). ap (λ a. option_map g (cond (is_some a) (Some (unwrap_or o last)) None)) h ∙ sym h)
    (λ (h : (after ≡ option_map f o) ⊎ ((option_map f o ≡ None) × (after ≡ Some (f last)))). ⊎_elim
    (λ (k : after ≡ option_map f o). ap (λ a. option_map g (cond (is_some a) (Some (unwrap_or o last)) None)) k ∙ stays o same ∙ sym k)
    (λ (k : (option_map f o ≡ None) × (after ≡ Some (f last))).
    ap (λ a. option_map g (cond (is_some a) (Some (unwrap_or o last)) None)) k.1
    ∙ ap (λ x. option_map g (Some (unwrap_or x last))) (not_there f o k.0)
    ∙ ap Some same_last ∙ sym k.1)
    h)
    moves
  where
    stays : (p : Option ℕ) → ((n : ℕ) → p ≡ Some n → g n ≡ f n) → option_map g (cond (is_some (option_map f p)) (Some (unwrap_or p last)) None) ≡ option_map f p
    stays None s = refl
    stays (Some n) s = ap Some (s n refl)

-- the snapshots of the messages afterwards are those that the move leads to
pub copies_moved : (m l : Messages) (tenant : ℕ) (own : TenantState) (after : FinMap nat_cmp Rows) → ((n : ℕ) → n ≤ own.last → rows_at l tenant n ≡ rows_at m tenant n) → ((n : ℕ) → Contains (finite.values own.snapshots) n → n ≤ own.last)
    → ((id : ℕ) → SnapshotMoves (rows_at m tenant own.last) (finite.get (copies m tenant (finite.entries own.snapshots)) id) (finite.get after id))
    → copies l tenant (finite.entries (numbers_of own (finite.keys after))) ≡ after
copies_moved m l tenant own after same low moves = finite.same_map nat_cmp_total finite.nat_cmp-IsAntisymmetric _ _ (λ q.
    get-copies_of l tenant (numbers_of own (finite.keys after)) q
    ∙ ap (option_map (rows_at l tenant)) (get-numbers_of_keys own after q)
    ∙ shown_after (rows_at m tenant) (rows_at l tenant) own.last (finite.get own.snapshots q) (finite.get after q)
    (λ n e. same n (low n (found_value q n (finite.entries own.snapshots) (sym (finite.get-entries own.snapshots q) ∙ e))))
    (same own.last (omega arith))
    (subst (λ o. SnapshotMoves (rows_at m tenant own.last) o (finite.get after q)) (get-copies_of m tenant own.snapshots q) (moves q)))

-- ---- laws

is_some-mapped : {X Y : Type 0} (f : X → Y) (o : Option X) → is_some (option_map f o) ≡ is_some o
is_some-mapped f None = refl
is_some-mapped f (Some x) = refl

number_of_taken : (own : TenantState) (rows : Rows) (m : Messages) (tenant q : ℕ) → finite.get own.snapshots own.next ≡ None
    → finite.get (numbers_of own (finite.keys (finite.insert (copies m tenant (finite.entries own.snapshots)) own.next rows))) q ≡ finite.get (finite.insert own.snapshots own.next own.last) q
number_of_taken own rows m tenant q new =
    let before = copies m tenant (finite.entries own.snapshots) in
    let told : Option Rows → Option ℕ = λ o. cond (is_some o) (Some (unwrap_or (finite.get own.snapshots q) own.last)) None in
    get-numbers_of_keys own (finite.insert before own.next rows) q
    ∙ ap told (finite.get-insert nat_cmp_total before own.next rows q)
    ∙ ⊎_elim
    (λ (h : (q ≡ own.next) × (eq_by_cmp nat_cmp q own.next ≡ true)).
    ap told (cond-true _ _ _ h.1)
    ∙ ap (λ o. Some (unwrap_or o own.last)) (ap (finite.get own.snapshots) h.0 ∙ new)
    ∙ sym (cond-true _ (Some own.last) (finite.get own.snapshots q) h.1))
    (λ (h : eq_by_cmp nat_cmp q own.next ≡ false).
    ap told (cond-false _ _ _ h)
    ∙ ap (λ b. cond b (Some (unwrap_or (finite.get own.snapshots q) own.last)) None) (ap (λ (o : Option Rows). is_some o) (get-copies_of m tenant own.snapshots q) ∙ is_some-mapped (rows_at m tenant) (finite.get own.snapshots q))
    ∙ as_before (finite.get own.snapshots q) own.last
    ∙ sym (cond-false _ (Some own.last) (finite.get own.snapshots q) h))
    (id_cases q own.next)
    ∙ sym (finite.get-insert nat_cmp_total own.snapshots own.next own.last q)

number_of_dropped : (own : TenantState) (id : ℕ) (m : Messages) (tenant q : ℕ)
    → finite.get (numbers_of own (finite.keys (finite.remove (copies m tenant (finite.entries own.snapshots)) id))) q ≡ finite.get (finite.remove own.snapshots id) q
number_of_dropped own id m tenant q =
    let before = copies m tenant (finite.entries own.snapshots) in
    let told : Option Rows → Option ℕ = λ o. cond (is_some o) (Some (unwrap_or (finite.get own.snapshots q) own.last)) None in
    get-numbers_of_keys own (finite.remove before id) q
    ∙ ap told (finite.get-remove nat_cmp_total before id q)
    ∙ ⊎_elim
    (λ (h : (q ≡ id) × (eq_by_cmp nat_cmp q id ≡ true)).
    ap told (cond-true _ _ _ h.1) ∙ sym (cond-true _ None (finite.get own.snapshots q) h.1))
    (λ (h : eq_by_cmp nat_cmp q id ≡ false).
    ap told (cond-false _ _ _ h)
    ∙ ap (λ b. cond b (Some (unwrap_or (finite.get own.snapshots q) own.last)) None) (ap (λ (o : Option Rows). is_some o) (get-copies_of m tenant own.snapshots q) ∙ is_some-mapped (rows_at m tenant) (finite.get own.snapshots q))
    ∙ as_before (finite.get own.snapshots q) own.last
    ∙ sym (cond-false _ None (finite.get own.snapshots q) h))
    (id_cases q id)
    ∙ sym (finite.get-remove nat_cmp_total own.snapshots id q)

pub numbers_move_law : NumbersMove
numbers_move_law = record {
  of_take = λ m tenant own rows new. finite.same_map nat_cmp_total finite.nat_cmp-IsAntisymmetric _ _ (λ q. number_of_taken own rows m tenant q (new own.next (omega arith)));
  of_drop = λ m tenant id own. finite.same_map nat_cmp_total finite.nat_cmp-IsAntisymmetric _ _ (λ q. number_of_dropped own id m tenant q);
}
