-- The versions that messages make of older ones.
use Rattle.std.proofs.Common.{◌≡◌, ◌≢◌, ℕ, zero, suc, ◌+◌, ◌-◌, ◌<◌, ◌≤◌, Bool, true, false, cond, List, [], ◌∷◌, ◌++◌, length, drop, get_or, map, Option, Some, None, refl, ap, ◌∙◌, sym, subst, arith, ⊎_elim}
use Rattle.std.specs.Prelude.{IsSome, is_some, slice_get, filter}
use Rattle.std.specs.List.{AllByRecursion}
use Rattle.std.specs.List.Sorted.{IsStrictlySortedBy}
use Rattle.std.specs.declared.cmp.Ordering.TheVariants.{Less}
use Rattle.std.proofs.lemmas.Bool.{cases_lt}
use Rattle.stow_tree_model.specs.Merged.{same_key, row_message}
use Rattle.stow_tree_model.specs.Merged as merged
use Rattle.stow_tree_model.specs.Messages.{ops_in}
use Rattle.stow_tree_model.specs.Op.{Op}
use Rattle.stow_tree_model.specs.Operations.{Operations, applied, latest, numbered, outcome, value_in, or_else, over}
use Rattle.stow_tree_model.specs.Order.{VersionPlace, place_cmp, version_place, VersionsRise}
use Rattle.stow_tree_model.specs.TreeMessage.{TreeMessage}
use Rattle.stow_tree_model.specs.Version.{Version}
use Rattle.stow_tree_model.proofs.Histories.{ops_in-at, ops_in-skip, latest_none}
use Rattle.stow_tree_model.proofs.Latest.{latest_same}
use Rattle.stow_tree_model.proofs.Orders.{key_cases, less_within}
use Rattle.stow_tree_model.proofs.Readings.{drop_one_less}
use Rattle.stow_node.specs.StowPage.Rows.{is_up_to, last_of, value_in_version, version_at}
use Rattle.stow_node.proofs.StowLeaf.Found.{some_or, none_unless, first_stays}
use Rattle.stow_node.specs.Subtree.{Subtree, messages_of}
use Rattle.stow_read.specs.Path.{NumbersFall, IsPath}
use Rattle.stow_read.specs.Shown.{value_shown}
use Rattle.stow_read.specs.Versions.{AreVersionsOf}
use Rattle.stow_read.proofs.Gathered.{AllOwn, there_first, under_number}
use Rattle.stow_read.proofs.Looked.{there_dropped}
use Rattle.stow_read.proofs.NewestFirst.{newest_step}
use Rattle.stow_read.proofs.Shown.{rows_show, up_to_cases}
use Rattle.stow_node.proofs.StowMessage.Removed.{all_dropped}

-- ---- versions of no operations

pub no_versions : (ops : Operations) (key : List ℕ) → ((n : ℕ) → ops n ≡ None) → AreVersionsOf ops key []
unfolding IsStrictlySortedBy version_at
no_versions ops key none = record { rise = tt; own = tt; there = tt; show = λ n. sym (latest_none ops n (λ k l. none k)) }

pub same_versions : (f g : Operations) (key : List ℕ) (vs : List Version) → ((n : ℕ) → f n ≡ g n) → AreVersionsOf f key vs → AreVersionsOf g key vs
same_versions f g key vs same are = record {
  rise = are.rise;
  own = are.own;
  there = each vs are.there;
  show = λ n. are.show n ∙ latest_same f g n (λ k l. same k);
}
  where
    each : (xs : List Version) → AllByRecursion (λ (v : Version). IsSome (f v.number)) xs → AllByRecursion (λ (v : Version). IsSome (g v.number)) xs
    each [] a = tt
    each (v ∷ xs) a = (subst IsSome (same v.number) a.0, each xs a.1)

-- ---- the versions that rows have of a key

abbrev pub own_rows : List ℕ → List Version → List Version
own_rows key rows = filter (λ (v : Version). same_key key v.key) rows

above_own : (p : VersionPlace) (key : List ℕ) (rows : List Version) → AllByRecursion (λ q. place_cmp p q ≡ Less) (map version_place rows) → AllByRecursion (λ q. place_cmp p q ≡ Less) (map version_place (own_rows key rows))
above_own p key [] h = tt
above_own p key (v ∷ rows) h = step (same_key key v.key) (above_own p key rows h.1) where
  step : (b : Bool) → AllByRecursion (λ q. place_cmp p q ≡ Less) (map version_place (own_rows key rows)) → AllByRecursion (λ q. place_cmp p q ≡ Less) (map version_place (cond b (v ∷ own_rows key rows) (own_rows key rows)))
  step true a = (h.0, a)
  step false a = a

own_rise : (key : List ℕ) (rows : List Version) → VersionsRise rows → VersionsRise (own_rows key rows)
unfolding IsStrictlySortedBy
own_rise key [] up = tt
own_rise key (v ∷ rows) up = step (same_key key v.key) (own_rise key rows up.1) where
  step : (b : Bool) → VersionsRise (own_rows key rows) → VersionsRise (cond b (v ∷ own_rows key rows) (own_rows key rows))
  step true a = (above_own (version_place v) key rows up.0, a)
  step false a = a

own_keys : (key : List ℕ) (rows : List Version) → AllByRecursion (λ (v : Version). key ≡ v.key) (own_rows key rows)
own_keys key [] = tt
own_keys key (v ∷ rows) = step (same_key key v.key) refl (own_keys key rows) where
  step : (b : Bool) → same_key key v.key ≡ b → AllByRecursion (λ (w : Version). key ≡ w.key) (own_rows key rows) → AllByRecursion (λ (w : Version). key ≡ w.key) (cond b (v ∷ own_rows key rows) (own_rows key rows))
  step true e a = (
    ⊎_elim
        (λ (h : (key ≡ v.key) × (same_key key v.key ≡ true)). h.0)
        (λ (h : (key ≢ v.key) × (same_key key v.key ≡ false)). absurd (let z : true ≡ false = sym e ∙ h.1 in cc))
        (key_cases key v.key),
    a,
  )
  step false e a = a

own_there : (key : List ℕ) (rows : List Version) → AllByRecursion (λ (v : Version). IsSome (ops_in (map row_message rows) key v.number)) (own_rows key rows)
own_there key [] = tt
own_there key (v ∷ rows) = step (same_key key v.key) refl (more (own_rows key rows) (own_there key rows)) where
  Here : Version → Type 0
  Here w = IsSome (ops_in (map row_message (v ∷ rows)) key w.number)

  more : (xs : List Version) → AllByRecursion (λ (w : Version). IsSome (ops_in (map row_message rows) key w.number)) xs → AllByRecursion (λ (w : Version). IsSome (ops_in (map row_message (v ∷ rows)) key w.number)) xs
  more [] a = tt
  more (w ∷ xs) a = (first_stays (row_message v) (map row_message rows) key w.number a.0, more xs a.1)

  step : (b : Bool) → same_key key v.key ≡ b → AllByRecursion (λ (w : Version). IsSome (ops_in (map row_message (v ∷ rows)) key w.number)) (own_rows key rows) → AllByRecursion (λ (w : Version). IsSome (ops_in (map row_message (v ∷ rows)) key w.number)) (cond b (v ∷ own_rows key rows) (own_rows key rows))
  step true e a = (
    ⊎_elim
        (λ (h : (key ≡ v.key) × (same_key key v.key ≡ true)). there_first key (row_message v) (map row_message rows) h.0)
        (λ (h : (key ≢ v.key) × (same_key key v.key ≡ false)). absurd (let z : true ≡ false = sym e ∙ h.1 in cc))
        (key_cases key v.key),
    a,
  )
  step false e a = a

-- versions of other keys are not up to a number of the key
up_to_own : (key : List ℕ) (n : ℕ) (rows : List Version) → filter (is_up_to key n) (own_rows key rows) ≡ filter (is_up_to key n) rows
up_to_own key n [] = refl
up_to_own key n (v ∷ rows) = step (same_key key v.key) refl (up_to_own key n rows) where
  step : (b : Bool) → same_key key v.key ≡ b → filter (is_up_to key n) (own_rows key rows) ≡ filter (is_up_to key n) rows
      → filter (is_up_to key n) (cond b (v ∷ own_rows key rows) (own_rows key rows)) ≡ cond (is_up_to key n v) (v ∷ filter (is_up_to key n) rows) (filter (is_up_to key n) rows)
  step true e on = ap (λ vs. cond (is_up_to key n v) (v ∷ vs) vs) on
  step false e on = on ∙ ap (λ b. cond b (v ∷ filter (is_up_to key n) rows) (filter (is_up_to key n) rows)) (sym (⊎_elim
      (λ (h : (key ≡ v.key) × (v.number ≤ n) × (is_up_to key n v ≡ true)). absurd (⊎_elim
      (λ (k : (key ≡ v.key) × (same_key key v.key ≡ true)). let z : true ≡ false = sym k.1 ∙ e in cc)
      (λ (k : (key ≢ v.key) × (same_key key v.key ≡ false)). k.0 h.0)
      (key_cases key v.key)))
      (λ (h : (is_up_to key n v ≡ false) × (key ≡ v.key → v.number ≤ n → ⊥)). h.0)
      (up_to_cases key n v)))

pub versions_of_rows : (key : List ℕ) (rows : List Version) → VersionsRise rows → AreVersionsOf (ops_in (map row_message rows) key) key (own_rows key rows)
unfolding version_at
versions_of_rows key rows up = record {
  rise = own_rise key rows up;
  own = own_keys key rows;
  there = own_there key rows;
  show = λ n. ap (λ vs. value_shown (last_of vs)) (up_to_own key n rows) ∙ rows_show rows key n up;
}

-- ---- one version more

push_above : (p : VersionPlace) (vs : List Version) (w : Version) → AllByRecursion (λ q. place_cmp p q ≡ Less) (map version_place vs) → place_cmp p (version_place w) ≡ Less → AllByRecursion (λ q. place_cmp p q ≡ Less) (map version_place (vs ++ w ∷ []))
push_above p [] w a l = (l, tt)
push_above p (v ∷ vs) w a l = (a.0, push_above p vs w a.1 l)

push_rises : (vs : List Version) (w : Version) → VersionsRise vs → AllByRecursion (λ (v : Version). place_cmp (version_place v) (version_place w) ≡ Less) vs → VersionsRise (vs ++ w ∷ [])
unfolding IsStrictlySortedBy
push_rises [] w up a = (tt, tt)
push_rises (v ∷ vs) w up a = (push_above (version_place v) vs w up.0 a.0, push_rises vs w up.1 a.1)

all_push : (P : Version → Type 0) (vs : List Version) (w : Version) → AllByRecursion P vs → P w → AllByRecursion P (vs ++ w ∷ [])
all_push P [] w a l = (l, tt)
all_push P (v ∷ vs) w a l = (a.0, all_push P vs w a.1 l)

last_push : (vs : List Version) (w : Version) → last_of (vs ++ w ∷ []) ≡ Some w
last_push [] w = refl
last_push (v ∷ []) w = refl
last_push (v ∷ u ∷ vs) w = last_push (u ∷ vs) w

filter_push : (p : Version → Bool) (vs : List Version) (w : Version) → filter p (vs ++ w ∷ []) ≡ filter p vs ++ cond (p w) (w ∷ []) []
filter_push p [] w = refl
filter_push p (v ∷ vs) w = ap (λ xs. cond (p v) (v ∷ xs) xs) (filter_push p vs w) ∙ step (p v) where
  step : (b : Bool) → cond b (v ∷ filter p vs ++ cond (p w) (w ∷ []) []) (filter p vs ++ cond (p w) (w ∷ []) []) ≡ cond b (v ∷ filter p vs) (filter p vs) ++ cond (p w) (w ∷ []) []
  step true = refl
  step false = refl

append_none : (vs : List Version) → vs ++ [] ≡ vs
append_none [] = refl
append_none (v ∷ vs) = ap (λ xs. v ∷ xs) (append_none vs)

shown_value : (o : Option Version) → value_in (value_shown o) ≡ value_in_version o
shown_value None = refl
shown_value (Some v) = step v.number v.value where
  step : (n : ℕ) (o : Option (List ℕ)) → value_in (numbered n o) ≡ o
  step n None = refl
  step n (Some x) = refl

-- each version of the key under a number is up to it
all_up_to : (key : List ℕ) (n : ℕ) (vs : List Version) → AllByRecursion (λ (v : Version). key ≡ v.key) vs → AllByRecursion (λ (v : Version). v.number ≤ n) vs → filter (is_up_to key n) vs ≡ vs
all_up_to key n [] own low = refl
all_up_to key n (v ∷ vs) own low = ap (λ b. cond b (v ∷ filter (is_up_to key n) vs) (filter (is_up_to key n) vs)) (⊎_elim
    (λ (h : (key ≡ v.key) × (v.number ≤ n) × (is_up_to key n v ≡ true)). h.2)
    (λ (h : (is_up_to key n v ≡ false) × (key ≡ v.key → v.number ≤ n → ⊥)). absurd (h.1 own.0 low.0))
    (up_to_cases key n v))
    ∙ ap (λ xs. v ∷ xs) (all_up_to key n vs own.1 low.1)

-- the operations with one more above all of them
pub record IsMore (ops more : Operations) (n : ℕ) (op : Op) : Type 0 where
  pub at : more n ≡ Some op
  pub other : (k : ℕ) → (k ≡ n → ⊥) → more k ≡ ops k
  pub under : (k : ℕ) → IsSome (ops k) → k < n

more_latest : (ops more : Operations) (n : ℕ) (op : Op) (k : ℕ) → IsMore ops more n op → n ≤ k → latest more k ≡ applied n (Some op) (latest ops k)
more_latest ops more n op k is l =
    newest_step more ops n k l
    (λ j a. is.other j (λ e. omega arith) ∙ none j (omega arith))
    (λ j a. none j a)
    (λ j a. is.other j (λ e. omega arith))
    ∙ ap (λ o. applied n o (latest ops k)) is.at
  where
    none : (j : ℕ) → n ≤ j → ops j ≡ None
    none j a = none_unless (ops j) (λ s. let b = is.under j s in omega arith)

-- the version that a message makes of the last one
pub made_version : TreeMessage → List Version → Version
made_version m vs = merged.version_at m (outcome m.op (value_in_version (last_of vs)))

pub one_version_more : (ops more : Operations) (key : List ℕ) (m : TreeMessage) (vs : List Version) → IsMore ops more m.number m.op → key ≡ m.key → AreVersionsOf ops key vs → AreVersionsOf more key (vs ++ merged.version_at m (outcome m.op (value_in_version (last_of vs))) ∷ [])
unfolding version_at
one_version_more ops more key m vs is own are = record {
  rise = push_rises vs w are.rise (lower vs are.own are.there);
  own = all_push (λ (v : Version). key ≡ v.key) vs w are.own own;
  there = all_push (λ (v : Version). IsSome (more v.number)) vs w (stay vs are.there) (ap is_some is.at);
  show = λ n. ⊎_elim (λ (l : n < m.number). before n l) (λ (l : m.number ≤ n). from n l) (cases_lt n m.number);
}
  where
    w : Version
    w = merged.version_at m (outcome m.op (value_in_version (last_of vs)))

    lower : (xs : List Version) → AllByRecursion (λ (v : Version). key ≡ v.key) xs → AllByRecursion (λ (v : Version). IsSome (ops v.number)) xs → AllByRecursion (λ (v : Version). place_cmp (version_place v) (version_place w) ≡ Less) xs
    lower [] o t = tt
    lower (v ∷ xs) o t = (subst (λ k. place_cmp (k, v.number) (m.key, m.number) ≡ Less) (sym own ∙ o.0) (less_within m.key v.number m.number (is.under v.number t.0)), lower xs o.1 t.1)

    under : (xs : List Version) → AllByRecursion (λ (v : Version). IsSome (ops v.number)) xs → (n : ℕ) → m.number ≤ n → AllByRecursion (λ (v : Version). v.number ≤ n) xs
    under [] t n l = tt
    under (v ∷ xs) t n l = (let a = is.under v.number t.0 in omega arith, under xs t.1 n l)

    stay : (xs : List Version) → AllByRecursion (λ (v : Version). IsSome (ops v.number)) xs → AllByRecursion (λ (v : Version). IsSome (more v.number)) xs
    stay [] t = tt
    stay (v ∷ xs) t = (subst IsSome (sym (is.other v.number (λ e. let a = is.under v.number t.0 in omega arith))) t.0, stay xs t.1)

    before : (n : ℕ) → n < m.number → value_shown (last_of (filter (is_up_to key n) (vs ++ w ∷ []))) ≡ latest more n
    before n l =
        ap (λ xs. value_shown (last_of xs)) (filter_push (is_up_to key n) vs w
        ∙ ap (λ b. filter (is_up_to key n) vs ++ cond b (w ∷ []) []) (⊎_elim
        (λ (h : (key ≡ w.key) × (w.number ≤ n) × (is_up_to key n w ≡ true)). absurd (let a = h.1 in omega arith))
        (λ (h : (is_up_to key n w ≡ false) × (key ≡ w.key → w.number ≤ n → ⊥)). h.0)
        (up_to_cases key n w))
        ∙ append_none (filter (is_up_to key n) vs))
        ∙ are.show n
        ∙ latest_same ops more n (λ k a. sym (is.other k (λ e. omega arith)))

    from : (n : ℕ) → m.number ≤ n → value_shown (last_of (filter (is_up_to key n) (vs ++ w ∷ []))) ≡ latest more n
    from n l =
        ap (λ xs. value_shown (last_of xs)) (filter_push (is_up_to key n) vs w
        ∙ ap (λ b. filter (is_up_to key n) vs ++ cond b (w ∷ []) []) (⊎_elim
        (λ (h : (key ≡ w.key) × (w.number ≤ n) × (is_up_to key n w ≡ true)). h.2)
        (λ (h : (is_up_to key n w ≡ false) × (key ≡ w.key → w.number ≤ n → ⊥)). absurd (h.1 own l))
        (up_to_cases key n w)))
        ∙ ap value_shown (last_push (filter (is_up_to key n) vs) w)
        ∙ ap (λ o. numbered m.number (outcome m.op o))
        (sym (shown_value (last_of vs))
        ∙ ap (λ xs. value_in (value_shown (last_of xs))) (sym (all_up_to key n vs are.own (under vs are.there n l)))
        ∙ ap value_in (are.show n))
        ∙ sym (more_latest ops more m.number m.op n is l)

-- ---- the messages of a path, from the oldest

-- the older messages of a path, with its rows
abbrev pub older_of : List ℕ → List TreeMessage → List Version → ℕ → Operations
older_of key ms rows i = over (ops_in (drop i ms) key) (ops_in (map row_message rows) key)

numbers_dropped : (ms : List TreeMessage) (i : ℕ) → NumbersFall ms → NumbersFall (drop i ms)
numbers_dropped ms zero h = h
numbers_dropped [] (suc i) h = h
numbers_dropped (m ∷ ms) (suc i) h = numbers_dropped ms i h.1

pub next_version : (t : Subtree) (key : List ℕ) (ms : List TreeMessage) (rows vs : List Version) (count i : ℕ) (m : TreeMessage) → IsPath t key ms rows → count ≡ length ms → i < count → m ≡ get_or ms (count - 1 - i) m
    → AreVersionsOf (older_of key ms rows (count - i)) key vs
    → AreVersionsOf (older_of key ms rows (count - (i + 1))) key (vs ++ merged.version_at m (outcome m.op (value_in_version (last_of vs))) ∷ [])
next_version t key ms rows vs count i m path len l e are =
    one_version_more (older_of key ms rows (count - i)) (older_of key ms rows (count - (i + 1))) key m vs
    (record {
      at = ap (λ xs. or_else (ops_in xs key m.number) (ops_in (map row_message rows) key m.number)) cut
          ∙ ap (λ k. or_else (ops_in (m ∷ older) k m.number) (ops_in (map row_message rows) key m.number)) own
          ∙ ap (λ o. or_else o (ops_in (map row_message rows) key m.number)) (ops_in-at m older);
      other = λ k ne. ap (λ xs. or_else (ops_in xs key k) (ops_in (map row_message rows) key k)) cut
          ∙ ap (λ o. or_else o (ops_in (map row_message rows) key k)) (ops_in-skip m older key k (λ p. ne (ap (λ (q : VersionPlace). q.1) p)));
      under = λ k s. some_or (ops_in older key k) (ops_in (map row_message rows) key k)
          (λ a. under_number m.number older key k falls.0 a)
          (λ a. path.above m.number k (there_dropped ms (count - (i + 1)) key m.number (subst (λ xs. IsSome (ops_in xs key m.number)) (sym cut) (there_first key m older own))) a)
          s;
    })
    own are
  where
    older : List TreeMessage
    older = drop (count - i) ms

    cut : drop (count - (i + 1)) ms ≡ m ∷ drop (count - i) ms
    cut =
        let here : count - (i + 1) ≡ count - 1 - i = omega arith in
        let next : suc (count - 1 - i) ≡ count - i = omega arith in
        ap (λ k. drop k ms) here ∙ drop_one_less ms (count - 1 - i) m (omega arith) e ∙ ap (λ k. m ∷ drop k ms) next

    own : key ≡ m.key
    own = (subst (AllOwn key) cut (all_dropped (λ (n : TreeMessage). key ≡ n.key) ms (count - (i + 1)) path.own)).0

    falls : NumbersFall (m ∷ drop (count - i) ms)
    falls = subst NumbersFall cut (numbers_dropped ms (count - (i + 1)) path.fall)

pub first_versions : (key : List ℕ) (ms : List TreeMessage) (rows vs : List Version) (count : ℕ) → count ≡ length ms → VersionsRise rows → vs ≡ own_rows key rows → AreVersionsOf (older_of key ms rows (count - 0)) key vs
first_versions key ms rows vs count len up e =
    subst (AreVersionsOf (older_of key ms rows (count - 0)) key) (sym e)
    (same_versions (ops_in (map row_message rows) key) (older_of key ms rows (count - 0)) key (own_rows key rows)
    (λ n. ap (λ xs. or_else (ops_in xs key n) (ops_in (map row_message rows) key n)) (sym (dropped ms (count - 0) (omega arith))))
    (versions_of_rows key rows up))
  where
    dropped : (xs : List TreeMessage) (i : ℕ) → length xs ≤ i → drop i xs ≡ []
    dropped [] zero h = refl
    dropped [] (suc i) h = refl
    dropped (x ∷ xs) zero h = absurd (omega arith)
    dropped (x ∷ xs) (suc i) h = dropped xs i (omega arith)

pub all_versions : (t : Subtree) (key : List ℕ) (ms : List TreeMessage) (rows vs : List Version) (count i : ℕ) → IsPath t key ms rows → count ≤ i → AreVersionsOf (older_of key ms rows (count - i)) key vs → AreVersionsOf (ops_in (messages_of t) key) key vs
all_versions t key ms rows vs count i path l are =
    let none : count - i ≡ 0 = omega arith in
    same_versions (older_of key ms rows 0) (ops_in (messages_of t) key) key vs (λ n. sym (path.messages n))
    (subst (λ k. AreVersionsOf (older_of key ms rows k) key vs) none are)

-- the last of some versions
pub last_is : {X : Type 0} (f : X → Version) (xs : List X) (x : X) → slice_get xs (length xs - 1) ≡ Some x → last_of (map f xs) ≡ Some (f x)
last_is f [] x e = absurd cc
last_is f (y ∷ []) x e = ap (λ z. Some (f z)) (is y x e) where
  is : {X : Type 0} (a b : X) → ◌≡◌ {A = Option X} (Some a) (Some b) → a ≡ b
  is a b e = cc
last_is f (y ∷ z ∷ xs) x e =
    let less : suc (suc (length xs)) - 1 ≡ suc (suc (length xs) - 1) = omega arith in
    last_is f (z ∷ xs) x (sym (ap (slice_get (y ∷ z ∷ xs)) less) ∙ e)

pub none_last : {X : Type 0} (f : X → Version) (xs : List X) → length xs ≤ 0 → last_of (map f xs) ≡ None
none_last f [] h = refl
none_last f (x ∷ xs) h = absurd (omega arith)
