-- A cache that forgot the leaves that were replaced.
use Rattle.std.proofs.Common.{◌≡◌, ◌≢◌, ℕ, zero, suc, Bool, true, false, cond, List, [], ◌∷◌, ◌++◌, Some, None, refl, sym, ap, ◌∙◌, subst, arith, ⊎_elim}
use Rattle.std.specs.Prelude.{Contains, Result, Ok, Err, OnErr}
use Rattle.std.specs.Cmp.Lexicographic.{bytes_decides}
use Rattle.std.specs.Str.{bytes_eq}
use Rattle.std.proofs.lemmas.List.Elements.{Contains-append_left, Contains-append_right, Contains-append_cases}
use Rattle.stow_leaf_cache.proofs.StowTreeModel.Latest.{contains_cases}
use Rattle.stow_leaf_cache.proofs.StowTreeModel.Pruning.{contains_here, contains_there}
use Rattle.stow_leaf.specs.LeafRows.{LeafRows}
use Rattle.stow_leaf_cache.specs.Cache.{Cache, rows_under, leaves_without}
use Rattle.stow_leaves.specs.Forgets.{Forgets, cache_without}

pub forgets_nothing : (old new : List LeafRows) (cache : Cache) → new ≡ old → Forgets old new cache cache
forgets_nothing old new cache e = record { limit = refl; held = λ leaf c. c; stands = λ leaf c o. subst (λ ls. Contains ls leaf) (sym e) o }

-- leaves below and above stay
pub forgets_within : (before xs ys after old new : List LeafRows) (cache cache' : Cache) → Forgets xs ys cache cache' → old ≡ before ++ (xs ++ after) → new ≡ before ++ (ys ++ after) → Forgets old new cache cache'
forgets_within before xs ys after old new cache cache' f e g = record {
  limit = f.limit;
  held = f.held;
  stands = λ leaf c o. subst (λ ls. Contains ls leaf) (sym g) (⊎_elim
      (λ (b : Contains before leaf). Contains-append_left before (ys ++ after) leaf b)
      (λ (b : Contains (xs ++ after) leaf). Contains-append_right before (ys ++ after) leaf (⊎_elim
      (λ (x : Contains xs leaf). Contains-append_left ys after leaf (f.stands leaf c x))
      (λ (x : Contains after leaf). Contains-append_right ys after leaf x)
      (Contains-append_cases xs after leaf b)))
      (Contains-append_cases before (xs ++ after) leaf (subst (λ ls. Contains ls leaf) e o)));
}

-- a leaf that is held is found under its fence
found_under : (leaf : LeafRows) (leaves : List LeafRows) → Contains leaves leaf → rows_under leaf.0 leaves ≡ None → ⊥
found_under leaf [] (zero, l, e) none = absurd (omega arith)
found_under leaf [] (suc k, l, e) none = absurd (omega arith)
found_under leaf (x ∷ leaves) c none = step (bytes_eq leaf.0 x.0) refl none (λ d n. found_under leaf leaves d n) where
  step : (b : Bool) → bytes_eq leaf.0 x.0 ≡ b → cond b (Some x.1) (rows_under leaf.0 leaves) ≡ None → (Contains leaves leaf → rows_under leaf.0 leaves ≡ None → ⊥) → ⊥
  step true t n on = cc
  step false t n on = ⊎_elim
      (λ (e : x ≡ leaf). both t ((bytes_decides leaf.0 x.0).1 (ap (λ (l : LeafRows). l.0) (sym e))))
      (λ (d : Contains leaves leaf). on d n)
      (contains_cases x leaf leaves c)
    where
      both : {b : Bool} → b ≡ false → b ≡ true → ⊥
      both a b = cc

-- what is held without a leaf was held
held_before : (fence : List ℕ) (leaves : List LeafRows) (leaf : LeafRows) → Contains (leaves_without fence leaves) leaf → Contains leaves leaf
held_before fence [] leaf c = c
held_before fence (x ∷ leaves) leaf c = step (bytes_eq fence x.0) c (λ d. held_before fence leaves leaf d) where
  step : (b : Bool) → Contains (cond b leaves (x ∷ leaves_without fence leaves)) leaf → (Contains (leaves_without fence leaves) leaf → Contains leaves leaf) → Contains (x ∷ leaves) leaf
  step true d on = contains_there x leaf leaves d
  step false d on = ⊎_elim
      (λ (e : x ≡ leaf). subst (λ l. Contains (x ∷ leaves) l) e (contains_here x leaves))
      (λ (t : Contains (leaves_without fence leaves) leaf). contains_there x leaf leaves (on t))
      (contains_cases x leaf (leaves_without fence leaves) d)

-- a leaf that was forgotten may go, and all others stay
pub forgets_one : (fence : List ℕ) (old new : List LeafRows) (cache cache' : Cache) → cache'.limit ≡ cache.limit → cache'.leaves ≡ leaves_without fence cache.leaves → rows_under fence cache'.leaves ≡ None
    → ((leaf : LeafRows) → Contains old leaf → leaf.0 ≢ fence → Contains new leaf) → Forgets old new cache cache'
forgets_one fence old new cache cache' limit without gone others = record {
  limit = limit;
  held = λ leaf c. held_before fence cache.leaves leaf (subst (λ ls. Contains ls leaf) without c);
  stands = λ leaf c o. others leaf o (λ e. found_under leaf cache'.leaves c (ap (λ f. rows_under f cache'.leaves) e ∙ gone));
}

-- a leaf was forgotten, and no other
pub forgot : (fence : List ℕ) (a b : Cache) → b.limit ≡ a.limit → b.leaves ≡ leaves_without fence a.leaves → b ≡ cache_without (fence ∷ []) a
forgot fence a b limit leaves = λ i. record { leaves = leaves i; limit = limit i }

pub forgets_then : (old middle new : List LeafRows) (a b c : Cache) → Forgets old middle a b → Forgets middle new b c → Forgets old new a c
forgets_then old middle new a b c f g = record {
  limit = g.limit ∙ f.limit;
  held = λ leaf h. f.held leaf (g.held leaf h);
  stands = λ leaf h o. g.stands leaf h (f.stands leaf (g.held leaf h) o);
}

-- two leaves that were forgotten may go, and all others stay
pub forgets_two : (one two : List ℕ) (old new : List LeafRows) (a b c : Cache) → b.limit ≡ a.limit → b.leaves ≡ leaves_without one a.leaves → rows_under one b.leaves ≡ None
    → c.limit ≡ b.limit → c.leaves ≡ leaves_without two b.leaves → rows_under two c.leaves ≡ None
    → ((leaf : LeafRows) → Contains old leaf → leaf.0 ≢ one → leaf.0 ≢ two → Contains new leaf) → Forgets old new a c
forgets_two one two old new a b c limit without gone limit2 without2 gone2 others = record {
  limit = limit2 ∙ limit;
  held = λ leaf h. held_before one a.leaves leaf (subst (λ ls. Contains ls leaf) without (before leaf h));
  stands = λ leaf h o. others leaf o
      (λ e. found_under leaf b.leaves (before leaf h) (ap (λ f. rows_under f b.leaves) e ∙ gone))
      (λ e. found_under leaf c.leaves h (ap (λ f. rows_under f c.leaves) e ∙ gone2));
}
  where
    before : (leaf : LeafRows) → Contains c.leaves leaf → Contains b.leaves leaf
    before leaf h = held_before two b.leaves leaf (subst (λ ls. Contains ls leaf) without2 h)

-- where the leaves stayed after all, the cache holds no others
pub forgets_kept : (old new leaves : List LeafRows) (cache cache' : Cache) → Forgets old new cache cache' → Forgets leaves leaves cache cache'
forgets_kept old new leaves cache cache' f = record { limit = f.limit; held = f.held; stands = λ leaf c o. o }

pub on_err : {T E : Type 0} (r : Result T E) {P : Type 0} → P → OnErr r P
on_err (Ok x) p = tt
on_err (Err e) p = p
