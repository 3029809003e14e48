-- What is held, by the bytes of the fences.
use Rattle.std.proofs.Common.{◌≡◌, ℕ, Bool, true, false, cond, ◌+◌, ◌-◌, ◌<◌, ◌≤◌, zero, suc, List, [], ◌∷◌, length, take, map, arith, subst, is_some, slice_get, IsSome, Option, Some, None, refl, sym, ◌∙◌, ap}
use Rattle.std.specs.Cmp.Lexicographic.{bytes_decides}
use Rattle.std.specs.Option.{option_map, option_map_or}
use Rattle.std.specs.Borrow.{Bor}
use Rattle.std.specs.Map.Iter.{deref_pair}
use Rattle.std.specs.List.{AllByRecursion, IsDistinct}
use Rattle.std.specs.Map.{keys_of, lookup, lookup_entry, remove_entry}
use Rattle.lru.specs.LruCache.{LruCache, lru_cache, promoted, put_entries}
use Rattle.lru.proofs.CallerLemmas.{Contains-lookup_entry}
use Rattle.lru.proofs.Pairs.{lookup-lookup_entry}
use Rattle.std.proofs.lemmas.Map.Keys.{IsDistinct-head, IsDistinct-tail}
use Rattle.std.proofs.lemmas.List.{take_all, take-map, length-map}
use Rattle.std.specs.Str.{bytes_eq}
use Rattle.std.specs.declared.vec.Vec.{Vec}
use Rattle.stow_page.specs.StowTreeModel.Version.{Version}
use Rattle.stow_leaf_cache.specs.Cache.{Cache, cache_used, HeldLeaf, leaf_of, leaves_of, rows_under, leaves_without, leaves_used, leaves_kept, IsLimited}

pub rows_under-map : {A : Type 0} (fence : List ℕ) (held : List (Vec ℕ A × List Version)) → rows_under fence (map leaf_of held) ≡ lookup (λ k. bytes_eq fence k.items) held
rows_under-map fence [] = refl
rows_under-map fence (e ∷ es) = ap (λ rest. cond (bytes_eq fence e.0.items) (Some e.1) rest) (rows_under-map fence es)

either_removed : {A : Type 0} (b : Bool) (e : Vec ℕ A × List Version) (es left : List (Vec ℕ A × List Version)) (shown : List HeldLeaf) → shown ≡ map leaf_of left → cond b (map leaf_of es) (leaf_of e ∷ shown) ≡ map leaf_of (cond b es (e ∷ left))
either_removed true e es left shown h = refl
either_removed false e es left shown h = ap (λ rest. leaf_of e ∷ rest) h

pub leaves_without-map : {A : Type 0} (fence : List ℕ) (held : List (Vec ℕ A × List Version)) → leaves_without fence (map leaf_of held) ≡ map leaf_of (remove_entry (λ k. bytes_eq fence k.items) held)
leaves_without-map fence [] = refl
leaves_without-map fence (e ∷ es) = either_removed (bytes_eq fence e.0.items) e es _ _ (leaves_without-map fence es)

-- ---- an entry that passes a test, or none

module _ {K V : Type 0} (test : K → Bool) where
  no_entry : (es : List (K × V)) → lookup_entry test es ≡ None → remove_entry test es ≡ es
  no_entry [] h = refl
  no_entry (e ∷ es) h = (elim (test e.0) as (λ y. test e.0 ≡ y → remove_entry test (e ∷ es) ≡ e ∷ es) [
    | true ↦ λ t. let wrong = rw t at h in cc
    | false ↦ λ t. rw t (ap (λ l. e ∷ l) (no_entry es (rw t at h)))
  ]) refl

  one_less : (es : List (K × V)) (e : K × V) → lookup_entry test es ≡ Some e → length (remove_entry test es) + 1 ≡ length es
  one_less [] e h = cc
  one_less (f ∷ es) e h = (elim (test f.0) as (λ y. test f.0 ≡ y → length (remove_entry test (f ∷ es)) + 1 ≡ length (f ∷ es)) [
    | true ↦ λ t. rw t (omega arith)
    | false ↦ λ t. rw t (let more = one_less es e (rw t at h) in omega arith)
  ]) refl

-- the test that a fence's look-up makes
abbrev is_fence : {A : Type 0} → List ℕ → Vec ℕ A → Bool
is_fence fence k = bytes_eq fence k.items

-- ---- what is gone

abbrev same_fence : {A : Type 0} → Vec ℕ A → Vec ℕ A → Bool
same_fence x y = bytes_eq x.items y.items

none_passes : {A : Type 0} (fence : List ℕ) (k : Vec ℕ A) (es : List (Vec ℕ A × List Version)) → bytes_eq fence k.items ≡ true → AllByRecursion (λ y. same_fence k y ≡ false) (keys_of es) → lookup (is_fence fence) es ≡ None
none_passes fence k [] t a = refl
none_passes fence k (e ∷ es) t a =
    let other : bytes_eq fence e.0.items ≡ false = ap (λ f. bytes_eq f e.0.items) ((bytes_decides fence k.items).0 t) ∙ a.0 in
    ap (λ b. cond b (Some e.1) (lookup (is_fence fence) es)) other ∙ none_passes fence k es t a.1

none_left : {A : Type 0} (fence : List ℕ) (es : List (Vec ℕ A × List Version)) → IsDistinct same_fence (keys_of es) → lookup (is_fence fence) (remove_entry (is_fence fence) es) ≡ None
none_left fence [] d = refl
none_left fence (e ∷ es) d = step (bytes_eq fence e.0.items) refl (none_left fence es (IsDistinct-tail same_fence e.0 (keys_of es) d)) where
  step : (b : Bool) → bytes_eq fence e.0.items ≡ b → lookup (is_fence fence) (remove_entry (is_fence fence) es) ≡ None → lookup (is_fence fence) (cond b es (e ∷ remove_entry (is_fence fence) es)) ≡ None
  step true t on = none_passes fence e.0 es t (IsDistinct-head same_fence e.0 (keys_of es) d)
  step false t on = ap (λ b. cond b (Some e.1) (lookup (is_fence fence) (remove_entry (is_fence fence) es))) t ∙ on

-- a fence whose leaf was taken out has none
pub gone-rows_under : {A : Type 0} (fence : List ℕ) (held left : LruCache (Vec ℕ A) (List Version)) (n : ℕ) → IsDistinct same_fence (keys_of held.entries) → left ≡ lru_cache (remove_entry (is_fence fence) held.entries) n → rows_under fence (leaves_of left) ≡ None
gone-rows_under fence held left n d e = ap (λ (l : LruCache (Vec ℕ _) (List Version)). rows_under fence (leaves_of l)) e ∙ rows_under-map fence (remove_entry (is_fence fence) held.entries) ∙ none_left fence held.entries d

-- ---- what comes to the front

used_by : {A : Type 0} (fence : List ℕ) (es : List (Vec ℕ A × List Version)) (o : Option (Vec ℕ A × List Version)) → lookup_entry (is_fence fence) es ≡ o
    → map leaf_of (option_map_or (λ e. e ∷ remove_entry (is_fence fence) es) o es) ≡ option_map_or (λ rows. (fence, rows) ∷ leaves_without fence (map leaf_of es)) (option_map (λ e. e.1) o) (map leaf_of es)
used_by fence es None h = refl
used_by fence es (Some e) h =
    let same : e.0.items ≡ fence = sym ((bytes_decides fence e.0.items).0 (Contains-lookup_entry (is_fence fence) es e h).1) in
    λ i. (same i, e.1) ∷ sym (leaves_without-map fence es) i

pub leaves_used-map : {A : Type 0} (fence : List ℕ) (es : List (Vec ℕ A × List Version)) → map leaf_of (promoted (is_fence fence) es) ≡ leaves_used fence (map leaf_of es)
leaves_used-map fence es =
    used_by fence es (lookup_entry (is_fence fence) es) refl
    ∙ ap (λ o. option_map_or (λ rows. (fence, rows) ∷ leaves_without fence (map leaf_of es)) o (map leaf_of es))
    (lookup-lookup_entry (is_fence fence) es ∙ sym (rows_under-map fence es))

first_by : {A : Type 0} (es others : List (Vec ℕ A × List Version)) (o : Option (Vec ℕ A × List Version)) → is_some (option_map (λ e. e.1) o) ≡ true
    → option_map (λ e. e.1) (slice_get (option_map_or (λ e. e ∷ others) o es) 0) ≡ option_map (λ e. e.1) o
first_by es others None there = cc
first_by es others (Some e) there = refl

rows_of : {A : Type 0} (lent : Option (Bor (Vec ℕ A) × Bor (List Version))) → option_map (λ p. p.1.now) lent ≡ option_map (λ p. p.1) (option_map deref_pair lent)
rows_of None = refl
rows_of (Some p) = refl

none_of : (o : Option (List Version)) → is_some o ≡ false → None ≡ o
none_of None h = refl
none_of (Some rows) h = cc

-- what came to the front is the first
first-used : {A : Type 0} (fence : List ℕ) (es : List (Vec ℕ A × List Version)) → is_some (lookup (is_fence fence) es) ≡ true
    → option_map (λ e. e.1) (slice_get (promoted (is_fence fence) es) 0) ≡ lookup (is_fence fence) es
first-used fence es there =
    let same = lookup-lookup_entry (is_fence fence) es in
    first_by es (remove_entry (is_fence fence) es) (lookup_entry (is_fence fence) es) (ap is_some same ∙ there) ∙ same

abbrev pub cache_of : List HeldLeaf → ℕ → Cache
cache_of leaves limit = record { leaves = leaves; limit = limit }

module _ {A : Type 0} (fence : List ℕ) (held : LruCache (Vec ℕ A) (List Version)) (limit : ℕ) (cache : Cache) (e : cache_of (leaves_of held) limit ≡ cache) where
  lookup-rows_under : lookup (is_fence fence) held.entries ≡ rows_under fence cache.leaves
  lookup-rows_under = sym (rows_under-map fence held.entries) ∙ ap (λ c. rows_under fence c.leaves) e

  pub none-rows_under : (found : Bool) → found ≡ is_some (lookup (is_fence fence) held.entries) → found ≡ false → None ≡ rows_under fence cache.leaves
  none-rows_under found f out = none_of (lookup (is_fence fence) held.entries) (sym f ∙ out) ∙ lookup-rows_under

  module _ (now : LruCache (Vec ℕ A) (List Version)) (h : now ≡ lru_cache (promoted (is_fence fence) held.entries) held.cap) where
    pub used-cache : cache_of (leaves_of now) limit ≡ cache_used fence cache
    used-cache =
        let leaves = ap leaves_of h ∙ leaves_used-map fence held.entries ∙ ap (λ c. leaves_used fence c.leaves) e in
        λ i. cache_of (leaves i) (e i).limit

    -- the first one, lent
    pub first-rows_under : (lent first : Option (Bor (Vec ℕ A) × Bor (List Version))) (found : Bool) → lent ≡ first → option_map deref_pair lent ≡ slice_get now.entries 0
        → found ≡ is_some (lookup (is_fence fence) held.entries) → found ≡ true → option_map (λ p. p.1.now) first ≡ rows_under fence cache.leaves
    first-rows_under lent first found same l f there =
        ap (option_map (λ p. p.1.now)) (sym same) ∙ rows_of lent ∙ ap (option_map (λ p. p.1)) (l ∙ ap (λ c. slice_get c.entries 0) h)
        ∙ first-used fence held.entries (sym f ∙ there) ∙ lookup-rows_under

-- ---- what is kept

kept_by : {A : Type 0} (cap : ℕ) (key : Vec ℕ A) (rows : List Version) (es : List (Vec ℕ A × List Version)) (o : Option (Vec ℕ A × List Version)) → length es ≤ cap → 0 < cap → lookup_entry (is_fence key.items) es ≡ o
    → map leaf_of (option_map_or (λ e. (e.0, rows) ∷ remove_entry (is_fence key.items) es) o ((key, rows) ∷ take (cap - 1) es)) ≡ leaves_kept cap key.items rows (map leaf_of es)
kept_by zero key rows es o few some h = absurd (omega arith)
kept_by (suc n) key rows es None few some h =
    let one : suc n - 1 ≡ n = omega arith in
    let same : map leaf_of es ≡ leaves_without key.items (map leaf_of es) = sym (leaves_without-map key.items es ∙ ap (map leaf_of) (no_entry (is_fence key.items) es h)) in
    ap (λ l. (key.items, rows) ∷ l) (ap (λ m. map leaf_of (take m es)) one ∙ sym (take-map leaf_of n es) ∙ ap (take n) same)
kept_by (suc n) key rows es (Some e) few some h =
    let fence : e.0.items ≡ key.items = sym ((bytes_decides key.items e.0.items).0 (Contains-lookup_entry (is_fence key.items) es e h).1) in
    let fewer = one_less (is_fence key.items) es e h in
    let shown = length-map (remove_entry (is_fence key.items) es) leaf_of in
    let short : length (map leaf_of (remove_entry (is_fence key.items) es)) ≤ n = omega arith in
    let rest : map leaf_of (remove_entry (is_fence key.items) es) ≡ take n (leaves_without key.items (map leaf_of es)) =
    sym (take_all n (map leaf_of (remove_entry (is_fence key.items) es)) short) ∙ ap (take n) (sym (leaves_without-map key.items es)) in
    λ i. (fence i, rows) ∷ rest i

pub kept-put : {A : Type 0} (cap : ℕ) (key : Vec ℕ A) (rows : List Version) (es : List (Vec ℕ A × List Version)) → length es ≤ cap → 0 < cap
    → map leaf_of (put_entries (λ j k. bytes_eq j.items k.items) (lru_cache es cap) key rows) ≡ leaves_kept cap key.items rows (map leaf_of es)
kept-put cap key rows es few some = kept_by cap key rows es (lookup_entry (is_fence key.items) es) few some refl

nothing_by : {A : Type 0} (fence : List ℕ) (es : List (Vec ℕ A × List Version)) (o : Option (Vec ℕ A × List Version)) → lookup_entry (is_fence fence) es ≡ o → (IsSome (lookup (is_fence fence) es) → ⊥) → remove_entry (is_fence fence) es ≡ es
nothing_by fence es None h never = no_entry (is_fence fence) es h
nothing_by fence es (Some e) h never = absurd (never (subst IsSome (ap (λ o. option_map (λ f. f.1) o) (sym h) ∙ lookup-lookup_entry (is_fence fence) es) refl))

-- where nothing is held under the fence, all is held but what is under it
pub nothing-under : {A : Type 0} (fence : List ℕ) (es : List (Vec ℕ A × List Version)) → (IsSome (lookup (is_fence fence) es) → ⊥) → map leaf_of es ≡ leaves_without fence (map leaf_of es)
nothing-under fence es never = sym (leaves_without-map fence es ∙ ap (map leaf_of) (nothing_by fence es (lookup_entry (is_fence fence) es) refl never))

pub limited : {A : Type 0} (limit : ℕ) (held : LruCache (Vec ℕ A) (List Version)) → 1 ≤ limit → IsLimited limit held → held.cap ≡ limit
limited zero held some h = absurd (omega arith)
limited (suc n) held some h = h
