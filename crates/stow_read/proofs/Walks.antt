-- The heads of an interval's keys, one after another.
use Rattle.std.proofs.Common.{◌≡◌, ℕ, ◌+◌, ◌<◌, Bool, true, false, List, [], ◌∷◌, ◌++◌, length, Option, Some, None, refl, ap, ◌∙◌, sym, subst, arith}
use Rattle.std.specs.Prelude.{Contains, IsSome, is_some}
use Rattle.std.specs.List.{AllByRecursion}
use Rattle.std.proofs.lemmas.List.{length-map, map-append}
use Rattle.stow_tree_model.specs.Operations.{Operations, latest, value_in}
use Rattle.stow_read.specs.NextKey.{IsNextKey}
use Rattle.stow_read.specs.Range.{KeyValue, IsRange}
use Rattle.stow_read.specs.Walk.{is_inside, AreFirst, IsHead, IsHeadOf, IsWalk, head_keys}
use Rattle.stow_read.specs.declared.row_head.RowHead.{RowHead}
use Rattle.stow_read.proofs.FirstKeys.{AreFirstSoFar, keys_first, keys_past, keys_more, keys_all, keys_enough, keys_join, keys_whole}
use Rattle.stow_read.proofs.Gathered.{all_join}
use Rattle.stow_read.proofs.Ranged.{keys_of, is_range}

-- the keys before the next one have been gone over, and the rows have their heads
pub record IsWalkSoFar {A : Type 0} (ops : List ℕ → Operations) (start : List ℕ) (after : Bool) (to : List ℕ) (at count : ℕ) (rows : List (RowHead A)) (next : Option (List ℕ)) : Type 0 where
  pub keys : AreFirstSoFar ops start after to at count (head_keys rows) next
  pub told : AllByRecursion (λ (row : RowHead A). IsHead (ops row.key) at row) rows

pub walk_first : {A : Type 0} (ops : List ℕ → Operations) (start : List ℕ) (after : Bool) (to : List ℕ) (at count : ℕ) (next : Option (List ℕ)) → IsNextKey ops start after to next → IsWalkSoFar {A = A} ops start after to at count [] next
walk_first ops start after to at count next is = record { keys = keys_first ops start after to at count next is; told = tt }

-- the key has no value
pub walk_past : {A : Type 0} (ops : List ℕ → Operations) (start : List ℕ) (after : Bool) (to : List ℕ) (at count : ℕ) (rows : List (RowHead A)) (k : List ℕ) (next : Option (List ℕ)) → IsWalkSoFar ops start after to at count rows (Some k) → latest (ops k) at ≡ None → IsNextKey ops k true to next → IsWalkSoFar ops start after to at count rows next
walk_past ops start after to at count rows k next r none is = record { keys = keys_past ops start after to at count (head_keys rows) k next r.keys none is; told = r.told }

-- the key has a value
pub walk_more : {A : Type 0} (ops : List ℕ → Operations) (start : List ℕ) (after : Bool) (to : List ℕ) (at count : ℕ) (rows : List (RowHead A)) (k : List ℕ) (row : RowHead A) (next : Option (List ℕ)) → IsWalkSoFar ops start after to at count rows (Some k) → IsHeadOf k (ops k) at (Some row) → length rows < count → IsNextKey ops k true to next
    → IsWalkSoFar ops start after to at count (rows ++ row ∷ []) next
walk_more {A} ops start after to at count rows k row next r has room is = record {
  keys = subst (λ ks. AreFirstSoFar ops start after to at count ks next) (sym (map-append (λ (x : RowHead A). x.key) rows (row ∷ []) ∙ ap (λ x. head_keys rows ++ x ∷ []) has.0))
      (keys_more ops start after to at count (head_keys rows) k next r.keys (ap is_some has.1.has) (omega (arith, room, length-map rows (λ (x : RowHead A). x.key))) is);
  told = all_join (λ (x : RowHead A). IsHead (ops x.key) at x) rows (row ∷ []) r.told (subst (λ x. IsHead (ops x) at row) (sym has.0) has.1, tt);
}

-- no key is left
pub walk_all : {A : Type 0} (ops : List ℕ → Operations) (start : List ℕ) (after : Bool) (to : List ℕ) (at count : ℕ) (rows : List (RowHead A)) → IsWalkSoFar ops start after to at count rows None → IsWalk ops start after to at count rows
walk_all ops start after to at count rows r = record { keys = keys_all ops start after to at count (head_keys rows) r.keys; told = r.told }

-- there are as many as were asked for
pub walk_enough : {A : Type 0} (ops : List ℕ → Operations) (start : List ℕ) (after : Bool) (to : List ℕ) (at count : ℕ) (rows : List (RowHead A)) (k : List ℕ) → IsWalkSoFar ops start after to at count rows (Some k) → length rows ≡ count → IsWalk ops start after to at count rows
walk_enough {A} ops start after to at count rows k r full = record {
  keys = keys_enough ops start after to at count (head_keys rows) k r.keys (omega (arith, full, length-map rows (λ (x : RowHead A). x.key)));
  told = r.told;
}

-- a full walk, and then one after its last key, are one walk
pub walks_join : {A : Type 0} (ops : List ℕ → Operations) (start : List ℕ) (after : Bool) (to : List ℕ) (at count more_count : ℕ) (rows : List (RowHead A)) (last : RowHead A) (more : List (RowHead A)) → IsWalk ops start after to at count (rows ++ last ∷ []) → length (rows ++ last ∷ []) ≡ count → IsWalk ops last.key true to at more_count more
    → IsWalk ops start after to at (count + more_count) ((rows ++ last ∷ []) ++ more)
walks_join {A} ops start after to at count more_count rows last more walk full next = record {
  keys = subst (AreFirst ops start after to at (count + more_count)) (sym (map-append (λ (x : RowHead A). x.key) (rows ++ last ∷ []) more ∙ ap (λ ks. ks ++ head_keys more) same))
      (keys_join ops start after to at count more_count (head_keys rows) last.key (head_keys more)
      (subst (AreFirst ops start after to at count) same walk.keys)
      (sym (ap length same) ∙ length-map (rows ++ last ∷ []) (λ (x : RowHead A). x.key) ∙ full)
      next.keys);
  told = all_join (λ (x : RowHead A). IsHead (ops x.key) at x) (rows ++ last ∷ []) more walk.told next.told;
}
  where
    same : head_keys (rows ++ last ∷ []) ≡ head_keys rows ++ last.key ∷ []
    same = map-append (λ (x : RowHead A). x.key) rows (last ∷ [])

-- a walk of fewer rows than were asked for has all keys that have a value
pub walk_whole : {A : Type 0} (ops : List ℕ → Operations) (start : List ℕ) (after : Bool) (to : List ℕ) (at count : ℕ) (rows : List (RowHead A)) → IsWalk ops start after to at count rows → length rows < count
    → (key : List ℕ) → is_inside start after to key ≡ true → IsSome (latest (ops key) at) → Contains (head_keys rows) key
walk_whole {A} ops start after to at count rows walk fewer = keys_whole ops start after to at count (head_keys rows) walk.keys (omega (arith, fewer, length-map rows (λ (x : RowHead A). x.key)))

-- ---- the values that the heads are of

abbrev pub values_told : {A : Type 0} (ops : List ℕ → Operations) (at : ℕ) (rows : List (RowHead A)) → AllByRecursion (λ (row : RowHead A). IsHead (ops row.key) at row) rows → List KeyValue
values_told ops at [] told = []
values_told ops at (row ∷ rows) told = (row.key, told.0.value.value) ∷ values_told ops at rows told.1

keys_told : {A : Type 0} (ops : List ℕ → Operations) (at : ℕ) (rows : List (RowHead A)) (told : AllByRecursion (λ (row : RowHead A). IsHead (ops row.key) at row) rows) → keys_of (values_told ops at rows told) ≡ head_keys rows
keys_told ops at [] told = refl
keys_told ops at (row ∷ rows) told = ap (λ ks. row.key ∷ ks) (keys_told ops at rows told.1)

are_values : {A : Type 0} (ops : List ℕ → Operations) (at : ℕ) (rows : List (RowHead A)) (told : AllByRecursion (λ (row : RowHead A). IsHead (ops row.key) at row) rows) → AllByRecursion (λ (row : KeyValue). value_in (latest (ops row.0) at) ≡ Some row.1) (values_told ops at rows told)
are_values ops at [] told = tt
are_values ops at (row ∷ rows) told = (ap value_in told.0.has, are_values ops at rows told.1)

-- a walk is of the keys of a range
pub walk_range : {A : Type 0} (ops : List ℕ → Operations) (from to : List ℕ) (at count : ℕ) (rows : List (RowHead A)) (walk : IsWalk ops from false to at count rows) → IsRange ops from to at count (values_told ops at rows walk.told)
walk_range ops from to at count rows walk =
    is_range ops from to at count (values_told ops at rows walk.told) (subst (AreFirst ops from false to at count) (sym (keys_told ops at rows walk.told)) walk.keys) (are_values ops at rows walk.told)
