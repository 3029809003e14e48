-- The rows of an interval, one after another.
use Rattle.std.proofs.Common.{◌≡◌, ℕ, ◌<◌, true, false, List, [], ◌∷◌, ◌++◌, length, map, Option, Some, None, refl, sym, subst, arith, ⊎_elim, inl, inr}
use Rattle.std.specs.Prelude.{Contains, IsSome}
use Rattle.std.specs.List.{AllByRecursion}
use Rattle.std.proofs.lemmas.List.{length-map, map-append}
use Rattle.stow_node.specs.StowLeaf.Intervals.{spans}
use Rattle.stow_node.proofs.StowLeaf.Intervals.{lt}
use Rattle.stow_tree_model.specs.Operations.{NumberedValue, Operations, latest, value_in}
use Rattle.stow_read.specs.NextKey.{IsNextKey}
use Rattle.stow_read.specs.Range.{KeyValue, IsRange}
use Rattle.stow_read.specs.Walk.{AreBelow, AreFirst}
use Rattle.stow_read.proofs.FirstKeys.{AreFirstSoFar, keys_first, keys_past, keys_more, keys_all, keys_enough}
use Rattle.stow_read.proofs.Gathered.{all_join}

abbrev pub keys_of : List KeyValue → List (List ℕ)
keys_of rows = map (λ (row : KeyValue). row.0) rows

-- the keys before the next one have been gone over, and the rows have their values
pub record IsRangeSoFar (ops : List ℕ → Operations) (from to : List ℕ) (at count : ℕ) (rows : List KeyValue) (next : Option (List ℕ)) : Type 0 where
  pub keys : AreFirstSoFar ops from false to at count (keys_of rows) next
  pub values : AllByRecursion (λ (row : KeyValue). value_in (latest (ops row.0) at) ≡ Some row.1) rows

pub range_first : (ops : List ℕ → Operations) (from to : List ℕ) (at count : ℕ) (next : Option (List ℕ)) → IsNextKey ops from false to next → IsRangeSoFar ops from to at count [] next
range_first ops from to at count next is = record { keys = keys_first ops from false to at count next is; values = tt }

-- the key has no value
pub range_past : (ops : List ℕ → Operations) (from to : List ℕ) (at count : ℕ) (rows : List KeyValue) (k : List ℕ) (next : Option (List ℕ)) → IsRangeSoFar ops from to at count rows (Some k) → latest (ops k) at ≡ None → IsNextKey ops k true to next → IsRangeSoFar ops from to at count rows next
range_past ops from to at count rows k next r none is = record { keys = keys_past ops from false to at count (keys_of rows) k next r.keys none is; values = r.values }

is_there : (o : Option NumberedValue) (v : List ℕ) → value_in o ≡ Some v → IsSome o
is_there None v e = absurd cc
is_there (Some w) v e = refl

-- the key has a value
pub range_more : (ops : List ℕ → Operations) (from to : List ℕ) (at count : ℕ) (rows : List KeyValue) (k v : List ℕ) (next : Option (List ℕ)) → IsRangeSoFar ops from to at count rows (Some k) → value_in (latest (ops k) at) ≡ Some v → length rows < count → IsNextKey ops k true to next → IsRangeSoFar ops from to at count (rows ++ (k, v) ∷ []) next
range_more ops from to at count rows k v next r has room is = record {
  keys = subst (λ ks. AreFirstSoFar ops from false to at count ks next) (sym (map-append (λ (row : KeyValue). row.0) rows ((k, v) ∷ [])))
      (keys_more ops from false to at count (keys_of rows) k next r.keys (is_there (latest (ops k) at) v has) (omega (arith, room, length-map rows (λ (row : KeyValue). row.0))) is);
  values = all_join (λ (row : KeyValue). value_in (latest (ops row.0) at) ≡ Some row.1) rows ((k, v) ∷ []) r.values (has, tt);
}

all_rows : (P : List ℕ → Type 0) (rows : List KeyValue) → AllByRecursion P (keys_of rows) → AllByRecursion (λ (row : KeyValue). P row.0) rows
all_rows P [] a = tt
all_rows P (row ∷ rows) a = (a.0, all_rows P rows a.1)

-- the first keys of the interval, with their values
pub is_range : (ops : List ℕ → Operations) (from to : List ℕ) (at count : ℕ) (rows : List KeyValue) → AreFirst ops from false to at count (keys_of rows) → AllByRecursion (λ (row : KeyValue). value_in (latest (ops row.0) at) ≡ Some row.1) rows → IsRange ops from to at count rows
is_range ops from to at count rows first values = record {
  rise = first.rise;
  inside = all_rows (λ (k : List ℕ). spans from to k ≡ true) rows first.inside;
  values = values;
  few = (let few = first.few in omega (arith, few, length-map rows (λ (row : KeyValue). row.0)));
  all = λ key s v. ⊎_elim
      (λ (c : Contains (keys_of rows) key). inl c)
      (λ (c : (length (keys_of rows) ≡ count) × AreBelow (keys_of rows) key). inr (
        (let full = c.0 in omega (arith, full, length-map rows (λ (row : KeyValue). row.0))),
        all_rows (λ (k : List ℕ). lt k key ≡ true) rows c.1,
      ))
      (first.all key s v);
}

-- no key is left
pub range_all : (ops : List ℕ → Operations) (from to : List ℕ) (at count : ℕ) (rows : List KeyValue) → IsRangeSoFar ops from to at count rows None → IsRange ops from to at count rows
range_all ops from to at count rows r = is_range ops from to at count rows (keys_all ops from false to at count (keys_of rows) r.keys) r.values

-- there are as many as were asked for
pub range_enough : (ops : List ℕ → Operations) (from to : List ℕ) (at count : ℕ) (rows : List KeyValue) (k : List ℕ) → IsRangeSoFar ops from to at count rows (Some k) → length rows ≡ count → IsRange ops from to at count rows
range_enough ops from to at count rows k r full =
    is_range ops from to at count rows
    (keys_enough ops from false to at count (keys_of rows) k r.keys (omega (arith, full, length-map rows (λ (row : KeyValue). row.0)))) r.values
