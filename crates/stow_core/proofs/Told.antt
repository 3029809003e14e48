-- Rows that are told one after another.
use Rattle.std.proofs.Common.{◌≡◌, ℕ, zero, suc, ◌+◌, ◌<◌, List, [], ◌∷◌, ◌++◌, length, take, map, get_or, ap, sym, ◌∙◌, subst, arith}
use Rattle.std.specs.List.{AllByRecursion, flat_map}
use Rattle.stow_core.specs.Ends.{row_bulks}
use Rattle.stow_dropping.specs.StowRead.Range.{KeyValue, key_value}
use Rattle.stow_dropping.specs.StowRead.declared.row.Row as coded
use Rattle.stow_model.specs.Item.{Item}
use Rattle.stow_tree_model.specs.Intervals.{AreKeyBytes, IsWholeKey}

pub all_bytes : (key : List ℕ) → ((i : ℕ) → get_or key i 0 < 256) → AreKeyBytes key
all_bytes [] h = tt
all_bytes (b ∷ key) h = (h 0, all_bytes key (λ i. h (suc i)))

-- the keys of rows
abbrev pub keys_of : {A : Type 0} → List (coded.Row A) → List (List ℕ)
keys_of rows = map (λ (row : KeyValue). row.0) (map key_value rows)

bulks_more : {A : Type 0} (rows : List (coded.Row A)) (i : ℕ) (row : coded.Row A) → i < length rows → row ≡ get_or rows i row → flat_map row_bulks (map key_value (take (suc i) rows)) ≡ flat_map row_bulks (map key_value (take i rows)) ++ row_bulks (key_value row)
bulks_more [] i row l is = absurd (omega (arith, l))
bulks_more (r ∷ rows) zero row l is = ap (λ x. row_bulks (key_value x)) (sym is)
bulks_more (r ∷ rows) (suc i) row l is = ap (λ bulks. row_bulks (key_value r) ++ bulks) (bulks_more rows i row (omega (arith, l)) is)

keys_more : {A : Type 0} (rows : List (coded.Row A)) (i : ℕ) (row : coded.Row A) → i < length rows → row ≡ get_or rows i row → AllByRecursion IsWholeKey (keys_of (take i rows)) → IsWholeKey row.key.bytes.now → AllByRecursion IsWholeKey (keys_of (take (suc i) rows))
keys_more [] i row l is all one = absurd (omega (arith, l))
keys_more (r ∷ rows) zero row l is all one = (subst (λ (x : coded.Row _). IsWholeKey x.key.bytes.now) is one, tt)
keys_more (r ∷ rows) (suc i) row l is all one = (all.0, keys_more rows i row (omega (arith, l)) is all.1 one)

-- the first rows were told, and their keys are whole
pub record AreTold {A : Type 0} (rows : List (coded.Row A)) (i : ℕ) (items : List Item) : Type 0 where
  pub so_far : items ≡ flat_map row_bulks (map key_value (take i rows))
  pub keys : AllByRecursion IsWholeKey (keys_of (take i rows))

pub one_more_told : {A : Type 0} (rows : List (coded.Row A)) (i : ℕ) (row : coded.Row A) (items more : List Item) → i < length rows → row ≡ get_or rows i row → AreTold rows i items → more ≡ items ++ row_bulks (key_value row) → IsWholeKey row.key.bytes.now → AreTold rows (i + 1) more
one_more_told rows i row items more l is told adds whole = subst (λ n. AreTold rows n more) next (record {
  so_far = adds ∙ ap (λ front. front ++ row_bulks (key_value row)) told.so_far ∙ sym (bulks_more rows i row l is);
  keys = keys_more rows i row l is told.keys whole;
})
  where
    next : suc i ≡ i + 1
    next = omega arith
