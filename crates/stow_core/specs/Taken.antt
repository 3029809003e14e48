-- The keys that a deletion takes rows out with.
use Rattle.std.specs.Prelude.{◌≡◌, ◌≢◌, ℕ, ◌+◌, ◌≤◌, List, [], ◌∷◌, length, map}
use Rattle.std.specs.FinMap as finite
use Rattle.std.specs.List.{AllByRecursion}
use Rattle.stow_model.specs.Store.{Rows, rows_without}
use Rattle.stow_tree_model.specs.Keys.{own_key, IsTenantKey}
use Rattle.stow_core.specs.Keys.{AreKeysOf}

-- no key is there twice
abbrev pub AreDistinct : List (List ℕ) → Type 0
AreDistinct [] = Unit {0}
AreDistinct (key ∷ keys) = AllByRecursion (λ k. k ≢ key) keys × AreDistinct keys

-- Of the tenant's own keys those that have a row, among the keys of all and each once: with them
-- goes what goes with all of the keys.
pub record AreTaken (tenant : ℕ) (rows : Rows) (keys taken : List (List ℕ)) : Type 0 where
  pub own : AreKeysOf tenant taken
  pub short : AllByRecursion IsTenantKey taken
  pub distinct : AreDistinct taken
  pub few : length taken ≤ length keys
  pub left : rows_without (map own_key taken) rows ≡ rows_without keys rows
  pub counted : length taken + finite.len (rows_without keys rows) ≡ finite.len rows
