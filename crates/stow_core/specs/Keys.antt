-- Keys of one tenant.
use Rattle.std.specs.Prelude.{◌≡◌, ℕ, List, map}
use Rattle.stow_tree_model.specs.Keys.{packed, own_key}

-- these are keys of the tenant's
abbrev pub AreKeysOf : ℕ → List (List ℕ) → Type 0
AreKeysOf tenant keys = map (packed tenant) (map own_key keys) ≡ keys
