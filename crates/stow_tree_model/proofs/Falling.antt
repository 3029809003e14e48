-- Histories: lists told newest first, and what they show.
use Rattle.std.specs.Prelude.{◌≡◌, ℕ, ◌≤◌, List, [], ◌∷◌, map, Option, None, if◌then◌else◌, ◌&&◌, nat_le}
use Rattle.std.specs.List.{AllByRecursion}
use Rattle.std.specs.declared.cmp.Ordering.TheVariants.{Less}
use Rattle.stow_tree_model.specs.TreeMessage.{TreeMessage}
use Rattle.stow_tree_model.specs.Version.{Version}
use Rattle.stow_tree_model.specs.Order.{VersionPlace, place_cmp, place_of}
use Rattle.stow_tree_model.specs.Operations.{NumberedValue, numbered}
use Rattle.stow_tree_model.specs.Merged.{same_key, value_of}

-- each is below those before it
abbrev pub Falls : List VersionPlace → Type 0
Falls [] = Unit {0}
Falls (p ∷ older) = AllByRecursion (λ q. place_cmp q p ≡ Less) older × Falls older

abbrev pub IsHistory : List TreeMessage → Type 0
IsHistory ms = Falls (map place_of ms)

-- all messages of the key are numbered at most this
abbrev pub AtMost : List ℕ → ℕ → List TreeMessage → Type 0
AtMost key top ms = AllByRecursion (λ m. key ≡ m.key → m.number ≤ top) ms

-- what the key has at a number, by the history
unfoldable pub value_by : List TreeMessage → List ℕ → ℕ → Option NumberedValue
value_by [] key n = None
value_by (m ∷ older) key n = if same_key key m.key && nat_le m.number n then numbered m.number (value_of (m ∷ older)) else value_by older key n

-- the newest version of the key numbered at most n, a removal being nothing
unfoldable pub shown_by : List Version → List ℕ → ℕ → Option NumberedValue
shown_by [] key n = None
shown_by (v ∷ older) key n = if same_key key v.key && nat_le v.number n then numbered v.number v.value else shown_by older key n
