-- What a merge keeps of one key.
use Rattle.std.specs.Prelude.{◌≡◌, ◌≢◌, List, length, slice_get, take, drop, [], ◌∷◌, ◌++◌, ℕ, ◌<◌, ◌≤◌, Contains, Option, Some, None}
use Rattle.std.specs.List.{AllByRecursion}
use Rattle.stow_page.specs.StowTreeModel.Agreement.{TenantPins}
use Rattle.stow_page.specs.StowTreeModel.Merged.{merged, version_at}
use Rattle.stow_page.specs.StowTreeModel.Operations.{outcome}
use Rattle.stow_page.specs.StowTreeModel.Order.{MessagesRise, VersionsRise}
use Rattle.stow_page.specs.StowTreeModel.TreeMessage.{TreeMessage}
use Rattle.stow_page.specs.StowTreeModel.Version.{Version, version_of}
use Rattle.stow_page.specs.StowTreeModel.declared.version.Version as lent
use Rattle.stow_merge.specs.Pages.{HaveShortValues}

-- a key's row, if it has one
abbrev pub rows_of : Option lent.Version → List Version
rows_of None = []
rows_of (Some v) = version_of v ∷ []

-- rows and messages of one key, the messages in order
pub record AreOfOneKey (key : List ℕ) (rows : List Version) (batch : List TreeMessage)
    : Type 0 where
  pub rows_are : AllByRecursion (λ (v : Version). v.key ≡ key) rows
  pub messages_are : (m : TreeMessage) → Contains batch m → m.key ≡ key
  pub rise : MessagesRise batch

-- the rows' numbers are lower
abbrev pub AreOlder : ℕ → List Version → Type 0
AreOlder number rows = AllByRecursion (λ (v : Version). v.number < number) rows

-- what messages make of a value, one after another
abbrev pub folded : Option (List ℕ) → List TreeMessage → Option (List ℕ)
folded value [] = value
folded value (m ∷ later) = folded (outcome m.op value) later

-- the value that a key's row leaves, where it has one at most: none where there is no row
abbrev pub left_by : List Version → Option (List ℕ)
left_by [] = None
left_by (v ∷ rows) = v.value

-- a message's version with a value, or none
abbrev pub version_with : TreeMessage → Option (List ℕ) → List Version
version_with m None = []
version_with m (Some value) = version_at m (Some value) ∷ []

pub record IsNewest (batch : List TreeMessage) (newest : TreeMessage) : Type 0 where
  pub older : List TreeMessage
  pub is_last : batch ≡ older ++ newest ∷ []

-- of a key's row and messages the newest message alone stays, with what all make of the row's value
pub record StaysAlone (rows : List Version) (batch : List TreeMessage) (pins : TenantPins)
    (newest : TreeMessage) : Type 0 where
  pub is_newest : IsNewest batch newest
  pub is : merged rows batch pins ≡ version_with newest (folded (left_by rows) batch)

-- what a merge keeps of them can stand above these versions, but for the room
pub record CanFollow (packed rows : List Version) (batch : List TreeMessage)
    (pins : TenantPins) : Type 0 where
  pub rises : VersionsRise (packed ++ merged rows batch pins)
  pub are_short : HaveShortValues (merged rows batch pins)

-- the row at this place, if it is the key's
pub record IsRowOf (rows : List Version) (at : ℕ) (key : List ℕ) (found : List Version)
    : Type 0 where
  pub stands : found ≡ take (length found) (drop at rows)
  pub is_of_key : AllByRecursion (λ (v : Version). v.key ≡ key) found
  pub is_one : length found ≤ 1
  pub is_found : (v : Version) → found ≡ [] → slice_get rows at ≡ Some v → v.key ≢ key

-- so many messages at the front are of the key, and no more
pub record IsRunOf (key : List ℕ) (batch : List TreeMessage) (count : ℕ) : Type 0 where
  pub within : count ≤ length batch
  pub are : (i : ℕ) (m : TreeMessage) → i < count → slice_get batch i ≡ Some m → m.key ≡ key
  pub ends : (m : TreeMessage) → slice_get batch count ≡ Some m → m.key ≢ key
