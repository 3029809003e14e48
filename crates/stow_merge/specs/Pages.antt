-- A merged leaf's versions in pages.
use Rattle.std.specs.Prelude.{◌≡◌, ◌≢◌, ℕ, ◌<◌, ◌≤◌, List, [], ◌∷◌, length, Contains}
use Rattle.std.specs.declared.cmp.Ordering.TheVariants.{Less}
use Rattle.std.specs.Coded.{×_prop, Unit-prop}
use Rattle.std.specs.List.{flat_map, AllByRecursion}
use Rattle.std.proofs.Props.{props}
use Rattle.stow_page.specs.StowBytes.Bytes.{bytes_cmp}
use Rattle.stow_page.specs.Format.{packed_page}
use Rattle.stow_page.specs.StowTreeModel.Value.{IsValue}
use Rattle.stow_page.specs.StowTreeModel.Version.{Version}

-- the versions of pages, read in order
abbrev pub read_in_order : List (List Version) → List Version
read_in_order pages = flat_map (λ page. page) pages

abbrev pub HaveShortValues : List Version → Type 0
HaveShortValues = AllByRecursion (λ v. IsValue v.value)

pub record HaveOneKey (versions : List Version) : Type 0 where
  pub are_of_key : (v w : Version) → Contains versions v → Contains versions w → v.key ≡ w.key

-- each key of some versions is below each key of others
pub record KeysBelow (versions others : List Version) : Type 0 where
  pub are_below : (v w : Version) → Contains versions v → Contains others w
      → bytes_cmp v.key w.key ≡ Less

-- a page isn't empty, and above the target it has one key; its keys are below later pages' keys
pub record IsLeafPage (target : ℕ) (page later : List Version) : Type 0 where
  pub is_filled : page ≢ []
  pub fits : target < length (packed_page page) → HaveOneKey page
  pub is_below : KeysBelow page later

abbrev pub AreLeafPages : ℕ → List (List Version) → Type 0
AreLeafPages target [] = Unit {0}
AreLeafPages target (page ∷ pages) = IsLeafPage target page (read_in_order pages)
    × AreLeafPages target pages

AreLeafPages-prop : (target : ℕ) (pages : List (List Version))
    → IsProp (AreLeafPages target pages)
AreLeafPages-prop target [] = Unit-prop
AreLeafPages-prop target (page ∷ pages) = ×_prop (hlevel props) (AreLeafPages-prop target pages)

-- The pages hold just the versions, in order; there is one at least, no more where one fits the
-- target, and an empty one stands alone.
pub record ArePagesOf (versions : List Version) (target : ℕ)
    (pages : List (List Version)) : Type 0 where
  pub are : read_in_order pages ≡ versions
  pub is_one_there : pages ≢ []
  pub is_one_enough : length (packed_page versions) ≤ target → length pages ≡ 1
  pub are_cut : pages ≢ [] ∷ [] → AreLeafPages target pages

-- so a type may keep it
pub ArePagesOf-prop : (versions : List Version) (target : ℕ) (pages : List (List Version))
    → IsProp (ArePagesOf versions target pages)
ArePagesOf-prop versions target pages = hlevel (AreLeafPages-prop, props)
