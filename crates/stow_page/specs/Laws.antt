-- What follows from the format and its faults.
use Rattle.std.specs.Prelude.{◌≡◌, ℕ, ◌<◌, ◌^◌, List, length}
use Rattle.stow_tree_model.specs.Order.{VersionsRise}
use Rattle.stow_tree_model.specs.Version.{Version}
use Rattle.stow_page.specs.Format.{packed_page, AreVersions}
use Rattle.stow_page.specs.Faults.{IsPageFault}
use Rattle.stow_page.specs.declared.page_fault.PageFault.{PageFault}

-- versions of which a page can be made
pub record AreRows (rows : List Version) : Type 0 where
  pub are_versions : AreVersions rows
  pub rise : VersionsRise rows
  pub are_counted : length rows < 2 ^ 32

-- a page is that of one list of versions
abbrev pub PackedOnce : Type 0
PackedOnce = (rows others : List Version) → AreRows rows → AreRows others
    → packed_page rows ≡ packed_page others → rows ≡ others

-- a page has no fault
abbrev pub PageHasNoFault : Type 0
PageHasNoFault = (rows : List Version) (fault : PageFault) → AreRows rows
    → IsPageFault fault (packed_page rows) → ⊥

-- bytes have one first fault at most
abbrev pub OneFault : Type 0
OneFault = (bytes : List ℕ) (one other : PageFault) → IsPageFault one bytes
    → IsPageFault other bytes → one ≡ other
