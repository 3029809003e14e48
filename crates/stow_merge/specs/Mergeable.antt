-- Whether a leaf's rows and a batch of messages can be merged.
use Rattle.std.specs.Prelude.{List, map}
use Rattle.stow_message.specs.Rising.{AreNew}
use Rattle.stow_page.specs.StowTreeModel.Agreement.{TenantPins}
use Rattle.stow_page.specs.StowTreeModel.Merged.{merged, row_message}
use Rattle.stow_page.specs.StowTreeModel.TreeMessage.{TreeMessage}
use Rattle.stow_page.specs.StowTreeModel.Version.{Version}
use Rattle.stow_merge.specs.Pages.{HaveShortValues}

-- rows and batch have no key and number in common, and merged values are within the limit of values
pub record IsMergeable (rows : List Version) (batch : List TreeMessage)
    (pins : TenantPins) : Type 0 where
  pub are_apart : AreNew batch (map row_message rows)
  pub are_short : HaveShortValues (merged rows batch pins)
