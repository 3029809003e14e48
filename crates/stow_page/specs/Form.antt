-- The bytes of a page, whether it was made here or comes from elsewhere.
use Rattle.std.specs.Prelude.{ℕ, List}
use Rattle.std.specs.Arc.{arc_value}
use Rattle.stow_page.specs.Format.{packed_page}
use Rattle.stow_page.specs.declared.page.Form.{Form}
use Rattle.stow_page.specs.declared.page.Form.TheVariants.{Made, Given}

abbrev pub bytes_of : {A : Type 0} → Form A → List ℕ
bytes_of (Made rows) = packed_page (arc_value rows)
bytes_of (Given bytes) = (arc_value bytes).items
