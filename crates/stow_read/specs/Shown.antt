-- What a version shows.
use Rattle.std.specs.Prelude.{Option, Some, None}
use Rattle.stow_tree_model.specs.Operations.{NumberedValue, numbered}
use Rattle.stow_tree_model.specs.Version.{Version}

-- the value of a version with its number: nothing where there is no version, and where it is a
-- removal
abbrev pub value_shown : Option Version → Option NumberedValue
value_shown None = None
value_shown (Some v) = numbered v.number v.value
