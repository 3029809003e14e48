-- A value that a look-up found: what the code's type stands for.
use Rattle.stow_tree_model.specs.Operations.{NumberedValue}
use Rattle.stow_tree_model.specs.NumberedValue.{numbered_of}
use Rattle.stow_read.specs.declared.found.Found.{Found}
use Rattle.stow_read.specs.declared.found.Found.TheVariants as in_found
use Rattle.stow_read.specs.declared.lent_value.LentValue.{LentValue}

-- a lent value with its number
abbrev pub lent_of : LentValue → NumberedValue
lent_of lent = record { number = lent.number; value = lent.value.now }

abbrev pub found_value : {A : Type 0} → Found A → NumberedValue
found_value (in_found.Lent lent) = lent_of lent
found_value (in_found.Folded folded) = numbered_of folded
