-- A value with the number of the message that made it: what the code's type stands for.
use Rattle.stow_tree_model.specs.Operations.{NumberedValue}
use Rattle.stow_tree_model.specs.declared.numbered_value.NumberedValue as coded

abbrev pub numbered_of : {A : Type 0} → coded.NumberedValue A → NumberedValue
numbered_of v = record { number = v.number; value = v.value }
