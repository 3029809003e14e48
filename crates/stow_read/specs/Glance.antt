-- What a key's newest message or row tells of its value.
use Rattle.std.specs.Prelude.{◌≡◌, Option, Some, None, IsSomeAnd}
use Rattle.std.specs.Option.{option_map}
use Rattle.stow_tree_model.specs.Operations.{NumberedValue}
use Rattle.stow_read.specs.Walk.{head_of}
use Rattle.stow_read.specs.declared.newest.Newest.{Newest}
use Rattle.stow_read.specs.declared.newest.Newest.TheVariants as newest

-- what is told of the value is so
abbrev pub IsToldOf : Option NumberedValue → Newest → Type 0
IsToldOf value newest.Missing = value ≡ None
IsToldOf value (newest.Whole head) = option_map head_of value ≡ Some head
IsToldOf value (newest.Extended number) = IsSomeAnd value (λ v. v.number ≡ number)
