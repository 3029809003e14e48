-- Which keys are marked in a buffer's filter.
use Rattle.std.specs.Prelude.{◌≡◌, ℕ, List, true}
use Rattle.std.specs.List.{AllByRecursion}
use Rattle.stow_filter.specs.Filter.{may_have}
use Rattle.stow_tree_model.specs.TreeMessage.{TreeMessage}

-- the message's key has its marks
abbrev pub IsCovered : List ℕ → TreeMessage → Type 0
IsCovered words m = may_have words m.key ≡ true

-- each message's key has them
abbrev pub Covers : List ℕ → List TreeMessage → Type 0
Covers words ms = AllByRecursion (IsCovered words) ms
