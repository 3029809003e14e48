-- What a pass over a list from its end keeps in mind.
use Rattle.std.specs.Prelude.{ℕ, List, Option, Some, None, if◌then◌else◌}
use Rattle.stow_tree_model.specs.Merged.{same_key}
use Rattle.stow_tree_model.specs.TreeMessage.{TreeMessage}

-- the message, where it is of the key
abbrev pub of_key : List ℕ → Option TreeMessage → Option TreeMessage
of_key key None = None
of_key key (Some m) = if same_key key m.key then Some m else None
