-- What the messages that newer ones supersede mean: nothing.
use Rattle.std.specs.Prelude.{ℕ, ◌<◌, List, IsSome}
use Rattle.stow_leaf.specs.Replacements.{MeanTheSame}
use Rattle.stow_superseded.specs.Superseded.{without_superseded}
use Rattle.stow_tree_model.specs.Agreement.{TenantPins}
use Rattle.stow_tree_model.specs.Keys.{tenant_of}
use Rattle.stow_tree_model.specs.Messages.{ops_in}
use Rattle.stow_tree_model.specs.Operations.{Operations, over}
use Rattle.stow_tree_model.specs.Order.{MessagesRise}
use Rattle.stow_tree_model.specs.TreeMessage.{TreeMessage}

-- over any older operations the key has the same at each pin of its tenant, and from the newest
-- on, without them
abbrev pub SupersededMeanNothing : Type 0
SupersededMeanNothing =
    (pins : TenantPins) (key : List ℕ) (older : Operations) (ms : List TreeMessage)
    → MessagesRise ms
    → ((n k : ℕ) → IsSome (ops_in ms key n) → IsSome (older k) → k < n)
    → MeanTheSame (pins (tenant_of key)) (over (ops_in ms key) older)
    (over (ops_in (without_superseded pins ms) key) older)
