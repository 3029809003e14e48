-- All that the way down to a key's leaf has of the key.
use Rattle.std.specs.Prelude.{◌≡◌, ℕ, ◌<◌, List, [], ◌∷◌, map}
use Rattle.std.specs.List.{AllByRecursion}
use Rattle.stow_tree_model.specs.Merged.{row_message}
use Rattle.stow_tree_model.specs.Messages.{ops_in}
use Rattle.stow_tree_model.specs.Operations.{or_else}
use Rattle.stow_tree_model.specs.TreeMessage.{TreeMessage}
use Rattle.stow_tree_model.specs.Version.{Version}
use Rattle.stow_node.specs.Subtree.{Subtree, messages_of}
use Rattle.stow_read.specs.Suffixes.{IsAbove}

-- each message is newer than those after it
abbrev pub NumbersFall : List TreeMessage → Type 0
NumbersFall [] = Unit {0}
NumbersFall (m ∷ older) = AllByRecursion (λ o. o.number < m.number) older × NumbersFall older

-- these messages and a leaf's rows have all that a node has of the key
pub record IsPath (t : Subtree) (key : List ℕ) (ms : List TreeMessage) (rows : List Version)
    : Type 0 where
  pub own : AllByRecursion (λ m. key ≡ m.key) ms
  pub fall : NumbersFall ms
  pub above : IsAbove (ops_in ms key) (ops_in (map row_message rows) key)
  pub messages : (n : ℕ) → ops_in (messages_of t) key n
      ≡ or_else (ops_in ms key n) (ops_in (map row_message rows) key n)
