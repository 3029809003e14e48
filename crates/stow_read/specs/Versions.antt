-- All versions of one key.
use Rattle.std.specs.Prelude.{◌≡◌, ℕ, List, IsSome}
use Rattle.std.specs.List.{AllByRecursion}
use Rattle.stow_tree_model.specs.Operations.{Operations, latest}
use Rattle.stow_tree_model.specs.Order.{VersionsRise}
use Rattle.stow_tree_model.specs.Version.{Version}
use Rattle.stow_node.specs.StowPage.Rows.{version_at}
use Rattle.stow_read.specs.Shown.{value_shown}

-- each is of an operation on the key, and at each number the newest one up to it shows what the key
-- has there
pub record AreVersionsOf (ops : Operations) (key : List ℕ) (versions : List Version) : Type 0 where
  pub rise : VersionsRise versions
  pub own : AllByRecursion (λ v. key ≡ v.key) versions
  pub there : AllByRecursion (λ v. IsSome (ops v.number)) versions
  pub show : (n : ℕ) → value_shown (version_at versions key n) ≡ latest ops n
