-- What a key has from a number on: a value, or nothing.
use Rattle.std.specs.Prelude.{ℕ, List, Option}
use Rattle.stow_tree_model.specs.Value.{bytes_at}
use Rattle.stow_tree_model.specs.declared.version.Version as coded

pub record Version : Type 0 where
  -- the key among those of all tenants
  pub key : List ℕ
  -- the write that made it
  pub number : ℕ
  -- nothing, where the write took the key's value away
  pub value : Option (List ℕ)

-- what the code's type stands for
abbrev pub version_of : coded.Version → Version
version_of v = record { key = v.key.bytes.now; number = v.number; value = bytes_at v.value }
