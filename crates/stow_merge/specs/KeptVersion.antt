-- Versions that a merge keeps, by where their bytes stand among messages in order.
use Rattle.std.specs.Prelude.{ℕ, Bool, false, List, take, drop, Option, Some, None, unwrap_or}
use Rattle.std.specs.List.{flat_map}
use Rattle.stow_page.specs.StowTreeModel.Merged.{same_key}
use Rattle.stow_page.specs.StowTreeModel.Op.{Op, Put, Gone, Append, bytes_in}
use Rattle.stow_page.specs.StowTreeModel.TreeMessage.{TreeMessage}
use Rattle.stow_page.specs.StowTreeModel.Version.{Version}
use Rattle.stow_merge.specs.declared.kept_version.KeptVersion as coded

-- the bytes that messages carry, from one of them to before another
abbrev pub bytes_between : List TreeMessage → ℕ → ℕ → List ℕ
bytes_between messages from to = flat_map (λ m. bytes_in m.op) (drop from (take to messages))

-- the value whose bytes begin there, if it is one
abbrev pub value_between : List TreeMessage → Option ℕ → ℕ → Option (List ℕ)
value_between messages None to = None
value_between messages (Some from) to = Some (bytes_between messages from to)

-- what the code's type stands for
abbrev pub kept_version : List TreeMessage → coded.KeptVersion → Version
kept_version messages k =
    record { key = k.key.bytes.now; number = k.number; value = value_between messages k.from k.to }

-- where the bytes of a key's value begin after one more operation
abbrev pub start_after : ℕ → Op → Option ℕ → Option ℕ
start_after at (Put value) before = Some at
start_after at Gone before = None
start_after at (Append suffix) before = Some (unwrap_or before at)

-- there is a next newer message, and it is of the key
abbrev pub is_of_key : List ℕ → Option TreeMessage → Bool
is_of_key key None = false
is_of_key key (Some newer) = same_key newer.key key
