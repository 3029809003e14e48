-- Intervals of all tenants' keys.
use Rattle.std.specs.Prelude.{◌≡◌, ℕ, List, [], ◌∷◌, Bool, false, not, ◌&&◌, None}
use Rattle.std.specs.Ordering.{is_lt}
use Rattle.stow_merge.specs.StowBytes.Bytes.{bytes_cmp}
use Rattle.stow_merge.specs.StowTreeModel.Messages.{ops_in}
use Rattle.stow_merge.specs.StowTreeModel.TreeMessage.{TreeMessage}

-- the upper end of all tenants' keys
abbrev pub top_key : List ℕ
top_key = 0 ∷ 1 ∷ 0 ∷ 0 ∷ []

-- the key is from the lower end on and below the upper end
abbrev pub spans : List ℕ → List ℕ → List ℕ → Bool
spans low high key = not (is_lt (bytes_cmp key low)) && is_lt (bytes_cmp key high)

-- no message is of a key outside
pub record NoneOutside (low high : List ℕ) (ms : List TreeMessage) : Type 0 where
  pub outside : (key : List ℕ) (n : ℕ) → spans low high key ≡ false → ops_in ms key n ≡ None
