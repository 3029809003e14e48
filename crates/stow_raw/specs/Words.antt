-- Numbers of 32 bits in rows of bytes.
use Rattle.std.specs.Prelude.{ℕ, zero, suc, List, [], ◌∷◌, take, drop}
use Rattle.std.specs.Int.{w32, from_be_bytes}

-- the k numbers in the first 4 * k bytes, the highest byte of each first
unfoldable pub words : ℕ → List ℕ → List ℕ
words zero bs = []
words (suc k) bs = from_be_bytes w32 (take 4 bs) ∷ words k (drop 4 bs)
