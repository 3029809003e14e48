-- How the two lists of a `RawBuf` lie in the bytes of its block.
use Rattle.std.specs.Prelude.{◌≡◌, ℕ, ◌+◌, ◌-◌, ◌*◌, ◌≤◌, List, length, take, drop, Option, MatchOption}
use Rattle.stow_raw.specs.Cells.{written, IsWritten}
use Rattle.stow_raw.specs.Frees.{Frees}
use Rattle.stow_raw.specs.Words.{words}
use Rattle.stow_raw.specs.declared.block.Block.{Block}

module _ {A : Type 0} where
  -- where the slots begin
  abbrev pub slots_start : Block A → ℕ
  slots_start b = b.capacity - 4 * b.slots

  abbrev pub front_cells : Block A → List (Option ℕ)
  front_cells b = take b.front b.cells.bytes

  abbrev pub slot_cells : Block A → List (Option ℕ)
  slot_cells b = drop (slots_start b) b.cells.bytes

  abbrev pub front_of : Block A → List ℕ
  front_of b = written (front_cells b)

  abbrev pub slots_of : Block A → List ℕ
  slots_of b = words b.slots (written (slot_cells b))

  pub record IsLaid (b : Block A) : Type 0 where
    pub places : length b.cells.bytes ≡ b.capacity
    pub within : b.front + 4 * b.slots ≤ b.capacity
    pub front : IsWritten (front_cells b)
    pub slots : IsWritten (slot_cells b)
    pub lease : MatchOption b.lease (b.capacity ≡ 0)
        (λ l. Frees l b.cells.ptr b.capacity b.alloc)

  -- c is b's block with these lists in it
  abbrev pub Becomes : Block A → Block A → List ℕ → List ℕ → Type 0
  Becomes b c front slots = IsLaid c × (c.capacity ≡ b.capacity) × (front_of c ≡ front)
      × (slots_of c ≡ slots)
