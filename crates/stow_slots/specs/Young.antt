-- Slots of which the youngest stand in a list of their own.
use Rattle.std.specs.Prelude.{◌≡◌, ℕ, zero, suc, ◌+◌, ◌-◌, ◌*◌, ◌<◌, ◌≤◌, List, [], ◌∷◌, ◌++◌, length, take, drop}
use Rattle.std.specs.List.{AllByRecursion, insert}
use Rattle.stow_raw.specs.RawBuf.{RawLists, raw_lists, raw_used}
use Rattle.stow_slots.specs.declared.young_slot.YoungSlot.{YoungSlot}

abbrev pub young_slot : ℕ → ℕ → YoungSlot
young_slot behind slot = record { behind = behind; slot = slot }

-- the slots in order, past so many of the older ones: each young one behind so many of the older
unfoldable pub merged_from : ℕ → List ℕ → List YoungSlot → List ℕ
merged_from past older [] = older
merged_from past older (y ∷ later) = take (y.behind - past) older
    ++ (y.slot ∷ merged_from y.behind (drop (y.behind - past) older) later)

abbrev pub merged : List ℕ → List YoungSlot → List ℕ
merged = merged_from 0

-- none stands behind fewer of the older ones than the one before it
unfoldable pub AreRising : ℕ → List YoungSlot → Type 0
AreRising past [] = Unit {0}
AreRising past (y ∷ later) = (past ≤ y.behind) × AreRising y.behind later

-- so many of the young ones stand before the place with this index, past so many of the older ones
unfoldable pub IsRank : ℕ → ℕ → List YoungSlot → ℕ → Type 0
IsRank past index [] zero = Unit {0}
IsRank past index [] (suc rank) = ⊥
IsRank past index (y ∷ later) zero = index ≤ y.behind - past
IsRank past index (y ∷ later) (suc rank) = (y.behind - past < index)
    × IsRank y.behind (index - (y.behind - past) - 1) later rank

-- the young ones with one more, which stands at the place with this index among all
pub record HasOneMore (old : List YoungSlot) (index slot : ℕ) (new : List YoungSlot) : Type 0 where
  pub rank : ℕ
  pub is_rank : IsRank 0 index old rank
  pub are : new ≡ insert old rank (young_slot (index - rank) slot)

-- the young slots belong among these older ones, and the block has room for them
pub record IsYoung (raw : RawLists) (young : List YoungSlot) : Type 0 where
  pub rising : AreRising 0 young
  pub among : AllByRecursion (λ y. y.behind ≤ length raw.slots) young
  pub room : raw_used raw + 4 * length young ≤ raw.capacity

-- the block, with all slots in order
abbrev pub all_lists : RawLists → List YoungSlot → RawLists
all_lists raw young = raw_lists raw.front (merged raw.slots young) raw.capacity
