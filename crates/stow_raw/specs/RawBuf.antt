-- What a contract sees of a `RawBuf`.
use Rattle.std.specs.Prelude.{ℕ, ◌+◌, ◌*◌, ◌≤◌, List, length, refl}
use Rattle.std.specs.Coded.{Coded, code_by, coded×, coded_list, coded_ℕ}

-- the bytes from the front, the numbers from the back, and the bytes of the block
pub record RawLists : Type 0 where
  pub front : List ℕ
  pub slots : List ℕ
  pub capacity : ℕ

abbrev pub raw_lists : List ℕ → List ℕ → ℕ → RawLists
raw_lists front slots capacity = record { front = front; slots = slots; capacity = capacity }

abbrev pub raw_lists_code : Coded RawLists
raw_lists_code =
    code_by (List ℕ × (List ℕ × ℕ))
    (coded× (coded_list coded_ℕ) (coded× (coded_list coded_ℕ) coded_ℕ))
    (λ b. (b.front, (b.slots, b.capacity))) (λ p. raw_lists p.0 p.1.0 p.1.1) (λ _. refl)

-- the bytes in use
abbrev pub raw_used : RawLists → ℕ
raw_used b = length b.front + 4 * length b.slots

-- so many more bytes fit
abbrev pub RawFits : RawLists → ℕ → Type 0
RawFits b n = raw_used b + n ≤ b.capacity
