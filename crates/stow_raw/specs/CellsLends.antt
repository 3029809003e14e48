-- What a block's bytes are once a `&mut` into them has ended.
use Rattle.std.specs.Prelude.{ℕ, ◌+◌, List, ◌++◌, map, take, drop, Option, Some}
use Rattle.std.specs.Borrow.{Fml, MutBor, Array, Lends, u8}
use Rattle.std.specs.List.{refill}
use Rattle.stow_raw.specs.Cells.{run, written}
use Rattle.stow_raw.specs.declared.cells.Cells.{Cells}
use Rattle.stow_raw.specs.contracts.cells.Cells.{the_row}

-- the same memory, holding bytes
abbrev pub with_bytes : Cells → List (Option ℕ) → Cells
with_bytes c bytes = record { ptr = c.ptr; bytes = bytes }

-- xs in the place of the len bytes from the index from on
abbrev pub spliced : List (Option ℕ) → ℕ → ℕ → List ℕ → List (Option ℕ)
spliced bytes from len xs = take from bytes ++ (map Some xs ++ drop (from + len) bytes)

-- c's bytes follow the run that r is of them
abbrev pub lends_run : MutBor Cells → ℕ → ℕ → MutBor (List ℕ) → Fml
lends_run c from len r = Lends the_row (Array u8 0) c r (λ xs. with_bytes c.now
    (spliced c.now.bytes from len (refill len (written (run c.now.bytes from len)) xs)))

-- xs in the place of all bytes from the index from on
abbrev pub with_tail : Cells → ℕ → List ℕ → Cells
with_tail c from xs = with_bytes c (take from c.bytes ++ map Some xs)
