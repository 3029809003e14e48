-- A reader or a writer that is lent, and whose failures are counted.
use Rattle.std.specs.Prelude.{◌≡◌, ℕ, Option, Some, Result, Ok, Err}
use Rattle.std.specs.Borrow.{GName}
use Rattle.std.specs.declared.io.Error.{Error}
use Rattle.stow_workers.specs.declared.counted.Counted.{Counted}

abbrev pub inner_of : {T : Type 0} → Counted T → T
inner_of counted = counted.inner.now

-- the borrow by which it is lent
abbrev pub borrow_of : {T : Type 0} → Counted T → GName
borrow_of counted = counted.inner.ghost_name

abbrev pub failures_of : {T : Type 0} → Counted T → ℕ
failures_of counted = counted.failures

-- why the last call that failed did
abbrev pub last_of : {T : Type 0} → Counted T → Option Error
last_of counted = counted.last

-- the reason of a failure is kept, and else the one before it
abbrev pub KeepsReason : {T : Type 0} → Result T Error → Option Error → Option Error → Type 0
KeepsReason (Ok value) old new = new ≡ old
KeepsReason (Err error) old new = new ≡ Some error
