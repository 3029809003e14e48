-- A desk that wakes flushers, as a door.
use Rattle.std.specs.Prelude.{ℕ, Bool, List}
use Rattle.stow_model.specs.Reply.{Reply}
use Rattle.stow_shared.specs.Desks.{DeskCalls}
use Rattle.stow_workers.specs.declared.waking_desk.WakingDesk.{WakingDesk}

-- it answers as its desk does
abbrev pub WakingCalls : {R J A : Type 0} → Bool → WakingDesk R J A → ℕ → List (List ℕ) → Reply
    → WakingDesk R J A → Type 0
WakingCalls keeps old tenant words told new = DeskCalls keeps old.desk tenant words told new.desk
