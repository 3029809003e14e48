-- What a flusher does at its door, told newest first.
use Rattle.std.specs.Prelude.{◌≡◌, ℕ, ◌<◌, ◌≤◌, List, [], ◌∷◌, length, Option, Some, IsSome, ◌⊎◌}
use Rattle.stow_shared.specs.StowNode.declared.installed.Installed.{Installed}
use Rattle.stow_shared.specs.StowHouse.FlushDoors.{Flushing, Planned, Came, Refused}

-- what was done led a door from one state to another, each step in the door's relation
unfoldable pub FlushTo : {D : Type 0} → (D → Flushing → D → Type 0) → D → List Flushing → D
    → Type 0
FlushTo flushes old [] new = new ≡ old
FlushTo flushes old (newest ∷ earlier) new = (before : _) × FlushTo flushes old earlier before
    × flushes before newest new

-- plans and installs alone led a door from one state to the other
pub record HasFlushed {D : Type 0} (flushes : D → Flushing → D → Type 0) (old new : D) : Type 0
  where
    pub done : List Flushing
    pub led : FlushTo flushes old done new

-- ---- a wake

-- a wake goes on where nothing was done yet, or a result has come
abbrev pub GoesOn : List Flushing → Type 0
GoesOn [] = Unit {0}
GoesOn (Planned messages ∷ earlier) = ⊥
GoesOn (Came told ∷ earlier) = Unit {0}
GoesOn (Refused ∷ earlier) = ⊥

-- a job was planned, whose result hasn't come yet
abbrev pub HasJob : List Flushing → Type 0
HasJob [] = ⊥
HasJob (Planned messages ∷ earlier) = IsSome messages
HasJob (Came told ∷ earlier) = ⊥
HasJob (Refused ∷ earlier) = ⊥

-- a flush is planned where the wake goes on, and a result comes after its job; memory may be
-- refused to either
abbrev pub CanFollow : Flushing → List Flushing → Type 0
CanFollow (Planned messages) earlier = GoesOn earlier
CanFollow (Came told) earlier = HasJob earlier
CanFollow Refused earlier = GoesOn earlier ⊎ HasJob earlier

unfoldable pub AreInTurn : List Flushing → Type 0
AreInTurn [] = Unit {0}
AreInTurn (newest ∷ earlier) = CanFollow newest earlier × AreInTurn earlier

-- the last flush, behind earlier steps, was of so many messages, and its result came
pub record EndsIn (messages : ℕ) (earlier done : List Flushing) : Type 0 where
  pub told : Installed
  pub is : done ≡ Came told ∷ Planned (Some messages) ∷ earlier

-- the last flush was of fewer messages than a worker's requests in eight wakes
pub record EndsInFew (done : List Flushing) : Type 0 where
  pub messages : ℕ
  pub few : messages < 512
  pub earlier : List Flushing
  pub ends : EndsIn messages earlier done

-- one flush at most, which was of so many messages where its result came
pub record IsOneFlush (messages : Option ℕ) (done : List Flushing) : Type 0 where
  pub in_turn : AreInTurn done
  pub most : length done ≤ 2
  pub whole : (count : ℕ) → messages ≡ Some count → EndsIn count [] done
  pub ended : GoesOn done → IsSome messages

-- nothing was done behind a flush of few messages
abbrev pub StopsAtFew : List Flushing → Type 0
StopsAtFew [] = Unit {0}
StopsAtFew (newest ∷ earlier) = (EndsInFew earlier → ⊥) × StopsAtFew earlier

-- What one wake led to: plan and install in turn, until there was no job or memory was refused,
-- there were 16 of each, or a flush was of few messages.
pub record IsOneWake (done : List Flushing) : Type 0 where
  pub in_turn : AreInTurn done
  pub most : length done ≤ 32
  pub stopped : StopsAtFew done
  pub ended : GoesOn done → (length done ≡ 32) ⊎ EndsInFew done

-- a door after one flush, and after one wake
pub record FlushesOnce {D : Type 0} (flushes : D → Flushing → D → Type 0) (old : D)
    (messages : Option ℕ) (new : D) : Type 0 where
  pub done : List Flushing
  pub led : FlushTo flushes old done new
  pub is_flush : IsOneFlush messages done

pub record WakesOnce {D : Type 0} (flushes : D → Flushing → D → Type 0) (old new : D) : Type 0 where
  pub done : List Flushing
  pub led : FlushTo flushes old done new
  pub is_wake : IsOneWake done
