-- What serving over TCP comes to.
use Rattle.std.specs.Prelude.{◌≡◌, ℕ, ◌+◌, List, false, max}
use Rattle.stow_tasks.specs.StowCore.State.{IsNewCore}
use Rattle.stow_tasks.specs.StowModel.Login.{Entry}
use Rattle.stow_run.specs.declared.failure.Endpoint.TheVariants as endpoint
use Rattle.stow_run.specs.declared.failure.Failure.{Failure}
use Rattle.stow_run.specs.declared.failure.Failure.TheVariants.{InputOutput, Memory}
use Rattle.stow_run.specs.declared.serving.Serving.{Serving}
use Rattle.stow_tasks.specs.StowShared.Opened.{Opens, SharedState}
use Rattle.stow_tasks.specs.StowShared.Seats.{SeatState}
use Rattle.stow_command_line.specs.StowTree.TreeState.{new_tree}
use Rattle.stow_command_line.specs.StowTree.declared.tree_shape.TreeShape.{TreeShape}
use Rattle.stow_tasks.specs.StowWorkers.Pools.{ComeBack, total_of}

-- memory was refused
abbrev pub IsMemory : Failure → Type 0
IsMemory Memory = Unit {0}
IsMemory _ = ⊥

-- no connection can be accepted any more, or memory was refused
abbrev pub IsOfNetwork : Failure → Type 0
IsOfNetwork (InputOutput endpoint.Network error) = Unit {0}
IsOfNetwork Memory = Unit {0}
IsOfNetwork _ = ⊥

-- as many workers as were asked for, one at least
abbrev pub workers_of : Serving → ℕ
workers_of serving = max 1 serving.workers

-- a lock was opened over a core of these tenants in which every store is empty, and a new tree of
-- this shape, with a new seat for each worker and each flusher
pub record IsOpened (entries : List Entry) (shape : TreeShape) (serving : Serving)
    (shared : SharedState) (seats : List SeatState) : Type 0 where
  pub empty : IsNewCore shared.opened
  pub tenants : shared.opened.entries ≡ entries
  pub tree : shared.opened.tree ≡ new_tree shape
  pub opens : Opens shared.opened (serving.workers + serving.flushers) shared seats

-- Connections were served to their end: over this lock, which was opened so, all its seats came
-- back, the workers' after calls alone and the flushers' after plans and installs alone, and as
-- many connections were accepted as were asked for.
pub record IsServed (entries : List Entry) (shape : TreeShape) (serving : Serving)
    (shared : SharedState) (seats : List SeatState) (accepted : ℕ) : Type 0 where
  pub first : List SeatState
  pub opened : IsOpened entries shape serving shared first
  pub back : ComeBack false (workers_of serving) first seats
  pub total : accepted ≡ total_of serving.connections
