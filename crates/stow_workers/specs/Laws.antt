-- What serving a connection through a core in which nothing has happened comes to.
use Rattle.std.specs.Prelude.{◌≡◌, ℕ, List, map, filter, ◌==◌}
use Rattle.stow_model.specs.Login.{Entry, quota_of}
use Rattle.stow_model.specs.Store.{OwnEvent, Asked, store_after, is_out_of_memory}
use Rattle.stow_model.specs.History.{Step, At, IsHistory, line_of, output_of, told_to}
use Rattle.stow_shared.specs.StowCore.State.{CoreState, store_of, IsNewCore, Calls}
use Rattle.stow_shared.specs.StowHouse.Conversations.{Exchange}
use Rattle.stow_workers.specs.Exchanges.{Call, steps_of, calls_in, told_in}
use Rattle.stow_workers.specs.Talks.{Course}

-- the history of this connection alone
abbrev pub history_of : ℕ → List Exchange → List Step
history_of c exchanges = map (At c) (steps_of exchanges)

abbrev pub calls_of : ℕ → List Call → List Call
calls_of tenant calls = filter (λ call. call.tenant == tenant) calls

-- what a call brings to its tenant's store
abbrev pub asked_by : Call → OwnEvent
asked_by call =
    Asked (record { words = call.words; is_refused = is_out_of_memory call.reply })

-- A connection was served through this core: what went on is a history of the connection, the calls
-- of each tenant and their replies are its line and what it is told, what is to be written is the
-- connection's output, and each tenant's store is the last of its own run.
pub record IsOneHistory (c : ℕ) (entries : List Entry) (exchanges : List Exchange)
    (core : CoreState) : Type 0 where
  pub is_history : IsHistory entries (history_of c exchanges)
  pub calls : (tenant : ℕ) → map asked_by (calls_of tenant (calls_in entries exchanges))
      ≡ line_of entries tenant (history_of c exchanges)
  pub replies : (tenant : ℕ)
      → map (λ call. call.reply) (calls_of tenant (calls_in entries exchanges))
      ≡ told_to entries tenant (history_of c exchanges)
  pub output : told_in entries exchanges ≡ output_of entries c (history_of c exchanges)
  pub stores : (tenant : ℕ) → store_of core tenant
      ≡ store_after (quota_of entries tenant)
      (line_of entries tenant (history_of c exchanges))

-- through a core with empty stores and these tenants, whatever was read
abbrev pub OneConnection : Type 0
OneConnection =
    (c : ℕ) (entries : List Entry) (old new : CoreState) (read : List ℕ) (exchanges : List Exchange)
    → IsNewCore old → old.entries ≡ entries → Course Calls entries old new read exchanges
    → IsOneHistory c entries exchanges new
