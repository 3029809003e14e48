-- A `&` to a lease shows nothing.
use denote.RattleType.{RattleType}
use denote.Param.Send.{IsSync, sendable, struct_sync}
use denote.Struct.Owning.{shape, to}
use Rattle.std.specs.declared.alloc.Allocator.{Ghosts}
use Rattle.stow_raw.specs.contracts.lease.Lease.{the_row, the_type}

pub sync : (A : RattleType) (g : Ghosts A.Denot) → IsSync (the_row A g)
sync A g = let T = the_type A g in record { shared = λ d b o κ. ((struct_sync (shape T) (search sendable, tt)).shared (to T d) b o κ, tt) }
