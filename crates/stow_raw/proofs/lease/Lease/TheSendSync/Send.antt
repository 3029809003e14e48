-- A lease crosses threads where the right to free a block does.
use denote.RattleType.{RattleType}
use denote.Param.Send.{Frees, IsSend, owning_send, sendable}
use Rattle.std.specs.declared.alloc.Allocator.{Ghosts}
use Rattle.stow_raw.specs.Lease.{bytes_type}
use Rattle.stow_raw.specs.contracts.lease.Lease.{the_row, the_type}

pub send : (A : RattleType) (g : Ghosts A.Denot) → IsSend A → Frees g g.dealloc_token → IsSend (the_row A g)
send A g _ free = owning_send (the_type A g) (search sendable, tt) (λ d. free.frees d.alloc (bytes_type d.len) d.at) (λ k d w. tt)
