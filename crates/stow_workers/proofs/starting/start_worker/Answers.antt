use denote.Param.Send.{sendable}
use denote.Ref.{NamedLft}
use Rattle.stow_shared.proofs.seat.Seat.TheSendSync as seat
use Rattle.stow_workers.proofs.Sends.{workplace_syncs, equipment_sends}
use Rattle.stow_workers.proofs.Workers.{no_calls}
use Rattle.stow_workers.proofs.starting.start_worker.Goals as goal

pub returns-then-is_none : goal.returns-then-is_none
returns-then-is_none g c = no_calls _ _

pub spawn_with-requires-send-F : goal.spawn_with-requires-send-F
spawn_with-requires-send-F g c κs within =
    let sent = c.type_bounds.send-A in let own = c.type_bounds.send-J in let synced = c.type_bounds.sync-A in
    let w = λ (κ : NamedLft). workplace_syncs κ _ _ _ _ g.J.Journal _ c.type_bounds.sync-R own c.type_bounds.sync-G sent synced c.type_bounds.frees-A-Allocator in
    search (w, seat.the_send, equipment_sends, sendable) depth 12
