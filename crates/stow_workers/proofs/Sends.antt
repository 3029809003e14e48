-- What workers share may be reached from several threads.
use denote.Ref.{NamedLft}
use denote.RattleType.{RattleType}
use denote.Param.Send.{IsSend, IsSync, Frees, sendable, struct_sync}
use denote.Struct.Declared.{shape}
use Rattle.crossbeam_channel.proofs.channel.Receiver.TheSendSync as receiver
use Rattle.std.proofs.CrossingOver.{crosses}
use Rattle.std.specs.contracts.option.Option as option
use Rattle.std.specs.declared.alloc.Allocator.{Ghosts}
use Rattle.stow_shared.specs.declared.journal.Journal as journal
use Rattle.stow_shared.proofs.Sends.{shared_syncs}
use Rattle.stow_workers.specs.contracts.equipment.Equipment as equipment
use Rattle.stow_workers.specs.contracts.workplace.Workplace as workplace
use Rattle.stow_workers.proofs.equipment.Equipment.TheSendSync as equipment_send
use Rattle.stow_workers.proofs.wake.Wake.TheSendSync as wake

module _ (κ : NamedLft) (R K G A : RattleType) (k : journal.Ghosts K.Denot) (g : Ghosts A.Denot) where
  pub workplace_syncs : IsSync R → IsSend K → IsSync G → IsSend A → IsSync A → Frees g g.dealloc_token → IsSync (workplace.the_field κ R K G A k g).row
  workplace_syncs run own gate sent synced free =
      let s = shared_syncs K A k g own sent synced free in
      struct_sync (shape (workplace.the_type κ R K G A k g)) (
        search sendable,
        (
          search sendable,
          (search (receiver.the_sync, wake.the_send, sendable) depth 8, (search sendable, (search sendable, tt))),
        ),
      )

module _ (A : RattleType) (g : Ghosts A.Denot) where
  -- and so may what a worker needs
  pub equipment_sends : IsSend A → IsSync A → Frees g g.dealloc_token → IsSend (option.the_row (equipment.the_row A g))
  equipment_sends sent synced free = search (equipment_send.the_send, crosses, sendable) depth 8
