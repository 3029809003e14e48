-- A shared core may be called from several threads where its allocator may. The tree holds types of a cycle, so the search needs it said.
use denote.RattleType.{RattleType}
use denote.Param.Send.{IsSend, IsSync, Frees, sendable, struct_send, struct_sync}
use denote.Struct.Declared.{shape}
use Rattle.std.specs.declared.alloc.Allocator.{Ghosts}
use Rattle.std.proofs.Crossing as at_heap
use Rattle.std.proofs.CrossingOver.{crosses}
use Rattle.stow_house.proofs.StowCore.Sends.{core_sends}
use Rattle.stow_house.proofs.StowLogin.tenants.Tenants.TheSendSync as tenants
use Rattle.stow_shared.proofs.entry.Entry.TheSendSync as entry
use Rattle.stow_shared.proofs.turns.Turns.TheSendSync as turns
use Rattle.stow_shared.specs.declared.journal.Journal as journal
use Rattle.stow_shared.specs.contracts.book.Book as book
use Rattle.stow_shared.specs.contracts.book.Book.TheInside as in_book
use Rattle.stow_shared.specs.contracts.shared.Shared as shared
use Rattle.stow_shared.specs.contracts.shared.Shared.TheInside as in_shared

module _ (K A : RattleType) (k : journal.Ghosts K.Denot) (g : Ghosts A.Denot) where
  book_fields_send : IsSend K → IsSend A → IsSync A → Frees g g.dealloc_token → IsSend (in_book.the_field K A k g).row
  book_fields_send own sent synced free =
      struct_send (shape (in_book.the_type K A k g)) (
        core_sends A g sent synced free,
        (search (entry.the_field_send, crosses, sendable) depth 8, (search (at_heap.crosses, sendable) depth 8, tt)),
      )

  pub book_sends : IsSend K → IsSend A → IsSync A → Frees g g.dealloc_token → IsSend (book.the_field K A k g).row
  book_sends own sent synced free = let f = book_fields_send own sent synced free in search sendable

  shared_fields_sync : IsSend K → IsSend A → IsSync A → Frees g g.dealloc_token → IsSync (in_shared.the_field K A k g).row
  shared_fields_sync own sent synced free =
      let b = book_sends own sent synced free in
      struct_sync (shape (in_shared.the_type K A k g)) (
        search (tenants.the_send, tenants.the_sync, crosses, sendable) depth 8,
        (search sendable, (search (turns.the_field_sync, sendable), (search (at_heap.crosses, sendable) depth 8, (search (at_heap.crosses, sendable) depth 8, tt)))),
      )

  pub shared_syncs : IsSend K → IsSend A → IsSync A → Frees g g.dealloc_token → IsSync (shared.the_field K A k g).row
  shared_syncs own sent synced free = let f = shared_fields_sync own sent synced free in search sendable
