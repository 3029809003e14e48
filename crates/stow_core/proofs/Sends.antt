-- A core may cross threads where its allocator may. The tree holds types of a cycle, so the search needs it said.
use denote.RattleType.{RattleType}
use denote.Param.Send.{IsSend, IsSync, Frees, sendable, struct_send}
use denote.Struct.Declared.{shape}
use Rattle.std.specs.declared.alloc.Allocator.{Ghosts}
use Rattle.std.proofs.CrossingOver.{crosses}
use Rattle.stow_core.proofs.lengths.Lengths.TheSendSync as lengths
use Rattle.stow_core.proofs.held_back.HeldBack.TheSendSync as held_back
use Rattle.stow_core.proofs.places.Places.TheSendSync as places
use Rattle.stow_core.proofs.tenancy.Tenancy.TheSendSync as tenancy
use Rattle.stow_core.specs.contracts.Core as core
use Rattle.stow_core.specs.contracts.Core.TheInside as inside
use Rattle.stow_login.proofs.tenants.Tenants.TheSendSync as tenants
use Rattle.stow_dropping.proofs.StowMerge.pins.Pins.TheSendSync as pins
use Rattle.stow_model.proofs.words.Words.TheSendSync as words
use Rattle.stow_dropping.proofs.StowTree.Sends.{tree_sends}

fields_send : (A : RattleType) (g : Ghosts A.Denot) → IsSend A → IsSync A → Frees g g.dealloc_token → IsSend (inside.the_field A g).row
fields_send A g sent shared free =
    struct_send (shape (inside.the_type A g)) (
      search (tenants.the_send, tenants.the_sync, crosses, sendable) depth 8,
      (
        search (tenancy.the_send, crosses, sendable) depth 8,
        (search (pins.the_send, crosses, sendable) depth 8, (search sendable, (tree_sends A g sent shared free, (search (crosses, sendable) depth 8, (search (lengths.the_send, crosses, sendable) depth 8, (search (words.the_send, crosses, sendable) depth 8, (search (places.the_send, sendable) depth 8, (search (held_back.the_send, crosses, sendable) depth 16, tt)))))))),
      ),
    )

pub core_sends : (A : RattleType) (g : Ghosts A.Denot) → IsSend A → IsSync A → Frees g g.dealloc_token → IsSend (core.the_field A g).row
core_sends A g sent shared free = let f = fields_send A g sent shared free in search sendable
