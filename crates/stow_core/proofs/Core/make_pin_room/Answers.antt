use Rattle.std.proofs.Common.{refl}
use Rattle.stow_core.proofs.Kept.{core_repinned}
use Rattle.stow_core.proofs.RowLengths.{repinned_lengths}
use Rattle.stow_core.proofs.Core.make_pin_room.Goals as goal

pub invariant_of-self : goal.invariant_of-self
invariant_of-self g c = (core_repinned _ c.self.inside.pins c.room.new.self 0 c.self.invariant.0 c.room.ensures.same (λ ne. absurd (ne refl)), repinned_lengths _ 0 c.self.inside.lengths c.self.invariant.1)

pub invariant_of-self-2 : goal.invariant_of-self-2
invariant_of-self-2 g c = (core_repinned _ c.self.inside.pins c.room.new.self c.args.tenant c.self.invariant.0 c.room.ensures.same (λ _. c.in_ok-room.ensures.room), repinned_lengths _ c.args.tenant c.self.inside.lengths c.self.invariant.1)
