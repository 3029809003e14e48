use Rattle.std.proofs.lemmas.Nat.{and_le_l}
use Rattle.stow_slots.proofs.quartering.step_if.Goals as goal

pub returns : goal.returns
returns c = and_le_l c.args.step _
