use Rattle.std.proofs.Common.{Err, inl, refl}
use Rattle.stow_program.proofs.program.program.Goals as goal

pub returns-in-Err-clause-ends : goal.returns-in-Err-clause-ends
returns-in-Err-clause-ends g c = (Err c.in-Err.failure, inl (c.in-Err.ensures.err, refl, refl), c.conclude-in-Err.ensures)
