use Rattle.std.proofs.Common.{◌-◌, length}
use Rattle.stow_page.proofs.Pages.{IsReading}
use Rattle.stow_page.proofs.reading.read_rows.Given as goal

abbrev pub invariant-loop-rest : goal.invariant-loop-rest
invariant-loop-rest g l = IsReading l.bytes l.header.format l.header.count l.rows l.rest

abbrev pub decreases-loop-rest : goal.decreases-loop-rest
decreases-loop-rest g l = l.header.count - length l.rows
