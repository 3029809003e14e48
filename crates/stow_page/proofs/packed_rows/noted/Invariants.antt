use Rattle.std.proofs.Common.{◌≢◌}
use Rattle.std.specs.Prelude.{IfSome}
use Rattle.stow_page.specs.Rows.{rows_in}
use Rattle.stow_page.proofs.Noting.{Noting}
use Rattle.stow_page.proofs.packed_rows.noted.Given as goal

abbrev pub invariant-loop-index : goal.invariant-loop-index
invariant-loop-index g l = Noting (rows_in l.format l.bytes l.places) l.index l.filter l.alone (λ other. IfSome l.last (λ key. key.bytes.now ≢ other))
