use Rattle.std.proofs.Common.{sym, subst}
use Rattle.stow_script.specs.Read.{IsEventRead}
use Rattle.stow_script.proofs.Lines.{of_same}
use Rattle.stow_script.proofs.reading.read_event.Goals as goal

pub returns-then-is_same-2 : goal.returns-then-is_same-2
returns-then-is_same-2 g c =
    subst (λ word. IsEventRead c.args.tenants.now word c.args.rest.now c.read_piece.result) (sym (of_same _ _ c.is_same-else-is_same.result c.if-is_same-2.true c.is_same-else-is_same.ensures)) (c.read_piece.ensures c.args.tenants.now)
