use Rattle.stow_run.specs.declared.failure.Endpoint.TheVariants as endpoint
use Rattle.stow_program.specs.Outcomes.{EndsServing}
use Rattle.stow_program.proofs.Outcomes.{ends_at_network, failed_there, handed_on}
use Rattle.stow_program.proofs.serve.serve_connections.Goals as goal

pub returns-in_err-address-clause-err : goal.returns-in_err-address-clause-err
returns-in_err-address-clause-err g c =
    handed_on (EndsServing _ _) c.from_residual-in_err-address.result c.in_err-address.field-0.0 c.from_residual-in_err-address.ensures.1
    (failed_there (EndsServing _ _) endpoint.Network c.local_addr.result c.in_err-address.field-0.0 c.in_err-address.ensures (ends_at_network _ _))

pub returns-in_err-tell_address-clause-err : goal.returns-in_err-tell_address-clause-err
returns-in_err-tell_address-clause-err g c =
    handed_on (EndsServing _ _) c.from_residual-in_err-tell_address.result c.in_err-tell_address.field-0.0 c.from_residual-in_err-tell_address.ensures.1 c.in_err-tell_address.ensures.err
