use Rattle.std.proofs.Common.{◌∷◌, ap, ◌∙◌}
use Rattle.stow_ledger.specs.Charges.{charge_after_write}
use Rattle.stow_ledger.specs.Accounts.{Write}
use Rattle.stow_ledger.proofs.account.Account.after_write.Goals as goal

pub returns-clause-given : goal.returns-clause-given
returns-clause-given c = (
  Write c.args.change.now c.args.pins.now ∷ c.requires.given.0,
  c.after_write.ensures ∙ ap (λ so_far. charge_after_write so_far c.args.change.now c.args.pins.now) c.requires.given.1,
)
