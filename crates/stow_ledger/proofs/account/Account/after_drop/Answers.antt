use Rattle.std.proofs.Common.{◌≡◌, ◌≤◌, ◌-◌, ℕ, ◌∷◌, ap, ◌∙◌, sym, subst, arith}
use Rattle.std.specs.Prelude.{sum_by}
use Rattle.stow_ledger.specs.declared.charge.Charge.{Charge}
use Rattle.stow_ledger.specs.Charges.{charge_after_drop, row_freed}
use Rattle.stow_ledger.specs.Accounts.{Drop}
use Rattle.stow_ledger.proofs.account.Account.after_drop.Goals as goal

less : (a b : ℕ) → a - b ≤ a
less a b = omega arith

pub returns-clause-given : goal.returns-clause-given
returns-clause-given c = (
  Drop c.args.rows.now c.args.pins.now ∷ c.requires.0,
  c.after_drop.ensures ∙ ap (λ so_far. charge_after_drop so_far c.args.rows.now c.args.pins.now) c.requires.1,
)

pub returns-clause-lower : goal.returns-clause-lower
returns-clause-lower c =
    let is : c.after_drop.result.charge ≡ c.args.so_far.charge - sum_by (row_freed c.args.pins.now) c.args.rows.now = ap (λ (x : Charge). x.charge) c.after_drop.ensures in
    subst (λ n. n ≤ c.args.so_far.charge) (sym is) (less c.args.so_far.charge (sum_by (row_freed c.args.pins.now) c.args.rows.now))
