use Rattle.std.proofs.Common.{◌≡◌, ◌∙◌, ℕ, List, arith}
use Rattle.stow_house.specs.StowCore.State.{CoreState}
use Rattle.stow_model.specs.Login.{Entry}
use Rattle.stow_shared.specs.Opened.{SharedState}
use Rattle.stow_shared.proofs.shared.Shared.open.Goals as goal

same_shared : (tenants entries : List Entry) (seats : ℕ) (opened core : CoreState) → tenants ≡ entries → opened ≡ core
    → ◌≡◌ {A = SharedState} (record { tenants = tenants; seats = seats; opened = opened }) (record { tenants = entries; seats = seats; opened = core })
same_shared tenants entries seats opened core who what = cc

pub returns-in-Ok-try_clone-clause-opened : goal.returns-in-Ok-try_clone-clause-opened
returns-in-Ok-try_clone-clause-opened g c = record {
  counted = (omega (arith, c.if-seats-eq0.false), omega (arith, c.if-seats-gt-SEAT_LIMIT.false));
  shares = same_shared _ _ _ _ _ (c.in-Ok-try_clone.ensures ∙ c.tenants.ensures) c.of.ensures;
  each = c.in-Ok.ensures;
}
