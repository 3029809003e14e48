use Rattle.stow_ledger.proofs.Costs.{cost_by_members_law}
use Rattle.stow_ledger.proofs.laws.cost_by_members.Goals as goal

pub returns : goal.returns
returns c = cost_by_members_law
