use Rattle.stow_page.proofs.Whole.{one_fault_lem}
use Rattle.stow_page.proofs.laws.one_fault.Goals as goal

pub returns : goal.returns
returns c = one_fault_lem
