use Rattle.stow_page.proofs.Whole.{page_has_no_fault_lem}
use Rattle.stow_page.proofs.laws.page_has_no_fault.Goals as goal

pub returns : goal.returns
returns c = page_has_no_fault_lem
