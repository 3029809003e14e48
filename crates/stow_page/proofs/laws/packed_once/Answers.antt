use Rattle.stow_page.proofs.Whole.{packed_once_lem}
use Rattle.stow_page.proofs.laws.packed_once.Goals as goal

pub returns : goal.returns
returns c = packed_once_lem
