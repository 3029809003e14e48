use Rattle.std.proofs.Common.{rules}
use Rattle.stow_house.proofs.Stood.{stands_new}
use Rattle.stow_house.proofs.house.House.new.Goals as goal

pub returns-clause-stands : goal.returns-clause-stands
returns-clause-stands g c = λ empty. stands_new _ (search rules) empty
