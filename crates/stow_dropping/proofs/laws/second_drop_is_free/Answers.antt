use Rattle.stow_dropping.proofs.FreeDrops.{second_drop_is_free_law}
use Rattle.stow_dropping.proofs.laws.second_drop_is_free.Goals as goal

pub returns : goal.returns
returns c = second_drop_is_free_law
