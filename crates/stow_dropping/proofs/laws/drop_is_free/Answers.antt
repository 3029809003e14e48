use Rattle.stow_dropping.proofs.FreeDrops.{drop_is_free_law}
use Rattle.stow_dropping.proofs.laws.drop_is_free.Goals as goal

pub returns : goal.returns
returns c = drop_is_free_law
