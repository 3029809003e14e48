use Rattle.stow_dropping.proofs.FreeDrops.{present_drop_is_free_law}
use Rattle.stow_dropping.proofs.laws.present_drop_is_free.Goals as goal

pub returns : goal.returns
returns c = present_drop_is_free_law
