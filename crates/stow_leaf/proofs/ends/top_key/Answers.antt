use Rattle.std.proofs.Common.{arith}
use Rattle.stow_merge.specs.StowTreeModel.Keys.{tenant_of}
use Rattle.stow_leaf.proofs.ends.top_key.Goals as goal

pub from_packed-requires : goal.from_packed-requires
unfolding tenant_of
from_packed-requires c = record { has_index = omega arith; is_short = omega arith; is_near = omega arith }
