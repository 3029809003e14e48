use Rattle.stow_node.proofs.Raised.{whole_tile}
use Rattle.stow_node.proofs.node.Node.shape.Goals as goal

pub returns-clause-tile : goal.returns-clause-tile
returns-clause-tile g c = rw (← c.self.view_is) (whole_tile c.self.inside c.self.invariant)
