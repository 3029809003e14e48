use Rattle.std.proofs.Common.{refl}
use Rattle.stow_node.proofs.node.Node.children.Goals as goal

pub returns : goal.returns
returns g c =
    rw (← c.self.view_is) (rw c.as_slice.ensures.value (record {
      width = refl;
      some = c.self.invariant.some;
      low = c.self.invariant.first;
      deeper = refl;
      nearest = refl;
      deepest = refl;
      leaves = refl;
      tiled = c.self.invariant.tiled;
      level = c.self.invariant.level;
      from = c.self.invariant.from;
      newer = c.self.invariant.newer;
    }))
