use Rattle.stow_node.specs.Nodes.{parts_of}
use Rattle.stow_node.proofs.Heaviest.{IsHeaviestOf}
use Rattle.stow_node.proofs.moving.heaviest.Given as goal

abbrev pub invariant-loop-index : goal.invariant-loop-index
invariant-loop-index g l = IsHeaviestOf (parts_of l.children) l.buffer l.index l.best l.most
