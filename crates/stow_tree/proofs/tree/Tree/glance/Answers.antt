use Rattle.std.proofs.Common.{Option, ap, subst}
use Rattle.stow_read.specs.Glance.{IsToldOf}
use Rattle.stow_tree_model.specs.Operations.{NumberedValue, Operations, latest}
use Rattle.stow_tree.specs.TreeState.{TreeState}
use Rattle.stow_tree.proofs.Read.{root_ops}
use Rattle.stow_tree.proofs.tree.Tree.glance.Goals as goal

pub glance-requires : goal.glance-requires
glance-requires g c = c.self.invariant.short c.args.key.bytes.now c.args.at

pub returns : goal.returns
returns g c = subst (λ (v : Option NumberedValue). IsToldOf v c.glance.result.newest)
    (ap (λ (f : Operations). latest f c.args.at) (root_ops c.args.self.now c.self.inside.root c.args.key.bytes.now (ap (λ (t : TreeState). t.root) c.self.view_is)))
    c.glance.ensures
