use Rattle.std.proofs.Common.{ℕ, List, ap, subst, IfOk}
use Rattle.stow_tree_model.specs.Operations.{Operations}
use Rattle.stow_read.specs.Walk.{IsWalk}
use Rattle.stow_tree.specs.TreeState.{TreeState}
use Rattle.stow_tree.proofs.Read.{all_root_ops}
use Rattle.stow_tree.proofs.tree.Tree.walk.Goals as goal

pub returns : goal.returns
returns g c =
    subst (λ (f : List ℕ → Operations). IfOk c.walk.result (λ rows. IsWalk f c.args.from.key.bytes.now c.args.from.after c.args.to.bytes.now c.args.at c.args.count rows.items))
    (all_root_ops c.args.self.now c.self.inside.root (ap (λ (t : TreeState). t.root) c.self.view_is)) c.walk.ensures
