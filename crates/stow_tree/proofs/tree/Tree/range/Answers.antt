use Rattle.std.proofs.Common.{ℕ, List, map, ap, subst}
use Rattle.std.specs.Prelude.{IfOk}
use Rattle.stow_tree_model.specs.Operations.{Operations}
use Rattle.stow_read.specs.Range.{IsRange, key_value}
use Rattle.stow_tree.specs.TreeState.{TreeState}
use Rattle.stow_tree.proofs.Read.{all_root_ops}
use Rattle.stow_tree.proofs.tree.Tree.range.Goals as goal

pub returns : goal.returns
returns g c = subst (λ (f : List ℕ → Operations). IfOk c.range.result (λ rows. IsRange f c.args.from.bytes.now c.args.to.bytes.now c.args.at c.args.count (map key_value rows.items))) (all_root_ops c.args.self.now c.self.inside.root (ap (λ (t : TreeState). t.root) c.self.view_is)) c.range.ensures
