use Rattle.std.proofs.Common.{map, ap, ◌∙◌, subst, IfOk}
use Rattle.stow_tree_model.specs.Operations.{Operations}
use Rattle.stow_tree_model.specs.VersionBuf.{version_of_buf}
use Rattle.stow_read.specs.Versions.{AreVersionsOf}
use Rattle.stow_tree.specs.TreeState.{TreeState}
use Rattle.stow_tree.proofs.Read.{root_ops}
use Rattle.stow_tree.proofs.tree.Tree.versions.Goals as goal

pub returns-clause-versions : goal.returns-clause-versions
returns-clause-versions g c = subst (λ (f : Operations). IfOk c.versions.result (λ versions. AreVersionsOf f c.args.key.bytes.now (map version_of_buf versions.items))) (root_ops c.args.self.now c.self.inside.root c.args.key.bytes.now (ap (λ (t : TreeState). t.root) c.self.view_is ∙ c.offer.ensures.root)) c.versions.ensures
