use Rattle.std.proofs.Common.{◌≡◌, ap, subst, ◌∙◌, arith}
use Rattle.std.specs.Prelude.{IfOk}
use Rattle.stow_flush.proofs.StowLeaf.Steps.{if_ok}
use Rattle.stow_flush.specs.StowMerge.Pins.{pins_in}
use Rattle.stow_flush.specs.StowNode.Installs.{CanInstall}
use Rattle.stow_flush.specs.StowNode.declared.installed.Installed.TheVariants as installed
use Rattle.stow_tree.specs.TreeState.{TreeState}
use Rattle.stow_tree.proofs.Made.{room_kept, room_agrees}
use Rattle.stow_tree.proofs.PagesIn.{root_stands, if_err}
use Rattle.stow_tree.proofs.tree.Tree.install.Goals as goal

pub install-requires-clause-few : goal.install-requires-clause-few
install-requires-clause-few g c = c.self.invariant.few

pub install-requires-clause-fan_out : goal.install-requires-clause-fan_out
install-requires-clause-fan_out g c = c.self.invariant.sizes.fan_out.0

pub install-requires-clause-spare : goal.install-requires-clause-spare
install-requires-clause-spare g c = let b = c.self.invariant.block in let w = c.self.invariant.root_block in omega (arith, b, w)

pub install-requires-clause-block : goal.install-requires-clause-block
install-requires-clause-block g c = c.self.invariant.root_block

pub invariant_of-self : goal.invariant_of-self
invariant_of-self g c = room_kept c.self.inside (record { root = c.install.new.self; spare = c.install.new.spare; cache = c.install.new.cache }) (pins_in c.args.pins.now) c.self.invariant
    (root_stands (pins_in c.args.pins.now) c.self.inside.root c.install.new.self c.install.ensures.root) c.install.ensures.cache c.install.ensures.spare c.install.ensures.root.few

pub returns-clause-agrees : goal.returns-clause-agrees
returns-clause-agrees g c = room_agrees c.args.self.now c.self.inside (record { root = c.install.new.self; spare = c.install.new.spare; cache = c.install.new.cache }) (pins_in c.args.pins.now) c.self.view_is
    (root_stands (pins_in c.args.pins.now) c.self.inside.root c.install.new.self c.install.ensures.root)

pub returns-clause-stale : goal.returns-clause-stale
returns-clause-stale g c = subst (λ (t : TreeState). IfOk c.install.result (λ r. (r ≡ installed.Stale → ¬ CanInstall t.root c.args.merge.job (pins_in c.args.pins.now)) × (¬ CanInstall t.root c.args.merge.job (pins_in c.args.pins.now) → r ≡ installed.Stale))) c.self.view_is c.install.ensures.stale

pub returns-clause-unmoved : goal.returns-clause-unmoved
returns-clause-unmoved g c = if_ok c.install.result _ _ (λ r p e. let same = p e in (λ i. record { root = same.0 i; cache = same.1 i }) ∙ c.self.view_is) c.install.ensures.unmoved

pub returns-clause-err : goal.returns-clause-err
returns-clause-err g c = if_err c.install.result _ _ (λ e p. (p.0, record { root = p.1 ∙ ap (λ (t : TreeState). t.root) c.self.view_is; limit = c.install.ensures.cache.limit ∙ ap (λ (t : TreeState). t.cache.limit) c.self.view_is })) c.install.ensures.err

pub returns-clause-shape : goal.returns-clause-shape
returns-clause-shape g c = c.install.ensures.root.shape ∙ ap (λ (t : TreeState). t.root.shape) c.self.view_is

pub returns-clause-limit : goal.returns-clause-limit
returns-clause-limit g c = c.install.ensures.cache.limit ∙ ap (λ (t : TreeState). t.cache.limit) c.self.view_is
