use Rattle.std.proofs.Common.{Option, ap, sym, ◌∙◌, subst}
use Rattle.stow_tree_model.specs.Operations.{NumberedValue, Operations, latest, value_in}
use Rattle.stow_tree_model.specs.Value.{IsValue}
use Rattle.stow_tree.specs.TreeState.{TreeState}
use Rattle.stow_tree.proofs.Read.{root_ops}
use Rattle.stow_tree.proofs.tree.Tree.get_with_place.Goals as goal

pub returns-clause-value : goal.returns-clause-value
returns-clause-value g c = c.in_ok-lookup.ensures.value ∙ ap (λ (f : Operations). latest f c.args.at) (root_ops c.args.self.now c.self.inside.root c.args.key.bytes.now (ap (λ (t : TreeState). t.root) c.self.view_is))

pub returns-clause-short : goal.returns-clause-short
returns-clause-short g c =
    subst (λ (v : Option NumberedValue). IsValue (value_in v)) (sym c.in_ok-lookup.ensures.value) (c.self.invariant.short c.args.key.bytes.now c.args.at)
