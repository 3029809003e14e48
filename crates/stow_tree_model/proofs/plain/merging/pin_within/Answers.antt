use Rattle.std.proofs.Common.{◌∙◌}
use Rattle.stow_tree_model.proofs.Folds.{list_any-pins}
use Rattle.stow_tree_model.proofs.plain.merging.pin_within.Goals as goal

pub returns : goal.returns
returns c = c.any_within.ensures ∙ list_any-pins c.args.pins.now c.args.tenant c.args.from c.args.to
