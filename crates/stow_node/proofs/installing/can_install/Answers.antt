use Rattle.std.proofs.Common.{◌∙◌, sym, ap}
use Rattle.stow_leaves.specs.StowLeaf.Intervals.{top_key, spans}
use Rattle.stow_leaves.proofs.StowMessage.RisingLists.{no_path}
use Rattle.stow_node.proofs.Installable.{fence_held}
use Rattle.stow_node.proofs.installing.can_install.Goals as goal

pub returns-else-may_hold : goal.returns-else-may_hold
returns-else-may_hold g c = (
  λ e. absurd (no_path (sym c.if-may_hold.false ∙ e)),
  λ can. c.may_hold.ensures ∙ ap (spans c.args.node.now.low top_key) c.as_key.ensures ∙ fence_held c.args.node.now (c.args.job.now.target.low_fence, c.args.job.now.page) c.shape-known.ensures.tile can.leaf,
)
