use Rattle.stow_leaves.proofs.Joined.{rise_both}
use Rattle.stow_leaves.proofs.joining.joined_rows.Goals as goal

pub joined-requires-clause-rise : goal.joined-requires-clause-rise
joined-requires-clause-rise g c = rise_both c.args.lower.now c.args.upper.now c.len.ensures.rise c.len-2.ensures.rise c.requires
