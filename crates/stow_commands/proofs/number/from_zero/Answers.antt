use Rattle.std.proofs.Common.{Some, ap, ◌∙◌}
use Rattle.stow_commands.proofs.Numbers.{not_below_zero, no_digits, out_of_range, as_signed}
use Rattle.stow_commands.proofs.number.from_zero.Goals as goal

pub returns-in_err-n : goal.returns-in_err-n
returns-in_err-n c = c.from_residual.ensures ∙ no_digits c.args.text.now c.requires c.in_err-n.ensures

pub returns-then-n : goal.returns-then-n
returns-then-n c = out_of_range c.args.text.now c.in_ok-n.n c.requires c.in_ok-n.ensures c.if-n.true

pub returns : goal.returns
returns c = ap Some (as_signed c.in_ok-n.n c.if-n.false) ∙ not_below_zero c.args.text.now c.in_ok-n.n c.if-n.false c.in_ok-n.ensures
