use Rattle.std.proofs.Common.{◌≡◌, ◌-◌, Some, suc, ap, ◌∙◌, subst, arith}
use Rattle.stow_commands.specs.Numbers.{IsMagnitude}
use Rattle.stow_commands.proofs.Numbers.{below_zero, no_digits_below_zero, out_of_range_below_zero, minus_one_less}
use Rattle.stow_commands.proofs.number.below_zero.Goals as goal

pub returns-in_err-n : goal.returns-in_err-n
returns-in_err-n c = c.from_residual.ensures ∙ no_digits_below_zero c.args.digits.now c.in_err-n.ensures

pub returns-then-n-eq0 : goal.returns-then-n-eq0
returns-then-n-eq0 c = out_of_range_below_zero c.args.digits.now c.in_ok-n.n c.in_ok-n.ensures (λ some. omega arith)

pub returns-then-n : goal.returns-then-n
returns-then-n c = out_of_range_below_zero c.args.digits.now c.in_ok-n.n c.in_ok-n.ensures (λ some. omega arith)

pub returns : goal.returns
returns c =
    let next : c.in_ok-n.n ≡ suc (c.in_ok-n.n - 1) = omega arith in
    ap Some (minus_one_less (c.in_ok-n.n - 1) c.if-n.false)
    ∙ below_zero c.args.digits.now (c.in_ok-n.n - 1) c.if-n.false (subst (λ n. IsMagnitude c.args.digits.now (Some n)) next c.in_ok-n.ensures)
