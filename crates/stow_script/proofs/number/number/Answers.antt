use Rattle.std.proofs.Common.{arith}
use Rattle.stow_script.proofs.Numbers.{no_number, out_of_limits}
use Rattle.stow_script.proofs.number.number.Goals.{in_default-via-in-Some+then-from-value+else-value-from, in_default-via-in-Some+else-from-value, in_default-via-in_default}
use Rattle.stow_script.proofs.number.number.Goals as goal

pub returns-in_default : goal.returns-in_default
returns-in_default c = elim c.in_default.branch [
  | in_default-via-in-Some+then-from-value+else-value-from w ↦ out_of_limits c.args.text.now c.args.low c.args.high w.in-Some.value (omega (arith, c.ranges.high.fits)) w.in-Some.ensures (λ from to. omega arith)
  | in_default-via-in-Some+else-from-value w ↦ out_of_limits c.args.text.now c.args.low c.args.high w.in-Some.value (omega (arith, c.ranges.high.fits)) w.in-Some.ensures (λ from to. omega arith)
  | in_default-via-in_default w ↦ no_number c.args.text.now c.args.low c.args.high (omega (arith, c.ranges.high.fits)) w.in_default.ensures
]
