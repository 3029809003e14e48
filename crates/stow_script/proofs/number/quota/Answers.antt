use Rattle.std.proofs.Common.{arith}
use Rattle.stow_commands.specs.StowBytes.Limits.{number_limit}
use Rattle.stow_script.proofs.Numbers.{out_of_limits}
use Rattle.stow_script.proofs.number.quota.Goals as goal

pub returns-then-value-gt-NUMBER_LIMIT : goal.returns-then-value-gt-NUMBER_LIMIT
returns-then-value-gt-NUMBER_LIMIT c = out_of_limits c.args.text.now 0 number_limit c.in-Some.value (omega arith) c.in-Some.ensures (λ from to. omega arith)
