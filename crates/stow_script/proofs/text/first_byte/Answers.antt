use Rattle.std.proofs.Common.{arith}
use Rattle.stow_script.proofs.Texts.{by_escape, by_itself}
use Rattle.stow_script.proofs.text.first_byte.Goals as goal

pub returns-in-92-clause-front : goal.returns-in-92-clause-front
returns-in-92-clause-front c = by_escape c.args.text.now c.in_ok-first.rest.now c.in_ok-first.first.now c.escaped.result c.in_ok-first.ensures.cases.0 c.in-92.is c.escaped.ensures.front

pub returns-in-32-to-126-clause-front : goal.returns-in-32-to-126-clause-front
returns-in-32-to-126-clause-front c = by_itself c.args.text.now c.in_ok-first.rest.now c.in_ok-first.first.now c.in_ok-first.ensures.cases.0 (omega arith) (omega arith) (omega arith)
