use Rattle.stow_page.proofs.Fields.{kind_ends, bad_kind}
use Rattle.stow_page.proofs.reading.read_tail.Goals as goal

pub returns-in_default-clause-err : goal.returns-in_default-clause-err
returns-in_default-clause-err c = λ key number good. kind_ends c.args.format key c.args.bytes.now number good c.in_default.ensures.cases

pub returns-then-kind-ne0-clause-err : goal.returns-then-kind-ne0-clause-err
returns-then-kind-ne0-clause-err c = λ key number good. bad_kind c.args.format key c.args.bytes.now c.in-Some.after.now number c.in-Some.kind.now good c.in-Some.ensures.cases.0 c.if-kind-ne0.true c.if-kind-eq1.false
