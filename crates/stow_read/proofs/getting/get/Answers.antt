use Rattle.std.proofs.Common.{◌∙◌, sym}
use Rattle.stow_read.proofs.Walked.{nothing_outside}
use Rattle.stow_read.proofs.getting.get.Goals as goal

pub returns-then-not-may_hold-clause-value : goal.returns-then-not-may_hold-clause-value
returns-then-not-may_hold-clause-value g c = sym (nothing_outside c.args.node.now c.children-known.result.now c.args.key.bytes.now c.args.at c.children-known.ensures (sym c.may_hold.ensures ∙ c.if-not-may_hold.true))
