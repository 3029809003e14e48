use Rattle.std.proofs.Common.{sym, subst}
use Rattle.stow_read.specs.UpTo.{IsUpTo}
use Rattle.stow_read.proofs.NextNumbers.{bound_is}
use Rattle.stow_read.proofs.UpTo.{up_to, up_to_none}
use Rattle.stow_read.proofs.up_to.front_up_to.Goals as goal

pub returns-then-not-may_have-clause-count : goal.returns-then-not-may_have-clause-count
returns-then-not-may_have-clause-count g c =
    subst (IsUpTo c.args.buffer.now.messages c.args.key.bytes.now c.args.at) (sym c.none.ensures.count) (up_to_none c.args.buffer.now.messages c.args.key.bytes.now c.args.at (c.may_have.ensures c.if-not-may_have.true))

pub returns-clause-count : goal.returns-clause-count
returns-clause-count g c =
    up_to c.args.buffer.now.messages c.args.key.bytes.now c.args.at c.saturating_add.result c.below.result.count c.below.ensures.valid c.below.ensures.rising (bound_is c.args.at c.saturating_add.result c.saturating_add.ensures) c.below.ensures.count
