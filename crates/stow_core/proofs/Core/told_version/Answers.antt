use Rattle.std.proofs.Common.{subst}
use Rattle.std.specs.Prelude.{Contains, IfSome}
use Rattle.stow_core.specs.RowLengths.{AreLengths, IsToldOfRow}
use Rattle.stow_core.specs.State.{row_at}
use Rattle.stow_core.proofs.Glances.{held_length}
use Rattle.stow_core.proofs.Core.told_version.Goals as goal

pub returns-in-Some : goal.returns-in-Some
returns-in-Some g c = λ key told.
    let core = c.args.self.now in
    let t = c.args.tenant in
    let number = c.in-Extended.number in
    let lengths = c.self.inside.lengths in
    let there = subst (λ r. IfSome r (λ length. Contains lengths (record { tenant = t; length = length; number = number }))) c.in-Some.is c.length_of.ensures in
    held_length core lengths t number c.in-Some.length key (subst (λ s. AreLengths s lengths) c.self.view_is c.self.invariant.1) there (subst (IsToldOfRow (row_at core t key)) c.in-Extended.is told)
