use Rattle.std.proofs.Common.{true, ap, ◌∙◌, sym, subst}
use Rattle.stow_read.specs.NextKey.{IsNextKey}
use Rattle.stow_read.specs.Way.{key_in, least_of, AreNext, row_ops, way_ops}
use Rattle.stow_read.proofs.Ways.{least_next, stands_where}
use Rattle.stow_read.proofs.way.Way.pass.Goals as goal

pub returns-clause-next : goal.returns-clause-next
returns-clause-next g c =
    let way = c.pass_row.new.self in
    subst (IsNextKey (way_ops way) c.args.key.bytes.now true c.args.to.bytes.now) (sym (c.least.ensures ∙ ap (λ levels. least_of levels (key_in way.next_row)) c.as_slice.ensures.value))
    (least_next way.levels.items (row_ops way) c.args.key.bytes.now true c.args.to.bytes.now (key_in way.next_row)
    (subst (λ levels. AreNext c.args.key.bytes.now true c.args.to.bytes.now levels.items) (sym c.pass_row.ensures.levels) c.pass_levels.ensures.next) c.pass_row.ensures.next)

pub returns-clause-stands : goal.returns-clause-stands
returns-clause-stands g c =
    stands_where c.pass_row.new.self c.args.key.bytes.now c.args.to.bytes.now c.least.result
    (subst (λ levels. AreNext c.args.key.bytes.now true c.args.to.bytes.now levels.items) (sym c.pass_row.ensures.levels) c.pass_levels.ensures.next) c.pass_row.ensures.next (returns-clause-next g c)
