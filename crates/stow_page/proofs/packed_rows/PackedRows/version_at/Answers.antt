use Rattle.std.proofs.Common.{sym, subst, ◌∙◌}
use Rattle.stow_page.specs.Rows.{CoversRows}
use Rattle.stow_page.proofs.Marked.{unmarked}
use Rattle.stow_page.proofs.packed_rows.PackedRows.version_at.Goals as goal

pub returns-then-not-may_have : goal.returns-then-not-may_have
returns-then-not-may_have g c = unmarked c.self.inside.filter c.args.self.now c.args.key.bytes.now c.args.number
    (subst (CoversRows c.self.inside.filter) c.self.view_is c.self.invariant.covers) (sym c.may_have.ensures ∙ c.if-not-may_have.true)
