use Rattle.std.proofs.Common.{sym, ◌∙◌}
use Rattle.stow_plain.proofs.Kept.{contents_rows}
use Rattle.stow_plain.proofs.plain_contents.PlainContents.replace.Goals as goal

pub invariant_of-self : goal.invariant_of-self
invariant_of-self g c = contents_rows c.self.inside.rows c.args.rows c.self.inside.copies.items c.self.inside.next c.get.result c.args.self.now c.self.invariant c.self.view_is c.get.ensures.within (sym c.is_allowed.ensures ∙ c.if-not-is_allowed.false)
