use Rattle.stow_plain.proofs.Kept.{charge_own}
use Rattle.stow_plain.proofs.plain_contents.PlainContents.charge.Goals as goal

pub returns-clause-charge : goal.returns-clause-charge
returns-clause-charge g c = charge_own c.self.inside.rows c.self.inside.copies.items c.deref.result.now c.self.inside.next c.in-Some.charge c.args.self.now c.self.invariant c.self.view_is c.deref.ensures.value c.in-Some.ensures.1
