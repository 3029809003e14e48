use Rattle.std.proofs.Common.{◌≡◌, ◌∙◌, Some, rules}
use Rattle.stow_model.specs.Store.{number_in}
use Rattle.stow_plain.proofs.Kept.{get_seen, rows_some}
use Rattle.stow_plain.proofs.plain_contents.PlainContents.snapshot.Goals as goal

pub returns-in-Some : goal.returns-in-Some
returns-in-Some g c =
    let known : Some c.in-Some.number ≡ number_in c.args.id = search rules in
    c.copy_of.ensures
    ∙ get_seen c.self.inside.rows c.self.inside.copies.items c.deref.result.now c.self.inside.next c.in-Some.number c.args.self.now c.self.invariant c.self.view_is c.deref.ensures.value
    ∙ rows_some c.args.self.now c.args.id c.in-Some.number known
