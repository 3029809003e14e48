use Rattle.std.proofs.Common.{◌≡◌, true, ap, ◌∙◌}
use Rattle.std.specs.Prelude.{is_some, not}
use Rattle.std.specs.FinMap as map
use Rattle.stow_plain.proofs.Kept.{get_seen, none_found, some_found, contents_filter, seen_filter}
use Rattle.stow_plain.proofs.plain_contents.PlainContents.drop_number.Goals as goal

pub returns-then-is_none-clause-live : goal.returns-then-is_none-clause-live
returns-then-is_none-clause-live g c = none_found c.copy_of.result _ (c.copy_of.ensures ∙ get_seen c.self.inside.rows c.self.inside.copies.items c.deref.result.now c.self.inside.next c.args.id c.args.self.now c.self.invariant c.self.view_is c.deref.ensures.value) (c.is_none.ensures ∙ ap not c.if-is_none.true)

pub invariant_of-self : goal.invariant_of-self
invariant_of-self g c =
    let live : true ≡ is_some (map.get c.args.self.now.snapshots c.args.id) = some_found c.copy_of.result _ (c.copy_of.ensures ∙ get_seen c.self.inside.rows c.self.inside.copies.items c.deref.result.now c.self.inside.next c.args.id c.args.self.now c.self.invariant c.self.view_is c.deref.ensures.value) (c.is_none.ensures ∙ ap not c.if-is_none.false) in
    contents_filter c.self.inside.rows c.self.inside.copies.items c.remove_id.new.copies.items c.self.inside.next c.args.id c.args.self.now c.self.invariant c.self.view_is live c.remove_id.ensures

pub returns-clause-live : goal.returns-clause-live
returns-clause-live g c = some_found c.copy_of.result _ (c.copy_of.ensures ∙ get_seen c.self.inside.rows c.self.inside.copies.items c.deref.result.now c.self.inside.next c.args.id c.args.self.now c.self.invariant c.self.view_is c.deref.ensures.value) (c.is_none.ensures ∙ ap not c.if-is_none.false)

pub returns-clause-dropped : goal.returns-clause-dropped
returns-clause-dropped g c = seen_filter c.self.inside.rows c.self.inside.copies.items c.remove_id.new.copies.items c.self.inside.next c.args.id c.args.self.now c.self.invariant c.remove_id.ensures c.self.view_is
