use Rattle.std.proofs.Common.{◌≡◌, ◌∙◌, [], ap, refl, sym}
use Rattle.stow_page.specs.StowTreeModel.Keys.{tenant_of}
use Rattle.stow_merge.specs.OneKey.{rows_of}
use Rattle.stow_merge.specs.Pins.{pins_in}
use Rattle.stow_merge.proofs.OneKeyLemmas.{newest_stays, none_there, one_at_most}
use Rattle.stow_merge.proofs.one_key.alone_newest.Goals as goal

pub returns : goal.returns
returns g c =
    let newest = c.in_ok-newest.field-0.now in let pins = pins_in c.args.pins.now in
    let none : pins (tenant_of newest.key.bytes.now) ≡ [] = ap pins (sym c.tenant.ensures) ∙ sym c.of.ensures ∙ none_there c.of.result.now (sym c.is_empty.ensures ∙ c.if-not-is_empty.false) in
    newest_stays c.requires.0 (rows_of c.args.row) c.args.messages.now c.in_ok-first.field-0.now newest pins (one_at_most c.args.row) c.requires.1 (sym c.in_ok-first.ensures.value) (sym c.in_ok-newest.ensures.value) (c.if-not-is_older.ensures refl) none
