use Rattle.std.proofs.Common.{◌≡◌, ◌∙◌, map, ap, sym, subst, rules}
use Rattle.std.specs.Prelude.{IsTrue, ◌↔◌}
use Rattle.stow_message.specs.Rising.{AreNew}
use Rattle.stow_page.specs.StowTreeModel.Merged.{merged, row_message}
use Rattle.stow_page.specs.StowTreeModel.TreeMessage.{message_of}
use Rattle.stow_merge.specs.Mergeable.{IsMergeable}
use Rattle.stow_merge.specs.Pages.{HaveShortValues}
use Rattle.stow_merge.specs.Pins.{pins_in}
use Rattle.stow_merge.proofs.PagedLemmas.{if_ok}
use Rattle.stow_merge.proofs.fitting.is_mergeable.Goals as goal

pub returns : goal.returns
returns g c =
    let rows = c.args.rows.now in
    let batch = c.args.batch.now.messages in
    let pins = pins_in c.args.pins.now in
    let lent : map message_of c.as_slice.result.now ≡ batch = ap (map message_of) c.as_slice.ensures.value ∙ c.in_ok-lent.ensures.all in
    let new : AreNew batch (map row_message rows) = search rules in
    if_ok c.has_short_values.result (λ can. IsTrue can ↔ HaveShortValues (merged rows (map message_of c.as_slice.result.now) pins)) (λ can. IsTrue can ↔ IsMergeable rows batch pins)
    (λ can h. (
      λ t. record {
        are_apart = new;
        are_short = subst (λ ms. HaveShortValues (merged rows ms pins)) lent (h.0 t);
      },
      λ (m : IsMergeable rows batch pins). h.1 (subst (λ ms. HaveShortValues (merged rows ms pins)) (sym lent) m.are_short),
    ))
    c.has_short_values.ensures
