use Rattle.std.proofs.Common.{◌≡◌, ◌++◌, ◌∷◌, [], List, length, ap, ◌∙◌, rules}
use Rattle.stow_model.specs.Item.{Bulk}
use Rattle.stow_model.specs.Items.{items_at}
use Rattle.stow_model.specs.declared.span.Span.{Span}
use Rattle.stow_model.specs.declared.item_span.ItemSpan.TheVariants as stored
use Rattle.stow_model.proofs.ItemSpans.{bulk_more}
use Rattle.stow_model.proofs.items.Items.push_bulk.Goals as goal

pub returns-clause-ok : goal.returns-clause-ok
returns-clause-ok g c =
    let block = c.self.inside.block.items in
    let bytes = c.args.bytes.now in
    let span : Span = record { start = c.len-start.result; end = c.len-end.result } in
    let grown : c.extend_from_slice.new.self.items ≡ block ++ bytes = c.in_ok-extend_from_slice.ensures.items in
    let spans : c.push.new.self.items ≡ c.self.inside.spans.items ++ stored.Bulk span ∷ [] = c.in_ok-push.ensures.items ∙ ap (λ s. s ++ stored.Bulk span ∷ []) c.reserve.ensures.items in
    let from : c.len-start.result ≡ length block = search rules in
    let to : c.len-end.result ≡ length c.extend_from_slice.new.self.items = search rules in
    (λ i. items_at (grown i) (spans i))
    ∙ bulk_more block bytes c.self.inside.spans.items span c.self.invariant from (to ∙ ap length grown)
    ∙ ap (λ ws. ws ++ Bulk bytes ∷ []) c.self.view_is
