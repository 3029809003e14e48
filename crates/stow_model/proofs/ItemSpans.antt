-- Replies whose bytes stand in one block.
use Rattle.std.proofs.Common.{◌≡◌, ℕ, List, [], ◌∷◌, ◌++◌, length, refl, ap, ◌∙◌}
use Rattle.std.proofs.lemmas.List.{map-append}
use Rattle.std.specs.List.{AllByRecursion}
use Rattle.stow_model.specs.Item.{Bulk}
use Rattle.stow_model.specs.declared.span.Span.{Span}
use Rattle.stow_model.specs.declared.item_span.ItemSpan.{ItemSpan}
use Rattle.stow_model.specs.declared.item_span.ItemSpan.TheVariants as stored
use Rattle.stow_model.specs.Items.{item_at, items_at, IsItemInside, AreItemsInside}
use Rattle.stow_model.proofs.Spans.{span_stays, word_stays, word_at_end}

item_stays : (block more : List ℕ) (span : ItemSpan) → IsItemInside block span → IsItemInside (block ++ more) span × (item_at (block ++ more) span ≡ item_at block span)
item_stays block more (stored.Integer number) h = (tt, refl)
item_stays block more (stored.Bulk span) h = (span_stays block more span h, ap Bulk (word_stays block more span h))
item_stays block more stored.Null h = (tt, refl)

-- a block that grows keeps its replies
pub items_stay : (block more : List ℕ) (spans : List ItemSpan) → AreItemsInside block spans → AreItemsInside (block ++ more) spans × (items_at (block ++ more) spans ≡ items_at block spans)
items_stay block more [] h = (tt, refl)
items_stay block more (span ∷ spans) h =
    let first = item_stays block more span h.0 in
    let later = items_stay block more spans h.1 in
    ((first.0, later.0), λ i. first.1 i ∷ later.1 i)

-- one reply more
pub items_more : (block : List ℕ) (spans : List ItemSpan) (span : ItemSpan) → AreItemsInside block spans → IsItemInside block span → AreItemsInside block (spans ++ span ∷ [])
items_more block [] span h k = (k, tt)
items_more block (first ∷ spans) span h k = (h.0, items_more block spans span h.1 k)

pub bulk_more : (block bytes : List ℕ) (spans : List ItemSpan) (span : Span) → AreItemsInside block spans → span.start ≡ length block → span.end ≡ length (block ++ bytes) → items_at (block ++ bytes) (spans ++ stored.Bulk span ∷ []) ≡ items_at block spans ++ Bulk bytes ∷ []
bulk_more block bytes spans span h from to =
    map-append (item_at (block ++ bytes)) spans (stored.Bulk span ∷ [])
    ∙ (λ i. (items_stay block bytes spans h).1 i ++ Bulk (word_at_end block bytes span from to i) ∷ [])
