-- Replies whose bytes stand in one block.
use Rattle.std.specs.Prelude.{ℕ, List, map}
use Rattle.std.specs.List.{AllByRecursion}
use Rattle.stow_model.specs.Item.{Item, Integer, Bulk, Null}
use Rattle.stow_model.specs.Spans.{word_at, IsInside}
use Rattle.stow_model.specs.declared.item_span.ItemSpan.{ItemSpan}
use Rattle.stow_model.specs.declared.item_span.ItemSpan.TheVariants as stored

abbrev pub item_at : List ℕ → ItemSpan → Item
item_at block (stored.Integer number) = Integer number
item_at block (stored.Bulk span) = Bulk (word_at block span)
item_at block stored.Null = Null

-- the replies of spans, in order
abbrev pub items_at : List ℕ → List ItemSpan → List Item
items_at block spans = map (item_at block) spans

-- the block has all bytes of the reply
abbrev pub IsItemInside : List ℕ → ItemSpan → Type 0
IsItemInside block (stored.Integer number) = Unit {0}
IsItemInside block (stored.Bulk span) = IsInside block span
IsItemInside block stored.Null = Unit {0}

-- the block has all bytes of the replies
abbrev pub AreItemsInside : List ℕ → List ItemSpan → Type 0
AreItemsInside block spans = AllByRecursion (IsItemInside block) spans
