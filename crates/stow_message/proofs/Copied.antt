-- Messages that are put into an empty buffer.
use Rattle.std.proofs.Common.{◌≡◌, ◌≤◌, Bool, List, [], ◌∷◌, ap, ◌∙◌, refl, arith}
use Rattle.std.specs.Prelude.{not}
use Rattle.std.specs.List.{filter, sum_by}
use Rattle.std.proofs.lemmas.List.Filters.{sum_by-filter_both}
use Rattle.stow_message.specs.Packed.{message_size}
use Rattle.std.specs.List.Sorted.{IsStrictlySortedBy}
use Rattle.stow_tree_model.specs.Order.{MessagesRise}
use Rattle.stow_tree_model.specs.TreeMessage.{TreeMessage}
use Rattle.stow_message.specs.Rising.{all_placed}
use Rattle.stow_message.proofs.Placed.{placed_first}

pub all_placed_alone : (ms : List TreeMessage) → MessagesRise ms → all_placed ms [] ≡ ms
unfolding IsStrictlySortedBy
all_placed_alone [] rise = refl
all_placed_alone (m ∷ ms) rise = placed_first m ms [] rise.0 ∙ ap (λ l. m ∷ l) (all_placed_alone ms rise.1)

-- some of the messages take no more bytes than all
pub some_size : (f : TreeMessage → Bool) (ms : List TreeMessage) → sum_by message_size (filter f ms) ≤ sum_by message_size ms
some_size f ms = let both = sum_by-filter_both f (λ m. not (f m)) (λ m. refl) message_size ms in omega (arith, both)
