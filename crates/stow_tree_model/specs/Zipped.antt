-- Two lists of messages in one order.
use Rattle.std.specs.Prelude.{List, [], ◌∷◌}
use Rattle.std.specs.FinMap.Entries.{by_order}
use Rattle.stow_tree_model.specs.Order.{place_cmp, place_of}
use Rattle.stow_tree_model.specs.TreeMessage.{TreeMessage}

-- the first list's head before, with or after the second's
abbrev pub zip_head : TreeMessage → (List TreeMessage → List TreeMessage) → List TreeMessage
    → List TreeMessage
zip_head a rest [] = a ∷ rest []
zip_head a rest (b ∷ bs) =
    by_order (place_cmp (place_of a) (place_of b)) (a ∷ rest (b ∷ bs)) (b ∷ rest bs)
    (b ∷ zip_head a rest bs)

-- two lists that rise in one; of two messages of one key and number the second list's
abbrev pub zipped : List TreeMessage → List TreeMessage → List TreeMessage
zipped [] bs = bs
zipped (a ∷ older) bs = zip_head a (zipped older) bs
