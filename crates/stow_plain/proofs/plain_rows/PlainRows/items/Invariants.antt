use Rattle.std.proofs.Common.{◌≡◌, ◌++◌, length, map as list_map}
use Rattle.std.specs.FinMap as map
use Rattle.stow_model.specs.LentWords.{words_in}
use Rattle.stow_model.specs.Store.{item_or_null}
use Rattle.stow_plain.proofs.plain_rows.PlainRows.items.Given as goal

abbrev pub invariant-loop-key : goal.invariant-loop-key
invariant-loop-key g l =
    l.items ++ list_map (λ key. item_or_null (map.get l.self key)) (words_in l.left)
    ≡ list_map (λ key. item_or_null (map.get l.self key)) (words_in l.keys)

abbrev pub decreases-loop-key : goal.decreases-loop-key
decreases-loop-key g l = length (words_in l.left)
