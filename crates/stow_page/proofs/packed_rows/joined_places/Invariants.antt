use Rattle.std.proofs.Common.{◌≡◌, ◌+◌, ◌++◌, map, take}
use Rattle.stow_page.proofs.packed_rows.joined_places.Given as goal

abbrev pub invariant-loop-i : goal.invariant-loop-i
invariant-loop-i g l = l.places.items ≡ l.lower ++ map (λ place. l.by + place) (take l.i l.upper)
