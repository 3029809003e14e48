use Rattle.std.proofs.Common.{◌≡◌, ◌+◌, ◌-◌, ◌++◌, map, take, drop}
use Rattle.stow_page.proofs.packed_rows.move_places.Given as goal

abbrev pub invariant-loop-place : goal.invariant-loop-place
invariant-loop-place l = l.places ≡ map (λ place. place - l.first + l.start) (take l.place-index l.initial.places) ++ drop l.place-index l.initial.places
