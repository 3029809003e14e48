use Rattle.std.proofs.Common.{◌+◌, ◌-◌, ◌<◌, length, get_or, arith}
use Rattle.std.proofs.lemmas.List.{get_or_default}
use Rattle.std.proofs.lemmas.List.Edits.{map_over_more}
use Rattle.stow_page.proofs.packed_rows.move_places.Goals as goal

pub loop-place-preserved : goal.loop-place-preserved
loop-place-preserved c =
    let low : c.loop-place.place-index < length c.args.places.now = c.loop-place-test.true in
    let within : c.loop-place.place-index < length c.loop-place.places = let same = c.loop-place.auto.places in omega (arith, low, same) in
    map_over_more (λ place. place - c.args.first + c.args.start) c.args.places.now c.loop-place.places c.loop-place.place-index (get_or c.loop-place.places c.loop-place.place-index 0) low c.loop-place.invariant
    (get_or_default c.loop-place.places c.loop-place.place-index 0 _ within)
