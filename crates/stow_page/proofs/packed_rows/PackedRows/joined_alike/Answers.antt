use Rattle.std.proofs.Common.{◌≡◌, ◌+◌, ◌-◌, ◌++◌, length, drop, map, ap, ◌∙◌, arith, length-append}
use Rattle.stow_page.specs.Rows.{with_count}
use Rattle.stow_page.proofs.Pushed.{IsWritten, block_has_header}
use Rattle.stow_page.proofs.Joined.{alike_block, block_of, header_cut, both_places, count_fits, places_fit, joined}
use Rattle.stow_page.proofs.packed_rows.PackedRows.joined_alike.Goals as goal
use Rattle.stow_page.proofs.packed_rows.PackedRows.joined_alike.Goals.{After-write_count}
use Rattle.stow_page.proofs.packed_rows.PackedRows.joined_alike.Given as given

pub split_at-requires : goal.split_at-requires
split_at-requires g c = let h = block_has_header _ _ _ _ c.upper.invariant.block in let e = ap length c.as_slice.ensures.value in omega (arith, h, e)

pub overflow_sub-from : goal.overflow_sub-from
overflow_sub-from g c = (header_cut _ _ _ _ _ c.lower.invariant.block (c.len-2.ensures ∙ c.lower.inside.bytes.ok.0)).0

pub joined_places-requires : goal.joined_places-requires
joined_places-requires g c =
    rw c.as_slice-4.ensures.value
    (places_fit c.lower.inside.format _ _ _ _ c.args.lower.now c.args.upper.now (c.len-2.result - 5) (block_of _ _ _ _ c.lower.invariant.block c.lower.view_is)
    (alike_block _ _ _ _ _ _ c.args.lower.now c.args.upper.now c.lower.invariant.block c.lower.view_is c.upper.invariant.block c.upper.view_is c.requires.alike) c.requires.room
    (header_cut _ _ _ _ _ c.lower.invariant.block (c.len-2.ensures ∙ c.lower.inside.bytes.ok.0)).1)

places_are : (g : given.Over) (c : goal.After-len-3 g) → c.in_ok-places.places.items ≡ c.lower.inside.places.items ++ map (λ place. (c.len-2.result - 5) + place) c.upper.inside.places.items
places_are g c = c.in_ok-places.ensures ∙ (λ i. c.as_slice-3.ensures.value i ++ map (λ place. (c.len-2.result - 5) + place) (c.as_slice-4.ensures.value i))

bytes_are : (g : given.Over) (c : goal.After-len-3 g) → c.extend_from_slice-2.new.self.items ≡ c.lower.inside.bytes.items ++ drop 5 c.upper.inside.bytes.items
bytes_are g c =
    c.in_ok-extend_from_slice-2.ensures.items
    ∙ (λ i. (c.in_ok-extend_from_slice.ensures.items ∙ (λ j. c.in_ok-bytes.ensures.items j ++ c.as_slice-2.ensures.value j)) i ++ (c.split_at.ensures.back ∙ ap (drop 5) c.as_slice.ensures.value) i)

pub overflow_cast-len : goal.overflow_cast-len
overflow_cast-len g c =
    let fits = count_fits c.lower.inside.format _ _ (both_places c.lower.inside.format _ _ _ _ _ c.args.lower.now c.args.upper.now (c.len-2.result - 5) (block_of _ _ _ _ c.lower.invariant.block c.lower.view_is)
    (alike_block _ _ _ _ _ _ c.args.lower.now c.args.upper.now c.lower.invariant.block c.lower.view_is c.upper.invariant.block c.upper.view_is c.requires.alike)
    (header_cut _ _ _ _ _ c.lower.invariant.block (c.len-2.ensures ∙ c.lower.inside.bytes.ok.0)).1 (places_are g c)) c.requires.room in
    let l = c.len-3.ensures ∙ c.in_ok-places.places.ok.0 in
    omega (arith, fits, l)

pub write_count-requires : goal.write_count-requires
write_count-requires g c =
    let h = block_has_header _ _ _ _ c.lower.invariant.block in
    let l = ap length (bytes_are g c) ∙ length-append c.lower.inside.bytes.items (drop 5 c.upper.inside.bytes.items) in
    omega (arith, h, l)

made : (g : given.Over) (c : After-write_count g) → IsWritten c.lower.inside.format c.write_count.new.bytes.items c.in_ok-places.places.items (c.args.lower.now ++ c.args.upper.now)
made g c =
    let places : c.in_ok-places.places.items ≡ c.lower.inside.places.items ++ map (λ place. (c.len-2.result - 5) + place) c.upper.inside.places.items
    = c.in_ok-places.ensures ∙ (λ i. c.as_slice-3.ensures.value i ++ map (λ place. (c.len-2.result - 5) + place) (c.as_slice-4.ensures.value i)) in
    let bytes : c.extend_from_slice-2.new.self.items ≡ c.lower.inside.bytes.items ++ drop 5 c.upper.inside.bytes.items
    = c.in_ok-extend_from_slice-2.ensures.items
    ∙ (λ i. (c.in_ok-extend_from_slice.ensures.items ∙ (λ j. c.in_ok-bytes.ensures.items j ++ c.as_slice-2.ensures.value j)) i ++ (c.split_at.ensures.back ∙ ap (drop 5) c.as_slice.ensures.value) i) in
    joined c.lower.inside.format _ _ _ _ _ _ c.args.lower.now c.args.upper.now (c.len-2.result - 5) (block_of _ _ _ _ c.lower.invariant.block c.lower.view_is)
    (alike_block _ _ _ _ _ _ c.args.lower.now c.args.upper.now c.lower.invariant.block c.lower.view_is c.upper.invariant.block c.upper.view_is c.requires.alike) c.requires.rise c.requires.room
    (header_cut _ _ _ _ _ c.lower.invariant.block (c.len-2.ensures ∙ c.lower.inside.bytes.ok.0)).1 places
    (c.write_count.ensures ∙ (λ i. with_count (bytes i) ((c.len-3.ensures ∙ c.in_ok-places.places.ok.0) i)))

pub from_block-requires : goal.from_block-requires
from_block-requires g c = (made g (goal.at.from_block-requires g c).After-write_count).are_packed

pub returns : goal.returns
returns g c = c.from_block.ensures ∙ (made g (goal.at.returns g c).After-write_count).are_rows
