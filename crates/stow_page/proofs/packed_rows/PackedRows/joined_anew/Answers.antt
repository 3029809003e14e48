use Rattle.std.proofs.Common.{◌++◌, ◌∙◌, arith}
use Rattle.stow_page.proofs.Pushed.{IsWritten, length-packed_in}
use Rattle.stow_page.specs.declared.format.Format.TheVariants.{Two}
use Rattle.stow_page.proofs.Anew.{AreBoth, lower_written, lower_room, upper_room, both_written, few_places, few_versions, has_header, written_anew}
use Rattle.stow_page.proofs.packed_rows.PackedRows.joined_anew.Goals as goal
use Rattle.stow_page.proofs.packed_rows.PackedRows.joined_anew.Goals.{After-write_count}
use Rattle.stow_page.proofs.packed_rows.PackedRows.joined_anew.Given as given

pub overflow_sub-size : goal.overflow_sub-size
overflow_sub-size g c =
    let header = length-packed_in Two c.args.lower.now in
    let len = c.len_in.ensures.len in
    omega arith

pub overflow_add-len : goal.overflow_add-len
overflow_add-len g c =
    let few = few_versions c.args.lower.now c.args.upper.now c.requires.room in
    let lower = c.len.ensures.len in
    let upper = c.len-2.ensures.len in
    omega arith

pub append_all-requires : goal.append_all-requires
append_all-requires g c = lower_room _ _ c.args.lower.now c.args.upper.now c.in_ok-bytes.ensures.items c.in_ok-extend_from_slice.ensures.items c.requires.wide c.requires.room

pub append_all-requires-2 : goal.append_all-requires-2
append_all-requires-2 g c =
    upper_room _ _ c.args.lower.now c.args.upper.now
    (lower_written _ _ _ _ _ c.args.lower.now c.in_ok-bytes.ensures.items c.in_ok-extend_from_slice.ensures.items c.in_ok-places.ensures.items c.in_ok-append_all.ensures.bytes c.in_ok-append_all.ensures.places)
    c.requires.wide c.requires.room

both_are : (g : given.Over) (c : goal.After-len-3 g) → AreBoth c.append_all-2.new.bytes.items c.append_all-2.new.places.items c.args.lower.now c.args.upper.now
both_are g c =
    both_written _ _ _ _ c.args.lower.now c.args.upper.now
    (lower_written _ _ _ _ _ c.args.lower.now c.in_ok-bytes.ensures.items c.in_ok-extend_from_slice.ensures.items c.in_ok-places.ensures.items c.in_ok-append_all.ensures.bytes c.in_ok-append_all.ensures.places)
    c.in_ok-append_all-2.ensures.bytes c.in_ok-append_all-2.ensures.places

pub overflow_cast-len : goal.overflow_cast-len
overflow_cast-len g c =
    let few = few_places _ _ c.args.lower.now c.args.upper.now (both_are g c) c.requires.room in
    let len = c.len-3.ensures ∙ c.append_all-2.new.places.ok.0 in
    omega arith

pub write_count-requires : goal.write_count-requires
write_count-requires g c = has_header _ _ c.args.lower.now c.args.upper.now (both_are g c)

made : (g : given.Over) (c : After-write_count g) → IsWritten Two c.write_count.new.bytes.items c.append_all-2.new.places.items (c.args.lower.now ++ c.args.upper.now)
made g c =
    written_anew _ _ _ _ c.args.lower.now c.args.upper.now (both_written _ _ _ _ c.args.lower.now c.args.upper.now (lower_written _ _ _ _ _ c.args.lower.now c.in_ok-bytes.ensures.items c.in_ok-extend_from_slice.ensures.items c.in_ok-places.ensures.items c.in_ok-append_all.ensures.bytes c.in_ok-append_all.ensures.places) c.in_ok-append_all-2.ensures.bytes c.in_ok-append_all-2.ensures.places) c.len.ensures.versions c.len-2.ensures.versions c.requires.rise c.requires.room c.requires.wide
    c.write_count.ensures (c.len-3.ensures ∙ c.append_all-2.new.places.ok.0)

pub from_block-requires : goal.from_block-requires
from_block-requires g c = (made g (goal.at.from_block-requires g c).After-write_count).are_packed

pub returns : goal.returns
returns g c = c.from_block.ensures ∙ (made g (goal.at.returns g c).After-write_count).are_rows
