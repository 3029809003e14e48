use Rattle.std.proofs.Common.{◌++◌, ◌∷◌, [], ◌∙◌, arith}
use Rattle.stow_tree_model.specs.Version.{version_of}
use Rattle.stow_page.proofs.Entries.{is_version}
use Rattle.stow_page.proofs.Pushed.{IsWritten}
use Rattle.stow_page.specs.declared.format.Format.TheVariants.{Two}
use Rattle.stow_page.proofs.Anew.{AreBoth, lower_written, lower_room, upper_room, one_more_written, few_places, has_header, written_anew}
use Rattle.stow_page.proofs.packed_rows.PackedRows.anew_with.Goals as goal
use Rattle.stow_page.proofs.packed_rows.PackedRows.anew_with.Goals.{After-write_count}
use Rattle.stow_page.proofs.packed_rows.PackedRows.anew_with.Given as given

pub append_all-requires : goal.append_all-requires
append_all-requires g c = lower_room _ _ c.args.self.now (version_of c.args.version ∷ []) c.in_ok-bytes.ensures.items c.in_ok-extend_from_slice.ensures.items c.requires.wide c.requires.room

pub append_placed-requires-clause-low : goal.append_placed-requires-clause-low
append_placed-requires-clause-low g c =
    let low = upper_room _ _ c.args.self.now (version_of c.args.version ∷ [])
    (lower_written _ _ _ _ _ c.args.self.now c.in_ok-bytes.ensures.items c.in_ok-extend_from_slice.ensures.items c.in_ok-places.ensures.items c.in_ok-append_all.ensures.bytes c.in_ok-append_all.ensures.places)
    c.requires.wide c.requires.room in
    omega arith

both_are : (g : given.Over) (c : goal.After-len-2 g) → AreBoth c.append_placed.new.bytes.items c.append_placed.new.places.items c.args.self.now (version_of c.args.version ∷ [])
both_are g c =
    one_more_written _ _ _ _ c.args.self.now (version_of c.args.version)
    (lower_written _ _ _ _ _ c.args.self.now c.in_ok-bytes.ensures.items c.in_ok-extend_from_slice.ensures.items c.in_ok-places.ensures.items c.in_ok-append_all.ensures.bytes c.in_ok-append_all.ensures.places)
    c.in_ok-append_placed.ensures.bytes c.in_ok-append_placed.ensures.places

pub overflow_cast-len : goal.overflow_cast-len
overflow_cast-len g c =
    let few = few_places _ _ c.args.self.now (version_of c.args.version ∷ []) (both_are g c) c.requires.room in
    let len = c.len-2.ensures ∙ c.append_placed.new.places.ok.0 in
    omega arith

pub write_count-requires : goal.write_count-requires
write_count-requires g c = has_header _ _ c.args.self.now (version_of c.args.version ∷ []) (both_are g c)

made : (g : given.Over) (c : After-write_count g) → IsWritten Two c.write_count.new.bytes.items c.append_placed.new.places.items (c.args.self.now ++ version_of c.args.version ∷ [])
made g c =
    written_anew _ _ _ _ c.args.self.now (version_of c.args.version ∷ []) (one_more_written _ _ _ _ c.args.self.now (version_of c.args.version) (lower_written _ _ _ _ _ c.args.self.now c.in_ok-bytes.ensures.items c.in_ok-extend_from_slice.ensures.items c.in_ok-places.ensures.items c.in_ok-append_all.ensures.bytes c.in_ok-append_all.ensures.places) c.in_ok-append_placed.ensures.bytes c.in_ok-append_placed.ensures.places) c.len.ensures.versions (is_version c.args.version, tt) c.requires.above c.requires.room c.requires.wide
    c.write_count.ensures (c.len-2.ensures ∙ c.append_placed.new.places.ok.0)

pub from_block-requires : goal.from_block-requires
from_block-requires g c = (made g (goal.at.from_block-requires g c).After-write_count).are_packed

pub returns : goal.returns
returns g c = c.from_block.ensures ∙ (made g (goal.at.returns g c).After-write_count).are_rows
