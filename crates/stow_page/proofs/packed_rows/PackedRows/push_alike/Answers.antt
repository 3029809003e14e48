use Rattle.stow_page.proofs.Marked.{none_marked, not_known}
use Rattle.std.proofs.Common.{◌∷◌, [], ◌∙◌, ap, length, length-append, arith}
use Rattle.stow_tree_model.specs.Version.{version_of}
use Rattle.stow_page.specs.Format.{format_of}
use Rattle.stow_page.specs.Rows.{with_count}
use Rattle.stow_page.proofs.Entries.{is_version}
use Rattle.stow_page.proofs.Formats.{told_alike}
use Rattle.stow_page.proofs.Joined.{block_of}
use Rattle.stow_page.proofs.Pushed.{pushed, block_has_header, places_are_few}
use Rattle.stow_page.proofs.packed_rows.PackedRows.push_alike.Goals as goal

pub append_placed-requires-clause-told : goal.append_placed-requires-clause-told
append_placed-requires-clause-told g c = told_alike c.self.inside.format c.args.self.now (version_of c.args.version) (is_version c.args.version) (c.self.invariant.block.is_format ∙ ap format_of c.self.view_is) c.requires.alike

pub overflow_cast-len : goal.overflow_cast-len
overflow_cast-len g c =
    let few = places_are_few _ _ _ c.args.self.now (version_of c.args.version) (block_of _ _ _ _ c.self.invariant.block c.self.view_is) c.requires.room in
    let more = ap length c.in_ok-append_placed.ensures.places ∙ length-append c.self.inside.places.items (length c.self.inside.bytes.items ∷ []) in
    let len = c.len.ensures in
    omega arith

pub write_count-requires : goal.write_count-requires
write_count-requires g c =
    let header = block_has_header _ _ _ _ c.self.invariant.block in
    let more = ap length c.in_ok-append_placed.ensures.bytes ∙ length-append c.self.inside.bytes.items _ in
    omega arith

pub invariant_of-self-2 : goal.invariant_of-self-2
invariant_of-self-2 g c = record {
  covers = none_marked _ _ (ap length c.forget.ensures);
  alone = not_known;
  block =
      (pushed c.self.inside.format c.self.inside.bytes.items c.self.inside.places.items c.append_placed.new.places.items c.write_count.new.bytes.items c.args.self.now (version_of c.args.version) (block_of _ _ _ _ c.self.invariant.block c.self.view_is) (is_version c.args.version)
      c.requires.above c.requires.room c.requires.alike
      c.in_ok-append_placed.ensures.places (c.write_count.ensures ∙ (λ i. with_count (c.in_ok-append_placed.ensures.bytes i) ((c.len.ensures ∙ c.append_placed.new.places.ok.0) i)))).are_packed;
}

pub returns-clause-ok : goal.returns-clause-ok
returns-clause-ok g c =
    (pushed c.self.inside.format c.self.inside.bytes.items c.self.inside.places.items c.append_placed.new.places.items c.write_count.new.bytes.items c.args.self.now (version_of c.args.version) (block_of _ _ _ _ c.self.invariant.block c.self.view_is) (is_version c.args.version)
    c.requires.above c.requires.room c.requires.alike
    c.in_ok-append_placed.ensures.places (c.write_count.ensures ∙ (λ i. with_count (c.in_ok-append_placed.ensures.bytes i) ((c.len.ensures ∙ c.append_placed.new.places.ok.0) i)))).are_rows
