use Rattle.std.proofs.Common.{◌≡◌, ◌<◌, ◌≤◌, ◌^◌, length, subst, ◌∙◌, sym, ap, arith, inr}
use Rattle.std.proofs.lemmas.Grind.{common_steps}
use Rattle.std.proofs.lemmas.List.{nil_from_length}
use Rattle.stow_tree_model.specs.Version.{version_of}
use Rattle.stow_page.specs.Format.{packed_page}
use Rattle.stow_page.proofs.Entries.{is_version}
use Rattle.stow_page.proofs.Fields.{unfit}
use Rattle.stow_page.proofs.Pages.{room_for_entry, no_long_value, page_is_read}
use Rattle.stow_page.proofs.Sizes.{few_rows}
use Rattle.stow_page.proofs.reading.read_rows.Goals as goal

pub push-requires-clause-room : goal.push-requires-clause-room
push-requires-clause-room g c =
    room_for_entry c.args.bytes.now c.in_ok-header.header.format c.in_ok-header.header.count c.loop-rest.rows c.loop-rest.rest.now c.in_ok-version.after.now (version_of c.in_ok-version.version) c.loop-rest.invariant c.len.ensures.versions (is_version c.in_ok-version.version) c.in_ok-version.ensures.told c.in_ok-version.ensures.ok c.requires

pub returns-then-not-is_format_of-clause-err : goal.returns-then-not-is_format_of-clause-err
returns-then-not-is_format_of-clause-err g c =
    let done : c.in_ok-header.header.count ≤ length c.loop-rest.rows = let len = c.len.ensures.len in let test = c.loop-rest-test.false in omega arith in
    let few : length c.loop-rest.rows < 2 ^ 32 = subst (λ rows. length rows < 2 ^ 32) c.rows.view_is (few_rows _ _ _ _ c.rows.invariant.block) in
    inr (inr (inr (
    no_long_value c.args.bytes.now c.in_ok-header.header.format c.in_ok-header.header.count c.loop-rest.rows c.loop-rest.rest.now c.loop-rest.invariant (omega (arith, few, done)) c.len.ensures.versions c.len.ensures.rise done
    (unfit _ c.is_format_of.ensures c.if-not-is_format_of.true)
    )))

pub returns-clause-ok : goal.returns-clause-ok
returns-clause-ok g c =
    let done : c.in_ok-header.header.count ≤ length c.loop-rest.rows = let len = c.len.ensures.len in let test = c.loop-rest-test.false in omega arith in
    let none : length c.loop-rest.rest.now ≡ 0 = grind (arith, common_steps) in
    page_is_read c.args.bytes.now c.in_ok-header.header.format c.in_ok-header.header.count c.loop-rest.rows c.loop-rest.rest.now c.loop-rest.invariant done (nil_from_length _ none) (c.is_format_of.ensures.0 c.if-not-is_format_of.false)
    ∙ ap packed_page (sym c.in_ok-new.ensures)

pub loop-rest-smaller : goal.loop-rest-smaller
loop-rest-smaller g c = grind (arith, common_steps)
