use Rattle.std.proofs.Common.{◌≡◌, ◌<◌, false, true, length, sym, ◌∙◌, subst, arith}
use Rattle.std.proofs.lemmas.Option.{get_or_from_slice_get}
use Rattle.stow_page.specs.StowTreeModel.Keys.{tenant_of}
use Rattle.stow_page.specs.StowTreeModel.Version.{Version, version_of}
use Rattle.stow_merge.specs.Covering.{IsCovered}
use Rattle.stow_merge.specs.Pins.{pins_in}
use Rattle.stow_merge.proofs.Lists.{one_more_has}
use Rattle.stow_merge.proofs.covering.are_rows_covered.Goals as goal

pub loop-i-preserved : goal.loop-i-preserved
loop-i-preserved g c =
    let row = version_of c.get-version.result in
    let within : c.loop-i.i < length c.args.rows.now = (let l = c.loop-i-test.true in let e = c.len-i-end.ensures.len in omega (arith, l, e)) in
    one_more_has (λ (v : Version). IsCovered (pins_in c.args.used.now (tenant_of v.key)) (pins_in c.args.present.now (tenant_of v.key)) v.number) c.args.rows.now c.loop-i.i row c.loop-i.invariant
    within (sym (get_or_from_slice_get c.args.rows.now c.loop-i.i row row c.get-version.ensures.version)) (c.is_key_covered.ensures.0 c.if-not-is_key_covered.false)

pub returns-then-not-is_key_covered : goal.returns-then-not-is_key_covered
returns-then-not-is_key_covered g c =
    let row = version_of c.get-version.result in
    let within : c.loop-i.i < length c.args.rows.now = (let l = c.loop-i-test.true in let e = c.len-i-end.ensures.len in omega (arith, l, e)) in (
      λ e. absurd (cc),
      λ all.
          let covered = subst (λ (v : Version). IsCovered (pins_in c.args.used.now (tenant_of v.key)) (pins_in c.args.present.now (tenant_of v.key)) v.number) (get_or_from_slice_get c.args.rows.now c.loop-i.i row row c.get-version.ensures.version) (all c.loop-i.i row within) in
          let z : false ≡ true = sym c.if-not-is_key_covered.true ∙ c.is_key_covered.ensures.1 covered in
          absurd (cc),
    )
