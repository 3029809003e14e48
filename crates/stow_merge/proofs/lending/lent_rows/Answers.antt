use Rattle.std.proofs.lemmas.Grind.{common_steps}
use Rattle.std.proofs.Common.{◌∙◌, ◌<◌, ◌∷◌, [], ◌++◌, length, take, map, sym, ap, arith}
use Rattle.std.proofs.lemmas.List.{map-append, take_more}
use Rattle.std.proofs.lemmas.Option.{get_or_from_slice_get}
use Rattle.stow_page.specs.StowTreeModel.Version.{version_of}
use Rattle.stow_merge.proofs.lending.lent_rows.Goals as goal

pub loop-i-preserved : goal.loop-i-preserved
loop-i-preserved g c =
    let rows = c.args.rows.now in
    let i = c.loop-i.i in
    let v = version_of c.get.result in
    let in_range : i < length rows = (let l = c.loop-i-test.true in let e = c.len-len.ensures.len in omega arith) in
    ap (map version_of) c.in_ok-push.ensures.items
    ∙ map-append version_of c.loop-i.lent.items _
    ∙ ap (λ vs. vs ++ v ∷ []) c.loop-i.invariant
    ∙ sym (take_more rows i v in_range ∙ ap (λ w. take i rows ++ w ∷ []) (get_or_from_slice_get rows i v v c.get.ensures.version))

pub returns-clause-all : goal.returns-clause-all
returns-clause-all g c = grind (arith, common_steps)
