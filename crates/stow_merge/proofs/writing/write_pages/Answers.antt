use Rattle.std.proofs.lemmas.Grind.{common_steps}
use Rattle.std.proofs.Common.{◌≡◌, ◌∙◌, ◌+◌, ◌∷◌, [], ◌++◌, List, drop, take, get_or, sym, ap, subst, append_assoc, arith}
use Rattle.std.specs.List.{AllByRecursion}
use Rattle.std.proofs.lemmas.List.{take-map, drop-map}
use Rattle.stow_page.specs.StowTreeModel.Version.{Version}
use Rattle.stow_merge.specs.Pages.{read_in_order}
use Rattle.stow_merge.specs.Writing.{CanPack, versions_in, keys_in, pages_at}
use Rattle.stow_merge.proofs.WritingLemmas.{drop_first}
use Rattle.stow_merge.proofs.writing.write_pages.Goals as goal

pub write_page-requires : goal.write_page-requires
write_page-requires g c =
    let keys = c.args.keys.now in
    let all : List (List Version) = keys_in c.args.survey.now keys in
    let from = c.loop-i.from in
    let end = get_or c.args.ends.now c.loop-i.i 0 in
    let part : keys_in c.args.survey.now c.between.result.now ≡ drop from (take end all) =
    ap (keys_in c.args.survey.now) c.between.ensures ∙ sym (ap (drop from) (take-map (λ key. versions_in c.args.survey.now key.now) end keys) ∙ drop-map (λ key. versions_in c.args.survey.now key.now) from (take end keys)) in
    subst (λ ks. CanPack (read_in_order ks)) (sym part)
    (subst (λ es. AllByRecursion CanPack (pages_at all from es)) (drop_first c.args.ends.now c.loop-i.i 0 c.loop-i-test.true) c.loop-i.invariant.1).0

pub loop-i-preserved : goal.loop-i-preserved
loop-i-preserved g c =
    let keys = c.args.keys.now in
    let all : List (List Version) = keys_in c.args.survey.now keys in
    let from = c.loop-i.from in
    let i = c.loop-i.i in
    let ends = c.args.ends.now in
    let end = get_or ends i 0 in
    let next = drop_first ends i 0 c.loop-i-test.true in
    let part : keys_in c.args.survey.now c.between.result.now ≡ drop from (take end all) =
    ap (keys_in c.args.survey.now) c.between.ensures ∙ sym (ap (drop from) (take-map (λ key. versions_in c.args.survey.now key.now) end keys) ∙ drop-map (λ key. versions_in c.args.survey.now key.now) from (take end keys)) in
    let page : c.in_ok-page.page ≡ read_in_order (drop from (take end all)) = c.in_ok-page.ensures ∙ ap read_in_order part in (
      ap (λ ps. ps ++ pages_at all end (drop (i + 1) ends)) (c.in_ok-push.ensures.items ∙ ap (λ p. c.loop-i.pages.items ++ p ∷ []) page)
          ∙ append_assoc c.loop-i.pages.items (read_in_order (drop from (take end all)) ∷ []) (pages_at all end (drop (i + 1) ends))
          ∙ ap (λ es. c.loop-i.pages.items ++ pages_at all from es) (sym next)
          ∙ c.loop-i.invariant.0,
      (subst (λ es. AllByRecursion CanPack (pages_at all from es)) next c.loop-i.invariant.1).1,
    )

pub returns : goal.returns
returns g c = grind (arith, common_steps)
