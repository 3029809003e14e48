use Rattle.std.proofs.Common.{◌≡◌, ◌≤◌, ◌∙◌, length, map, ap, sym, subst}
use Rattle.std.specs.List.{AllByRecursion}
use Rattle.stow_merge.specs.Cuts.{size_between, ArePages}
use Rattle.stow_merge.specs.Pages.{ArePagesOf}
use Rattle.stow_merge.specs.Writing.{versions_in, keys_in, AreRuns, AreSizes, AreFewAndShort, CanPack, pages_at, at_least_one_page}
use Rattle.stow_page.specs.Format.{format_of}
use Rattle.stow_merge.proofs.PageLemmas.{AreWritten}
use Rattle.stow_merge.proofs.PagedLemmas.{AreKeys, are_keys, are_short, are_written, can_write, one_page_of, pages_of, if_ok}
use Rattle.stow_merge.proofs.merging.paged.Goals as goal

pub sizes_of-requires : goal.sizes_of-requires
sizes_of-requires g c =
    let survey = c.args.survey.now in
    let keys : AreKeys (versions_in survey survey.kept.items) (keys_in survey c.in_ok-keys.keys.items) =
    are_keys survey survey.kept.items c.in_ok-keys.keys.items c.requires.rise (subst (λ ks. AreRuns ks (map (λ key. key.now) c.in_ok-keys.keys.items)) c.as_slice.ensures.value c.in_ok-keys.ensures) in
    subst (λ ks. AllByRecursion AreFewAndShort (keys_in survey ks)) (sym c.as_slice-2.ensures.value) (are_short _ _ c.requires keys)

pub write_pages-requires : goal.write_pages-requires
write_pages-requires g c =
    let survey = c.args.survey.now in
    let all = keys_in survey c.in_ok-keys.keys.items in
    let keys : AreKeys (versions_in survey survey.kept.items) all =
    are_keys survey survey.kept.items c.in_ok-keys.keys.items c.requires.rise (subst (λ ks. AreRuns ks (map (λ key. key.now) c.in_ok-keys.keys.items)) c.as_slice.ensures.value c.in_ok-keys.ensures) in
    let sizes : AreSizes (format_of (versions_in survey survey.kept.items)) all c.in_ok-sizes.sizes.items =
    subst (λ f. AreSizes f all c.in_ok-sizes.sizes.items) c.format_of-format.ensures (subst (λ ks. AreSizes c.format_of-format.result (keys_in survey ks) c.in_ok-sizes.sizes.items) c.as_slice-2.ensures.value c.in_ok-sizes.ensures) in
    let cuts : ArePages c.in_ok-sizes.sizes.items c.saturating_sub.result 0 c.in_ok-ends.ends.items (length c.in_ok-sizes.sizes.items) =
    subst (λ ss. ArePages ss c.saturating_sub.result 0 c.in_ok-ends.ends.items (length ss)) c.as_slice-3.ensures.value c.in_ok-ends.ensures.pages in
    let done : AreWritten c.args.target all 0 (pages_at all 0 c.in_ok-ends.ends.items) = are_written _ _ _ _ _ _ c.ranges.target.fits c.saturating_sub.ensures keys sizes cuts in
    subst (λ ks. AllByRecursion CanPack (pages_at (keys_in survey ks) 0 c.as_slice-5.result.now)) (sym c.as_slice-4.ensures.value)
    (subst (λ es. AllByRecursion CanPack (pages_at all 0 es)) (sym c.as_slice-5.ensures.value) (can_write _ _ _ _ c.requires keys done))

pub returns : goal.returns
returns g c =
    let survey = c.args.survey.now in
    let all = keys_in survey c.in_ok-keys.keys.items in
    let ends = c.in_ok-ends.ends.items in
    let keys : AreKeys (versions_in survey survey.kept.items) all =
    are_keys survey survey.kept.items c.in_ok-keys.keys.items c.requires.rise (subst (λ ks. AreRuns ks (map (λ key. key.now) c.in_ok-keys.keys.items)) c.as_slice.ensures.value c.in_ok-keys.ensures) in
    let sizes : AreSizes (format_of (versions_in survey survey.kept.items)) all c.in_ok-sizes.sizes.items =
    subst (λ f. AreSizes f all c.in_ok-sizes.sizes.items) c.format_of-format.ensures (subst (λ ks. AreSizes c.format_of-format.result (keys_in survey ks) c.in_ok-sizes.sizes.items) c.as_slice-2.ensures.value c.in_ok-sizes.ensures) in
    let cuts : ArePages c.in_ok-sizes.sizes.items c.saturating_sub.result 0 ends (length c.in_ok-sizes.sizes.items) =
    subst (λ ss. ArePages ss c.saturating_sub.result 0 ends (length ss)) c.as_slice-3.ensures.value c.in_ok-ends.ensures.pages in
    let done : AreWritten c.args.target all 0 (pages_at all 0 ends) = are_written _ _ _ _ _ _ c.ranges.target.fits c.saturating_sub.ensures keys sizes cuts in
    let few : size_between c.in_ok-sizes.sizes.items 0 (length c.in_ok-sizes.sizes.items) ≤ c.saturating_sub.result → length ends ≤ 1 =
    subst (λ ss. size_between ss 0 (length ss) ≤ c.saturating_sub.result → length ends ≤ 1) c.as_slice-3.ensures.value c.in_ok-ends.ensures.one in
    let pages : c.in_ok-pages.pages.items ≡ pages_at all 0 ends =
    c.in_ok-pages.ensures ∙ ap (λ ks. pages_at (keys_in survey ks) 0 c.as_slice-5.result.now) c.as_slice-4.ensures.value ∙ ap (pages_at all 0) c.as_slice-5.ensures.value in
    if_ok c.at_least_one.result (λ filled. filled.items ≡ at_least_one_page c.in_ok-pages.pages.items) (λ filled. ArePagesOf (versions_in survey survey.kept.items) c.args.target filled.items)
    (λ filled e. subst (ArePagesOf (versions_in survey survey.kept.items) c.args.target) (sym (e ∙ ap at_least_one_page pages)) (pages_of _ _ _ _ (one_page_of c.args.target c.saturating_sub.result (versions_in survey survey.kept.items) all c.in_ok-sizes.sizes.items ends c.saturating_sub.ensures keys sizes few) keys done))
    c.at_least_one.ensures
