use Rattle.std.proofs.Common.{◌≡◌, ◌≤◌, ◌∙◌, length, ap, sym, subst}
use Rattle.std.specs.List.{AllByRecursion}
use Rattle.stow_merge.specs.Cuts.{size_between, ArePages}
use Rattle.stow_merge.specs.Pages.{ArePagesOf}
use Rattle.stow_merge.specs.Parts.{parts_at}
use Rattle.stow_merge.specs.Writing.{CanPack, at_least_one_page}
use Rattle.stow_merge.proofs.PartLemmas.{IsCut, can_part, parts_of}
use Rattle.stow_merge.proofs.parts.cut_block.Given as given
use Rattle.stow_merge.proofs.parts.cut_block.Goals as goal
use Rattle.stow_merge.proofs.parts.cut_block.Goals.{After-as_slice-3}

is_cut : (g : given.Over) (c : After-as_slice-3 g) → IsCut c.args.target c.saturating_sub-room.result c.args.block.now c.in_ok-sizes.sizes.items c.in_ok-ends.ends.items
is_cut g c = record {
  is_low = c.ranges.target.fits;
  is_room = c.saturating_sub-room.ensures;
  rise = c.len-known.ensures.rise;
  are_versions = c.len-known.ensures.versions;
  are_apart = c.are_apart.ensures c.if-not-are_apart.false;
  are_sizes = c.in_ok-sizes.ensures;
  are_ends = subst (λ ss. ArePages ss c.saturating_sub-room.result 0 c.in_ok-ends.ends.items (length ss)) c.as_slice.ensures.value c.in_ok-ends.ensures.pages;
}

pub parts-requires-clause-pack : goal.parts-requires-clause-pack
parts-requires-clause-pack g c =
    let room = c.saturating_sub-room.result in
    subst (λ es. AllByRecursion CanPack (parts_at c.args.block.now 0 es)) (sym c.as_slice-3.ensures.value)
    (can_part c.args.target room c.args.block.now c.in_ok-sizes.sizes.items c.in_ok-ends.ends.items (is_cut g (goal.at.parts-requires-clause-pack g c).After-as_slice-3))

pub returns : goal.returns
returns g c =
    let block = c.args.block.now in
    let sizes = c.in_ok-sizes.sizes.items in
    let ends = c.in_ok-ends.ends.items in
    let room = c.saturating_sub-room.result in
    let few : size_between sizes 0 (length sizes) ≤ room → length ends ≤ 1 =
    subst (λ ss. size_between ss 0 (length ss) ≤ room → length ends ≤ 1) c.as_slice.ensures.value c.in_ok-ends.ensures.one in
    let pages : c.in_ok-pages.pages.items ≡ parts_at block 0 ends = c.in_ok-pages.ensures ∙ ap (parts_at block 0) c.as_slice-3.ensures.value in
    subst (ArePagesOf block c.args.target) (sym (c.in_ok-at_least_one.ensures ∙ ap at_least_one_page pages))
    (parts_of c.args.target room block sizes ends (is_cut g (goal.at.returns g c).After-as_slice-3) few)
