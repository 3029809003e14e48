use Rattle.std.proofs.Common.{◌+◌, ◌-◌, ◌<◌, ◌^◌, subst, sym, ◌∙◌, arith}
use Rattle.std.proofs.lemmas.Bool.{lt-ltb, ltb-true}
use Rattle.stow_page.proofs.Joined.{block_of}
use Rattle.stow_page.proofs.Taken.{AreBounds, bounds_apart, can_be_taken}
use Rattle.stow_page.proofs.packed_rows.PackedRows.can_take.Given as given
use Rattle.stow_page.proofs.packed_rows.PackedRows.can_take.Goals as goal
use Rattle.stow_page.proofs.packed_rows.PackedRows.can_take.Goals.{After-place_of-2}

bounds : (g : given.Over) (c : After-place_of-2 g) → AreBounds c.args.other.now c.args.from c.args.to c.place_of-2.result c.place_of.result
bounds g c = record {
  order = c.requires.order;
  first_is = c.place_of-2.ensures.place;
  end_is = c.place_of.ensures.place;
}

pub overflow_sub-more : goal.overflow_sub-more
overflow_sub-more g c = let apart = bounds_apart _ _ _ _ _ (bounds g (goal.at.overflow_sub-more g c).After-place_of-2) in omega (arith, apart)

pub returns : goal.returns
returns g c =
    let len = c.len.ensures ∙ c.self.inside.bytes.ok.0 in
    let fits =
    can_be_taken c.self.inside.format _ _ c.args.self.now c.args.other.now c.args.from c.args.to c.place_of-2.result c.place_of.result (block_of _ _ _ _ c.self.invariant.block c.self.view_is)
    (c.is_same.ensures.0 c.if-not-is_same.false ∙ c.format.ensures)
    (bounds g (goal.at.returns g c).After-place_of-2) in (
      λ t. fits.0 (subst (λ n. n + (c.place_of.result - c.place_of-2.result) < 2 ^ 32) len (ltb-true _ _ t)),
      λ can. lt-ltb _ _ (subst (λ n. n + (c.place_of.result - c.place_of-2.result) < 2 ^ 32) (sym len) (fits.1 can)),
    )
