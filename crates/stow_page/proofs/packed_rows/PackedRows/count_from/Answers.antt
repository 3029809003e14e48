use Rattle.std.proofs.Common.{◌≡◌, ◌<◌, ◌^◌, length, sym, ap, ◌∙◌, subst, arith}
use Rattle.std.proofs.lemmas.List.{length-map}
use Rattle.std.specs.Prelude.{drop}
use Rattle.stow_page.specs.Rows.{version_in}
use Rattle.stow_page.proofs.Looked.{narrowed_first, narrowed_down, narrowed_up, counted_narrowed}
use Rattle.stow_page.proofs.Sizes.{few_rows}
use Rattle.stow_page.proofs.packed_rows.PackedRows.count_from.Given as given
use Rattle.stow_page.proofs.packed_rows.PackedRows.count_from.Goals as goal
use Rattle.stow_page.proofs.packed_rows.PackedRows.count_from.Goals.{After-len-len}

len_is : (g : given.Over) (c : After-len-len g) → c.len-len.result ≡ length c.args.self.now
len_is g c = c.len-len.ensures ∙ c.self.inside.places.ok.0 ∙ sym (length-map c.self.inside.places.items (λ p. version_in c.self.inside.format (drop p c.self.inside.bytes.items))) ∙ ap length c.self.view_is

pub loop-next-init : goal.loop-next-init
loop-next-init g c = let len = len_is g (goal.at.loop-next-init g c).After-len-len in
    record { narrowed = narrowed_first c.args.self.now (c.args.key.bytes.now, c.args.number) c.args.from c.len-len.result (let within = c.requires in omega arith) (omega arith); ahead = omega arith }

pub returns-then-stands_above : goal.returns-then-stands_above
returns-then-stands_above g c =
    counted_narrowed c.args.self.now _ c.args.from c.len-len.result c.loop-next.low c.loop-next.next _ (len_is g (goal.at.returns-then-stands_above g c).After-len-len)
    (narrowed_down _ _ _ _ _ _ _ _ c.get.ensures.rise c.loop-next.invariant.narrowed c.loop-next.invariant.ahead c.loop-next-test.true c.get.ensures.version (sym c.stands_above.ensures ∙ c.if-stands_above.true))
    c.count_between.ensures

pub overflow_add-next : goal.overflow_add-next
overflow_add-next g c =
    let few = subst (λ rows. length rows < 2 ^ 32) c.self.view_is (few_rows _ _ _ _ c.self.invariant.block) in
    let len = len_is g (goal.at.overflow_add-next g c).After-len-len in
    let low = c.loop-next-test.true in
    omega (arith, few, len, low)

pub loop-next-preserved : goal.loop-next-preserved
loop-next-preserved g c = record {
  narrowed = narrowed_up _ _ _ _ _ _ _ _ c.get.ensures.rise c.loop-next.invariant.narrowed c.loop-next.invariant.ahead c.loop-next-test.true c.get.ensures.version (sym c.stands_above.ensures ∙ c.if-stands_above.false);
  ahead = let first = c.loop-next.invariant.narrowed.first in let ahead = c.loop-next.invariant.ahead in omega (arith, first, ahead);
}

pub returns : goal.returns
returns g c = counted_narrowed c.args.self.now _ c.args.from c.len-len.result c.loop-next.low c.len-len.result _ (len_is g (goal.at.returns g c).After-len-len) c.loop-next.invariant.narrowed c.count_between-2.ensures
