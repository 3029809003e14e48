use Rattle.std.proofs.Common.{ap, sym, ◌∙◌, ◌+◌}
use Rattle.std.specs.Prelude.{filter, not, sum_by}
use Rattle.std.specs.FinMap as map
use Rattle.stow_model.specs.Store.{cost}
use Rattle.stow_ledger.specs.Shown.{is_in}
use Rattle.stow_plain.specs.Contents.{shown_in}
use Rattle.stow_plain.specs.PlainMap.{entries_of}
use Rattle.stow_plain.proofs.Mapped.{entries-rows}
use Rattle.stow_plain.proofs.plain_rows.PlainRows.cost_beside.Goals as goal

pub loop-key-init : goal.loop-key-init
loop-key-init g c =
    let es = c.self.inside.rows.entries in
    record {
      fits = c.ranges.sum.fits;
      costs = ap (λ x. c.args.sum + sum_by cost (filter (λ shown. not (is_in shown (shown_in c.args.copies.now))) x))
          (ap (entries_of (λ k. k.items)) (c.into_iter-key-iterator.ensures.into_iter_gives ∙ c.iter-key-items.ensures.rest)
          ∙ sym (entries-rows (λ k. k.items) es c.iter-key-items.ensures.ordered) ∙ ap map.entries c.self.view_is);
    }
