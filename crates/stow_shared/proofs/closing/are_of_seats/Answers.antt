use Rattle.std.proofs.Common.{◌≤◌, refl, arith}
use mathlib.Core.Bool.{false≢true}
use Rattle.stow_shared.specs.declared.entry.Entry as coded
use Rattle.stow_shared.proofs.Sums.{all_more, all_of_seats, of_seat}
use Rattle.stow_shared.proofs.closing.are_of_seats.Goals as goal
use Rattle.stow_shared.proofs.closing.are_of_seats.Goals.{then-entry-eq0-via-then-entry-eq0, then-entry-eq0-via-else-entry-eq0+then-entry-count}

pub returns-then-entry-eq0 : goal.returns-then-entry-eq0
returns-then-entry-eq0 g c = (
  λ f. absurd (false≢true f),
  λ all.
      let is = of_seat c.args.count c.args.journal.now c.loop-entry.entry-index c.entry-item.result c.entry-item.is c.loop-entry-test.true all in
      absurd (elim c.then-entry-eq0.branch [ then-entry-eq0-via-then-entry-eq0 w ↦ omega (arith, is.0, w.if-entry-eq0.true) | then-entry-eq0-via-else-entry-eq0+then-entry-count w ↦ omega (arith, is.1, w.if-entry-count.true) ]),
)

pub loop-entry-preserved : goal.loop-entry-preserved
loop-entry-preserved g c =
    let P : coded.Entry g.row.A.Denot → Type 0 = λ e. (1 ≤ e.seat) × (e.seat ≤ c.args.count) in
    all_more P c.args.journal.now c.loop-entry.entry-index c.entry-item.result c.entry-item.is c.loop-entry-test.true (omega arith, omega arith) c.loop-entry.invariant

pub returns : goal.returns
returns g c = (λ t. all_of_seats c.args.count c.args.journal.now (λ k d h. c.loop-entry.invariant k d (omega (arith, h))), λ all. refl)
