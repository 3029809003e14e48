use Rattle.std.specs.Arc.{arc_value}
use Rattle.stow_shared.specs.Closed.{IsWhole}
use Rattle.stow_shared.proofs.Sums.{lengths, one_of_each}
use Rattle.stow_shared.proofs.shared.Shared.close.Goals as goal

pub returns-then-is_whole-clause-closed : goal.returns-then-is_whole-clause-closed
returns-then-is_whole-clause-closed g c =
    let book = c.into_inner-book.result in
    let seats = c.args.seats.items in
    let whole : IsWhole g.J.Journal.keeps (arc_value c.self.inside.tenants) c.self.inside.seats seats book =
    rw (← c.deref.ensures, ← c.as_slice.ensures.value) (c.is_whole.ensures.whole.0 c.if-is_whole.true) in
    rw (c.new.ensures, ← c.self.view_is)
    (record {
      whole = whole;
      legal = c.is_whole.ensures.kept;
      lengths = λ k. lengths book.entries seats (whole.receipts k) (one_of_each c.self.inside.seats seats book.entries whole.each.1 (whole.numbers k));
    })
