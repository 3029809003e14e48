use Rattle.std.proofs.Common.{sym, ◌∙◌}
use mathlib.Core.Bool.{false≢true}
use Rattle.stow_shared.proofs.book.Book.is_whole.Goals as goal

pub returns-then-have_receipts-clause-whole : goal.returns-then-have_receipts-clause-whole
returns-then-have_receipts-clause-whole g c =
    rw (← c.self.view_is) (
      λ t. record {
        each = c.are_one_each.ensures.0 c.if-not-are_one_each.false;
        same = sym (c.deref.ensures ∙ c.tenants.ensures) ∙ c.is_same.ensures.0 c.if-not-is_same.false;
        receipts = λ k. rw (← c.as_slice.ensures.value) (c.have_receipts.ensures.0 c.if-have_receipts.true);
        numbers = λ k. rw (← c.as_slice-then-have_receipts.ensures.value) (c.are_of_seats.ensures.0 t);
      },
      λ whole. c.are_of_seats.ensures.1 (rw (c.as_slice-then-have_receipts.ensures.value) (whole.numbers (sym c.is_kept.ensures ∙ c.if-not-is_kept.false))),
    )

pub returns-else-have_receipts-clause-whole : goal.returns-else-have_receipts-clause-whole
returns-else-have_receipts-clause-whole g c =
    rw (← c.self.view_is)
    (λ t. absurd (false≢true (sym c.if-have_receipts.false ∙ t)), λ whole. c.have_receipts.ensures.1 (rw (c.as_slice.ensures.value) (whole.receipts (sym c.is_kept.ensures ∙ c.if-not-is_kept.false))))
