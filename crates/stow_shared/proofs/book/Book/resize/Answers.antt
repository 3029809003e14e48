use Rattle.std.proofs.Common.{◌≡◌, true, refl, List, ap, sym, ◌∙◌, subst, rules}
use Rattle.stow_shared.specs.Entries.{Entry, resize_entry, entries_of}
use Rattle.stow_shared.specs.Books.{IsBook}
use Rattle.stow_shared.proofs.Added.{err_so, is_kept, one_more}
use Rattle.stow_shared.proofs.Legal.{book_same, book_resize, keeps_itself}
use Rattle.stow_shared.proofs.book.Book.resize.Goals as goal

pub invariant_of-self : goal.invariant_of-self
invariant_of-self g c = book_same g.J.Journal.keeps (entries_of c.self.inside.journal.items) c.self.inside.core c.resize.new.self c.resize.ensures.keeps c.self.invariant

pub returns-in_err-reserve-clause-err : goal.returns-in_err-reserve-clause-err
returns-in_err-reserve-clause-err g c =
    err_so c.from_residual.result
    (rw (← c.self.view_is) (record { core = keeps_itself c.self.inside.core c.self.invariant.sound; journal = ap entries_of c.reserve.ensures.items }), refl)

pub invariant_of-self-in_err-resize : goal.invariant_of-self-in_err-resize
invariant_of-self-in_err-resize g c =
    rw (c.reserve.ensures.items)
    (book_same g.J.Journal.keeps (entries_of c.self.inside.journal.items) c.self.inside.core c.resize-2.new.core c.resize-2.ensures.keeps c.self.invariant)

pub invariant_of-self-2 : goal.invariant_of-self-2
invariant_of-self-2 g c =
    let keeps : g.J.Journal.keeps ≡ true = search rules in
    let es = entries_of c.self.inside.journal.items in
    let told = resize_entry c.args.seat.now.number c.args.leaves in
    let says = c.resized-2.ensures ∙ ap (λ n. resize_entry n c.args.leaves) c.number-number.ensures in
    let P : List Entry → Type 0 = λ x. IsBook g.J.Journal.keeps x c.resize-2.new.core in
    subst P (sym (one_more g.J.Journal.keeps told _ _ _ c.resized-2.result keeps c.reserve.ensures.items c.push_reserved.ensures.items says))
    (book_resize g.J.Journal.keeps c.args.seat.now.number c.args.leaves es c.resize-2.new.core
    (book_same g.J.Journal.keeps es c.self.inside.core c.resize-2.new.core c.resize-2.ensures.keeps c.self.invariant))

pub returns-clause-ok : goal.returns-clause-ok
returns-clause-ok g c =
    let keeps : g.J.Journal.keeps ≡ true = search rules in
    let told = resize_entry c.args.seat.now.number c.args.leaves in
    let same = ap (λ n. resize_entry n c.args.leaves) c.number-number.ensures in
    let receipts = c.args.seat.now.receipts in
    rw (← c.self.view_is)
    (record {
      core = c.resize-2.ensures.keeps;
      cache = c.in_ok-resize.ensures.core;
      adds = record {
        journal = one_more g.J.Journal.keeps told _ _ _ c.resized-2.result keeps c.reserve.ensures.items c.push_reserved.ensures.items (c.resized-2.ensures ∙ same);
        receipt = c.in_ok-resize.ensures.ok ∙ ap (λ es. record c.args.seat.now { receipts = es }) (is_kept g.J.Journal.keeps _ told receipts keeps (c.resized.ensures ∙ same));
      };
    })
