use Rattle.std.proofs.Common.{◌≡◌, true, false, refl, List, ap, sym, ◌∙◌, subst, rules}
use Rattle.stow_shared.specs.Entries.{Entry, install_entry, entries_of}
use Rattle.stow_shared.specs.Books.{IsBook}
use Rattle.stow_shared.proofs.Added.{err_so, first_back, installs_unkept, is_kept, one_more}
use Rattle.stow_shared.proofs.Legal.{book_same, book_install, keeps_itself}
use Rattle.stow_shared.proofs.book.Book.install.Goals as goal

pub invariant_of-self : goal.invariant_of-self
invariant_of-self g c = book_same g.J.Journal.keeps (entries_of c.self.inside.journal.items) c.self.inside.core c.install.new.self c.install.ensures.keeps c.self.invariant

pub returns-then-not-is_kept-clause-ok : goal.returns-then-not-is_kept-clause-ok
returns-then-not-is_kept-clause-ok g c =
    let keeps : g.J.Journal.keeps ≡ false = search rules in
    let e = c.install.ensures in
    rw (← c.self.view_is)
    (installs_unkept g.J.Journal.keeps (record { core = c.self.inside.core; entries = entries_of c.self.inside.journal.items }) c.args.seat.now c.args.merge.job c.install.result
    (record { core = c.install.new.self; entries = entries_of c.self.inside.journal.items }) keeps refl e.keeps e.stale e.unmoved e.done)

pub returns-then-not-is_kept-clause-err : goal.returns-then-not-is_kept-clause-err
returns-then-not-is_kept-clause-err g c = err_so c.install.result (rw (← c.self.view_is) (record { core = c.install.ensures.keeps; journal = refl }), refl)

pub returns-then-not-is_kept-clause-back : goal.returns-then-not-is_kept-clause-back
returns-then-not-is_kept-clause-back g c = first_back _ c.args.merge c.install.result c.install.ensures.err

pub returns-in-Err-clause-err : goal.returns-in-Err-clause-err
returns-in-Err-clause-err g c = (rw (← c.self.view_is) (record { core = keeps_itself c.self.inside.core c.self.invariant.sound; journal = ap entries_of c.reserve.ensures.items }), refl)

pub invariant_of-self-in_err-told : goal.invariant_of-self-in_err-told
invariant_of-self-in_err-told g c =
    rw (c.reserve.ensures.items)
    (book_same g.J.Journal.keeps (entries_of c.self.inside.journal.items) c.self.inside.core c.install-2.new.core c.install-2.ensures.keeps c.self.invariant)

pub invariant_of-self-2 : goal.invariant_of-self-2
invariant_of-self-2 g c =
    let keeps : g.J.Journal.keeps ≡ true = search rules in
    let es = entries_of c.self.inside.journal.items in
    let told = install_entry c.args.seat.now.number c.in_ok-told.told in
    let says = c.installed.ensures ∙ ap (λ n. install_entry n c.in_ok-told.told) c.number-number.ensures in
    let P : List Entry → Type 0 = λ x. IsBook g.J.Journal.keeps x c.install-2.new.core in
    subst P (sym (one_more g.J.Journal.keeps told _ _ _ c.installed.result keeps c.reserve.ensures.items c.push_reserved.ensures.items says))
    (book_install g.J.Journal.keeps c.args.seat.now.number c.in_ok-told.told es c.install-2.new.core
    (book_same g.J.Journal.keeps es c.self.inside.core c.install-2.new.core c.install-2.ensures.keeps c.self.invariant))

pub returns-clause-ok : goal.returns-clause-ok
returns-clause-ok g c =
    let keeps : g.J.Journal.keeps ≡ true = search rules in
    let told = install_entry c.args.seat.now.number c.in_ok-told.told in
    let says = c.installed.ensures ∙ ap (λ n. install_entry n c.in_ok-told.told) c.number-number.ensures in
    let receipts = c.args.seat.now.receipts in
    rw (← c.self.view_is)
    (record {
      core = c.in_ok-told.ensures.core;
      adds = record {
        journal = one_more g.J.Journal.keeps told _ _ _ c.installed.result keeps c.reserve.ensures.items c.push_reserved.ensures.items says;
        receipt = c.in_ok-told.ensures.ok ∙ ap (λ es. record c.args.seat.now { receipts = es }) (is_kept g.J.Journal.keeps told told receipts keeps refl);
      };
    })
