use Rattle.std.proofs.Common.{List, sym, subst}
use Rattle.stow_shared.specs.Books.{IsBook}
use Rattle.stow_shared.specs.Entries.{Entry, entries_of}
use Rattle.stow_shared.proofs.Legal.{book_quota}
use Rattle.stow_shared.proofs.book.Book.set_quota.Goals as goal

pub invariant_of-self-2 : goal.invariant_of-self-2
invariant_of-self-2 g c =
    let P : List Entry → Type 0 = λ x. IsBook g.J.Journal.keeps x c.set_quota.new.self in
    subst P (sym c.in_ok-keep_quota.ensures.ok.journal)
    (book_quota g.J.Journal.keeps c.args.seat.now.number c.args.tenant c.args.quota (entries_of c.self.inside.journal.items) c.self.inside.core c.set_quota.new.self c.set_quota.ensures c.self.invariant)

pub returns-clause-ok : goal.returns-clause-ok
returns-clause-ok g c = rw (← c.self.view_is) (record { core = c.set_quota.ensures; adds = c.in_ok-keep_quota.ensures.ok })
