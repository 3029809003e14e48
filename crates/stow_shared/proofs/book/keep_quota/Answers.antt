use Rattle.std.proofs.Common.{◌≡◌, Bool, true, ap, sym, ◌∙◌, subst, rules}
use Rattle.stow_shared.specs.Books.{Adds}
use Rattle.stow_shared.specs.Entries.{Entry, quota_entry, entries_of}
use Rattle.stow_shared.proofs.book.keep_quota.Goals as goal

pub returns-clause-ok : goal.returns-clause-ok
returns-clause-ok g c =
    let keeps : g.J.Journal.keeps ≡ true = search rules in
    let P : Bool → Entry → Type 0 = λ k e. Adds k e (entries_of c.args.journal.now.items) c.args.seat.now (entries_of c.keep.new.journal.items) c.keep.new.seat in
    subst (λ k. P k (quota_entry c.args.seat.now.number c.args.tenant c.args.quota)) (sym keeps)
    (subst (P true) (c.ordered-entry.ensures ∙ ap (λ n. quota_entry n c.args.tenant c.args.quota) c.number-number.ensures) c.in_ok-keep.ensures.ok)
