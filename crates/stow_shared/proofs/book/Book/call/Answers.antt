use Rattle.std.proofs.Common.{◌≡◌, List, ap, sym, ◌∙◌, subst, inl, inr, refl}
use Rattle.stow_model.specs.Reply.{reply_of}
use Rattle.stow_shared.specs.Entries.{Entry, call_entry, entries_of}
use Rattle.stow_shared.specs.Copies.{copied}
use Rattle.stow_shared.specs.Journals.{with_entry}
use Rattle.stow_shared.specs.Seats.{with_refusal}
use Rattle.stow_shared.specs.Books.{IsBook, ServesCall}
use Rattle.stow_shared.proofs.Legal.{book_same, book_call}
use Rattle.stow_shared.proofs.Steps.{alike, entry_is, serves_back}
use Rattle.stow_shared.proofs.book.Book.call.Given.{Over}
use Rattle.stow_shared.proofs.book.Book.call.Goals as goal

pub keep_call-requires : goal.keep_call-requires
keep_call-requires g c = alike g.J.Journal.keeps c.args.words.now c.args.copies c.requires

-- ---- memory was refused

pub invariant_of-self : goal.invariant_of-self
invariant_of-self g c =
    book_same g.J.Journal.keeps (entries_of c.self.inside.journal.items) c.self.inside.core c.prepare.new.self c.prepare.ensures.keeps c.self.invariant

pub returns-in-Err : goal.returns-in-Err
returns-in-Err g c =
    rw (← c.self.view_is)
    (inr (record {
      says = c.refuse.ensures.told;
      leaves = record { core = c.prepare.ensures.keeps; journal = refl };
      stranger = λ no. absurd (c.in-Err.ensures.stranger no).answers;
      counted = c.refuse.ensures.counted;
    }))

pub invariant_of-self-in-Err-keep_call : goal.invariant_of-self-in-Err-keep_call
invariant_of-self-in-Err-keep_call g c =
    rw (c.in-Err-keep_call.ensures.err.0)
    (book_same g.J.Journal.keeps (entries_of c.self.inside.journal.items) c.self.inside.core c.prepare.new.self c.prepare.ensures.keeps c.self.invariant)

pub returns-in-Err-keep_call : goal.returns-in-Err-keep_call
returns-in-Err-keep_call g c =
    rw (← c.self.view_is)
    (inr (record {
      says = c.refuse-in-Err-keep_call.ensures.told;
      leaves = record { core = c.prepare.ensures.keeps; journal = ap entries_of c.in-Err-keep_call.ensures.err.0 };
      stranger = λ no. (c.in-Ok.ensures.stranger no).unchanged;
      counted = c.refuse-in-Err-keep_call.ensures.counted ∙ ap with_refusal c.in-Err-keep_call.ensures.err.1;
    }))

-- ---- the call was answered

told_is : (g : Over) (c : goal.After-commit g) → reply_of c.commit.result ≡ reply_of c.in-Ok.prepared.reply
told_is g c = ap reply_of (c.commit.ensures.reply ∙ ap (λ p. p.reply) c.in-Ok-keep_call.ensures.same)

serves : (g : Over) (c : goal.After-commit g) → ServesCall c.self.inside.core c.args.tenant c.args.words.now (reply_of c.commit.result) c.commit.new.self
serves g c =
    serves_back c.self.inside.core c.prepare.new.self c.commit.new.self c.args.tenant c.args.words.now c.in-Ok.prepared c.in-Ok-keep_call.prepared c.commit.result c.in-Ok-keep_call.ensures.same
    c.prepare.ensures.keeps c.in-Ok.ensures.tenant c.in-Ok.ensures.own c.in-Ok.ensures.stranger
    c.commit.ensures.reply c.commit.ensures.own c.commit.ensures.stranger

added : (g : Over) (c : goal.After-commit g) (es : List Entry) → with_entry g.J.Journal.keeps (call_entry c.args.seat.now.number c.args.tenant (copied c.args.copies) (reply_of c.in-Ok.prepared.reply)) es
    ≡ with_entry g.J.Journal.keeps (call_entry c.args.seat.now.number c.args.tenant c.args.words.now (reply_of c.commit.result)) es
added g c es = entry_is g.J.Journal.keeps c.args.words.now c.args.copies c.requires c.args.seat.now.number c.args.tenant (reply_of c.in-Ok.prepared.reply) (reply_of c.commit.result) es (told_is g c)

pub invariant_of-self-in-Ok-keep_call : goal.invariant_of-self-in-Ok-keep_call
invariant_of-self-in-Ok-keep_call g c =
    let es = entries_of c.self.inside.journal.items in
    let P : List Entry → Type 0 = λ x. IsBook g.J.Journal.keeps x c.commit.new.self in
    subst P (sym (c.in-Ok-keep_call.ensures.ok.journal ∙ added g c es))
    (book_call g.J.Journal.keeps c.args.seat.now.number c.args.tenant c.args.words.now (reply_of c.commit.result) es c.self.inside.core c.commit.new.self (serves g c) c.self.invariant)

pub returns-in-Ok-keep_call : goal.returns-in-Ok-keep_call
returns-in-Ok-keep_call g c =
    rw (← c.self.view_is)
    (inl (record {
      core = serves g c;
      adds = record {
        journal = c.in-Ok-keep_call.ensures.ok.journal ∙ added g c (entries_of c.self.inside.journal.items);
        receipt = c.in-Ok-keep_call.ensures.ok.receipt ∙ ap (λ es. record c.args.seat.now { receipts = es }) (added g c c.args.seat.now.receipts);
      };
    }))
