use Rattle.std.proofs.Common.{length, ◌≤◌, ap, sym, ◌∙◌, arith, rules, ◌≡◌, ◌≢◌, eq-eqb}
use mathlib.Core.Bool.{false≢true}
use Rattle.std.proofs.lemmas.Bool.{ne_eqb, eqb-true}
use Rattle.stow_shared.specs.Entries.{entry_of, entries_of}
use Rattle.stow_shared.specs.Journals.{entries_by}
use Rattle.stow_shared.proofs.Receipts.{at_first, next_passed, next_taken, next_differs, next_missing, at_end}
use Rattle.stow_shared.proofs.closing.has_receipts.Goals as goal
use Rattle.stow_shared.proofs.closing.has_receipts.Goals.{then-number-entry+in-Some, else-number-entry}

pub loop-entry-init : goal.loop-entry-init
loop-entry-init g c = at_first c.number-number.result c.args.seat.now.receipts c.args.journal.now c.receipts-left.result.now c.receipts-left.ensures

pub returns-in_default : goal.returns-in_default
returns-in_default g c =
    let differ : entry_of c.in-Some.receipt.now ≢ entry_of c.entry-item.result = λ e. false≢true (sym c.if-same_entry.false ∙ c.same_entry.ensures.1 e) in
    let apart = next_differs c.number-number.result c.args.seat.now.receipts c.args.journal.now c.loop-entry.left.now c.in-Some.receipt.now c.in-Some.later.now c.loop-entry.entry-index c.entry-item.result c.entry-item.is c.loop-entry-test.true (eq-eqb c.number-number.result c.entry-item.result.seat c.if-number-entry.true)
    c.in-Some.ensures.cases.0 differ c.loop-entry.invariant in
    (λ f. absurd (false≢true f), λ has. absurd (apart (has ∙ ap (λ n. entries_by n (entries_of c.args.journal.now)) (sym c.number-number.ensures))))

pub returns-in_default-2 : goal.returns-in_default-2
returns-in_default-2 g c =
    let none : length c.loop-entry.left.now ≡ 0 = search rules in
    let apart = next_missing c.number-number.result c.args.seat.now.receipts c.args.journal.now c.loop-entry.left.now c.loop-entry.entry-index c.entry-item.result c.entry-item.is c.loop-entry-test.true (eq-eqb c.number-number.result c.entry-item.result.seat c.if-number-entry.true)
    none c.loop-entry.invariant in
    (λ f. absurd (false≢true f), λ has. absurd (apart (has ∙ ap (λ n. entries_by n (entries_of c.args.journal.now)) (sym c.number-number.ensures))))

pub loop-entry-preserved : goal.loop-entry-preserved
loop-entry-preserved g c =
    elim c.if-number-entry.branch [
      | then-number-entry+in-Some w ↦ next_taken c.number-number.result c.args.seat.now.receipts c.args.journal.now c.loop-entry.left.now c.if-number-entry.left.now w.in-Some.receipt.now w.in-Some.later.now c.loop-entry.entry-index c.entry-item.result c.entry-item.is c.loop-entry-test.true
          (eq-eqb c.number-number.result c.entry-item.result.seat w.if-number-entry.true) w.in-Some.ensures.cases.0 (ap (λ b. b.now) w.left-is) (w.same_entry.ensures.0 w.if-same_entry.true) c.loop-entry.invariant
      | else-number-entry w ↦ next_passed c.number-number.result c.args.seat.now.receipts c.args.journal.now c.loop-entry.left.now c.if-number-entry.left.now c.loop-entry.entry-index c.entry-item.result c.entry-item.is c.loop-entry-test.true
          (ne_eqb c.number-number.result c.entry-item.result.seat w.if-number-entry.false) (ap (λ b. b.now) w.left-is) c.loop-entry.invariant
    ]

pub returns : goal.returns
returns g c =
    let past : length c.args.journal.now ≤ c.loop-entry.entry-index = omega arith in
    let end = at_end c.number-number.result c.args.seat.now.receipts c.args.journal.now c.loop-entry.left.now c.loop-entry.entry-index past c.loop-entry.invariant in
    let number = ap (λ n. entries_by n (entries_of c.args.journal.now)) c.number-number.ensures in
    (λ t. end.0 (eqb-true (length c.loop-entry.left.now) 0 (sym c.is_empty.ensures ∙ t)) ∙ number, λ has. c.is_empty.ensures ∙ eq-eqb (length c.loop-entry.left.now) 0 (end.1 (has ∙ sym number)))
