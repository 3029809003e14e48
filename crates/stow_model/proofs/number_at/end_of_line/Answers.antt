use Rattle.std.proofs.Common.{◌≡◌, sym, ◌∙◌, true, false, inl, inr}
use Rattle.stow_model.proofs.Numbers.{at_end_stuck, at_end_more, at_end_stuck_line, at_end_number, empty, first_and_rest}
use Rattle.stow_model.proofs.number_at.end_of_line.Goals as goal

pub returns-then-not-some : goal.returns-then-not-some
returns-then-not-some c = λ front limit few h long none. at_end_stuck c.args.some limit front c.args.after.now c.args.value c.args.byte few h long none c.requires (λ t e. elim c.then-not-some.either [ inl no_digits ↦ let bad : true ≡ false = sym t ∙ no_digits in cc | inr other ↦ other.1 e ])

pub returns-in-None : goal.returns-in-None
returns-in-None c = λ front limit few h long none. at_end_more limit front c.args.after.now c.args.value c.args.byte h (long c.if-not-some.false) c.if-byte-ne13.false (empty c.args.after.now c.in-None.ensures.cases)

pub returns-then-line_feed-ne10 : goal.returns-then-line_feed-ne10
returns-then-line_feed-ne10 c = λ front limit few h long none. at_end_stuck_line limit front c.args.after.now c.in-Some.rest.now c.args.value c.args.byte c.in-Some.line_feed.now few h (long c.if-not-some.false) c.if-byte-ne13.false (first_and_rest c.args.after.now c.in-Some.line_feed.now c.in-Some.rest.now c.in-Some.ensures.cases) c.if-line_feed-ne10.true

pub returns-else-line_feed-ne10 : goal.returns-else-line_feed-ne10
returns-else-line_feed-ne10 c = λ front limit few h long none. at_end_number limit front c.args.after.now c.in-Some.rest.now c.args.value c.args.byte c.in-Some.line_feed.now h (long c.if-not-some.false) c.if-byte-ne13.false (first_and_rest c.args.after.now c.in-Some.line_feed.now c.in-Some.rest.now c.in-Some.ensures.cases) c.if-line_feed-ne10.false
