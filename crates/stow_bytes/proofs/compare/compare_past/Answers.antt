use Rattle.std.proofs.Common.{◌+◌, ◌-◌, arith, ◌∙◌, sym}
use Rattle.stow_bytes.proofs.Alike.{alike_less, alike_ends, word_decides, word_leaves}
use Rattle.stow_bytes.proofs.compare.compare_past.Goals as goal

pub returns-then-word-against-clause-order : goal.returns-then-word-against-clause-order
returns-then-word-against-clause-order c =
    let one = c.args.one.now in let other = c.args.other.now in let at = c.loop-shared.shared in let word = c.word_at-word.ensures in let against = c.word_at-against.ensures in
    c.cmp-order.ensures
    ∙ word_decides one other at (omega (arith, c.min-common.ensures, c.loop-shared-test.true)) (omega (arith, c.min-common.ensures, c.loop-shared-test.true)) word.bytes against.bytes _ _ word.number against.number c.loop-shared.invariant c.if-word-against.true

pub loop-shared-preserved : goal.loop-shared-preserved
loop-shared-preserved c =
    let one = c.args.one.now in let other = c.args.other.now in let at = c.loop-shared.shared in let word = c.word_at-word.ensures in let against = c.word_at-against.ensures in
    word_leaves one other at (omega (arith, c.min-common.ensures, c.loop-shared-test.true)) (omega (arith, c.min-common.ensures, c.loop-shared-test.true)) word.bytes against.bytes _ _ word.number against.number c.loop-shared.invariant c.if-word-against.false

pub returns-then-word-against-2-clause-order : goal.returns-then-word-against-2-clause-order
returns-then-word-against-2-clause-order c =
    let one = c.args.one.now in let other = c.args.other.now in let last = c.min-common.result - 8 in let word = c.word_at-word-2.ensures in let against = c.word_at-against-2.ensures in
    c.cmp-order-then-word-against-2.ensures
    ∙ word_decides one other last (omega (arith, c.min-common.ensures, c.if-common-lt8.false)) (omega (arith, c.min-common.ensures, c.if-common-lt8.false)) word.bytes against.bytes _ _ word.number against.number
    (alike_less last c.loop-shared.shared one other (omega (arith, c.loop-shared-test.false)) c.loop-shared.invariant) c.if-word-against-2.true

pub returns-else-word-against-2-clause-order : goal.returns-else-word-against-2-clause-order
returns-else-word-against-2-clause-order c =
    let one = c.args.one.now in let other = c.args.other.now in let last = c.min-common.result - 8 in let word = c.word_at-word-2.ensures in let against = c.word_at-against-2.ensures in
    c.cmp-order-else-word-against-2.ensures
    ∙ sym (alike_ends one other (last + 8)
    (word_leaves one other last (omega (arith, c.min-common.ensures, c.if-common-lt8.false)) (omega (arith, c.min-common.ensures, c.if-common-lt8.false)) word.bytes against.bytes _ _ word.number against.number
    (alike_less last c.loop-shared.shared one other (omega (arith, c.loop-shared-test.false)) c.loop-shared.invariant) c.if-word-against-2.false)
    (omega (arith, c.min-common.ensures, c.if-common-lt8.false)))
