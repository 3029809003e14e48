use Rattle.std.proofs.Common.{sym, ◌∙◌}
use Rattle.stow_bytes.proofs.Words.{four_are_read, decide, leave}
use Rattle.stow_bytes.proofs.compare.compare_short.Goals as goal

pub returns-then-word-against : goal.returns-then-word-against
returns-then-word-against c =
    let word = c.split_four-word.ensures in
    let against = c.split_four-against.ensures in
    c.cmp-then-word-against.ensures
    ∙ decide _ _ _ _ _ _ (four_are_read _ _ _ _ _ _ c.if-one-lt4.false c.if-other-lt4.false word.bytes against.bytes word.number against.number word.rest against.rest) c.if-word-against.true

pub returns : goal.returns
returns c =
    let word = c.split_four-word.ensures in
    let against = c.split_four-against.ensures in
    c.cmp-2.ensures
    ∙ sym (leave _ _ _ _ _ _ (four_are_read _ _ _ _ _ _ c.if-one-lt4.false c.if-other-lt4.false word.bytes against.bytes word.number against.number word.rest against.rest) c.if-word-against.false)
