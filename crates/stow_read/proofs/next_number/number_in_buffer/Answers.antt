use Rattle.std.proofs.Common.{sym, ◌∙◌, arith}
use Rattle.stow_tree_model.specs.TreeMessage.{message_of}
use Rattle.stow_read.proofs.NextNumbers.{bound_is, number_none, number_next, number_end}
use Rattle.stow_read.proofs.next_number.number_in_buffer.Goals as goal

pub returns-then-place-len : goal.returns-then-place-len
returns-then-place-len g c =
    let place = c.count_below-place in
    number_none c.args.buffer.now.messages c.args.key.bytes.now c.args.at c.saturating_add.result place.result place.ensures.rising (bound_is c.args.at c.saturating_add.result c.saturating_add.ensures) place.ensures.count
    (let l = c.if-place-len.true in let n = c.len.ensures.len in omega (arith, l, n))

pub returns-then-is_same : goal.returns-then-is_same
returns-then-is_same g c =
    let place = c.count_below-place in
    number_next c.args.buffer.now.messages c.args.key.bytes.now c.args.at c.saturating_add.result place.result (message_of c.message-message.result) place.ensures.valid place.ensures.rising (bound_is c.args.at c.saturating_add.result c.saturating_add.ensures) place.ensures.count
    (let l = c.if-place-len.false in let n = c.len.ensures.len in omega (arith, l, n))
    (sym c.message-message.ensures) (sym c.is_same.ensures ∙ c.if-is_same.true)

pub returns-else-is_same : goal.returns-else-is_same
returns-else-is_same g c =
    let place = c.count_below-place in
    number_end c.args.buffer.now.messages c.args.key.bytes.now c.args.at c.saturating_add.result place.result (message_of c.message-message.result) place.ensures.rising (bound_is c.args.at c.saturating_add.result c.saturating_add.ensures) place.ensures.count
    (let l = c.if-place-len.false in let n = c.len.ensures.len in omega (arith, l, n))
    (sym c.message-message.ensures) (sym c.is_same.ensures ∙ c.if-is_same.false)
