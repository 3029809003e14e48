use Rattle.std.proofs.lemmas.Grind.{common_steps}
use Rattle.std.proofs.Common.{◌≡◌, ◌∙◌, ◌+◌, length, ap, sym, arith}
use Rattle.stow_page.specs.StowTreeModel.Op.{op_of, bytes_in}
use Rattle.stow_page.specs.StowTreeModel.declared.message.Message as messages
use Rattle.stow_merge.proofs.WritingLemmas.{carried_more, carried_within}
use Rattle.stow_merge.proofs.measuring.carried_size.Goals as goal

pub overflow_add-size : goal.overflow_add-size
overflow_add-size c =
    let more = carried_more c.args.messages.now c.loop-i.i c.index-messages-i.result c.loop-i-test.true c.index-messages-i.is in
    let within = carried_within c.args.messages.now (c.loop-i.i + 1) in
    let here : length c.carried.result.now ≡ length (bytes_in (op_of c.index-messages-i.result.op)) = ap length c.carried.ensures ∙ ap (λ (m : messages.Message). length (bytes_in (op_of m.op))) (sym c.index-messages-i.is) in
    omega arith

pub loop-i-preserved : goal.loop-i-preserved
loop-i-preserved c =
    let more = carried_more c.args.messages.now c.loop-i.i c.index-messages-i.result c.loop-i-test.true c.index-messages-i.is in
    let here : length c.carried.result.now ≡ length (bytes_in (op_of c.index-messages-i.result.op)) = ap length c.carried.ensures ∙ ap (λ (m : messages.Message). length (bytes_in (op_of m.op))) (sym c.index-messages-i.is) in
    omega arith

pub returns-clause-size : goal.returns-clause-size
returns-clause-size c = grind (arith, common_steps)

pub returns-clause-small : goal.returns-clause-small
returns-clause-small c = grind (arith, common_steps)
