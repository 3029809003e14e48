use Rattle.std.proofs.lemmas.Grind.{common_steps}
use Rattle.std.proofs.Common.{◌≡◌, ◌∙◌, ◌+◌, length, ap, sym, arith, true, false}
use Rattle.stow_page.specs.StowTreeModel.Op.{op_of, bytes_in}
use Rattle.stow_page.specs.StowTreeModel.declared.message.Message as messages
use Rattle.stow_merge.proofs.WritingLemmas.{carried_more, carried_within}
use Rattle.stow_merge.proofs.fitting.carry_a_value.Goals as goal

pub returns-then-size-left : goal.returns-then-size-left
returns-then-size-left c =
    let more = carried_more c.args.messages.now c.loop-i.i c.index-messages-i.result c.loop-i-test.true c.index-messages-i.is in
    let within = carried_within c.args.messages.now (c.loop-i.i + 1) in
    let here : length c.carried-size.result.now ≡ length (bytes_in (op_of c.index-messages-i.result.op)) = ap length c.carried-size.ensures ∙ ap (λ (m : messages.Message). length (bytes_in (op_of m.op))) (sym c.index-messages-i.is) in
    let so_far = c.loop-i.invariant in
    let above = c.if-size-left.true in
    ((λ e. let z : false ≡ true = e in absurd (cc)), (λ short. absurd (omega arith)))

pub loop-i-preserved : goal.loop-i-preserved
loop-i-preserved c =
    let more = carried_more c.args.messages.now c.loop-i.i c.index-messages-i.result c.loop-i-test.true c.index-messages-i.is in
    let here : length c.carried-size.result.now ≡ length (bytes_in (op_of c.index-messages-i.result.op)) = ap length c.carried-size.ensures ∙ ap (λ (m : messages.Message). length (bytes_in (op_of m.op))) (sym c.index-messages-i.is) in
    let so_far = c.loop-i.invariant in
    let within = c.if-size-left.false in
    omega arith

pub returns : goal.returns
returns c = grind (arith, common_steps)
