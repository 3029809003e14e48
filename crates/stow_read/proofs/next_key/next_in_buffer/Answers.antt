use Rattle.std.proofs.Common.{◌≡◌, sym, ◌∙◌, subst, arith}
use Rattle.stow_node.specs.StowMessage.Rising.{below}
use Rattle.stow_tree_model.specs.TreeMessage.{message_of}
use Rattle.stow_read.proofs.NextMessages.{messages_none, messages_next, messages_end}
use Rattle.stow_read.proofs.next_key.next_in_buffer.Goals as goal

pub returns-then-at-len : goal.returns-then-at-len
returns-then-at-len g c =
    let ms = c.args.buffer.now.messages in let at = c.count_below-at in
    messages_none ms c.args.start.key.bytes.now c.args.start.after c.args.to.bytes.now at.result at.ensures.valid at.ensures.rising
    (subst (λ n. at.result ≡ below (c.args.start.key.bytes.now, n) ms) c.passed_number.ensures at.ensures.count)
    (let l = c.if-at-len.true in let n = c.len.ensures.len in omega (arith, l, n))

pub returns-then-is_below : goal.returns-then-is_below
returns-then-is_below g c =
    let ms = c.args.buffer.now.messages in let at = c.count_below-at in
    messages_next ms c.args.start.key.bytes.now c.args.start.after c.args.to.bytes.now at.result (message_of c.message.result) at.ensures.valid at.ensures.rising
    (subst (λ n. at.result ≡ below (c.args.start.key.bytes.now, n) ms) c.passed_number.ensures at.ensures.count)
    (let l = c.if-at-len.false in let n = c.len.ensures.len in omega (arith, l, n))
    (sym c.message.ensures) (sym c.is_below.ensures ∙ c.if-is_below.true)

pub returns-else-is_below : goal.returns-else-is_below
returns-else-is_below g c =
    let ms = c.args.buffer.now.messages in let at = c.count_below-at in
    messages_end ms c.args.start.key.bytes.now c.args.start.after c.args.to.bytes.now at.result (message_of c.message.result) at.ensures.valid at.ensures.rising
    (subst (λ n. at.result ≡ below (c.args.start.key.bytes.now, n) ms) c.passed_number.ensures at.ensures.count)
    (let l = c.if-at-len.false in let n = c.len.ensures.len in omega (arith, l, n))
    (sym c.message.ensures) (sym c.is_below.ensures ∙ c.if-is_below.false)
