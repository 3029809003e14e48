use Rattle.std.proofs.Common.{◌-◌, ◌<◌, length, ap, sym, ◌∙◌, arith}
use Rattle.stow_tree_model.specs.Order.{VersionPlace}
use Rattle.stow_message.specs.Rising.{is_below}
use Rattle.stow_message.proofs.RisingLists.{below_tells}
use Rattle.stow_message.proofs.message_buf.MessageBuf.is_past.Goals as goal

pub returns-clause-below : goal.returns-clause-below
returns-clause-below g c = λ told.
    let p : VersionPlace = (c.args.key.now, c.args.number) in let ms = c.args.self.now.messages in let i = c.args.count - 1 in
    let lt : i < length ms = omega (arith, c.if-count-eq0.false, c.if-count-len.false, c.len.ensures.len) in
    let less = (below_tells p ms i _ c.len.ensures.rising lt).0 (sym (c.is_message_below.ensures ∙ ap (is_below p) c.message.ensures) ∙ told) in
    omega (arith, less, c.if-count-eq0.false)
