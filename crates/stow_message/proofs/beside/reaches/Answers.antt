use Rattle.std.proofs.Common.{◌-◌, ◌<◌, sym, ◌∙◌, arith}
use Rattle.stow_message.specs.MessageBuf.{messages_in}
use Rattle.stow_message.specs.Rising.{below}
use Rattle.stow_message.proofs.Neighbours.{slot_tells}
use Rattle.stow_message.proofs.beside.reaches.Goals as goal

pub returns-in-Some : goal.returns-in-Some
returns-in-Some g c = λ told.
    let some : 0 < c.args.count = omega (arith, c.if-count-eq0.false) in
    let more : c.args.count - 1 < below (c.args.key.now, c.args.number) (messages_in c.args.raw.now) = (slot_tells c.args.raw.now c.requires.filled (c.args.key.now, c.args.number) (c.args.count - 1) c.in-Some.slot (sym (c.requires.last some) ∙ c.in-Some.is)).0 (sym c.names_below.ensures ∙ told) in
    omega (arith, more)
