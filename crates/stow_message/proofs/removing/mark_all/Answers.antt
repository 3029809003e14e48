use Rattle.std.proofs.Common.{◌≡◌, ◌<◌, length, get_or, take, sym, ◌∙◌, arith}
use Rattle.stow_tree_model.specs.TreeMessage.{TreeMessage, message_of}
use Rattle.stow_message.specs.Filter.{IsCovered}
use Rattle.stow_message.specs.MessageBuf.{messages_in}
use Rattle.stow_message.proofs.Covered.{covers_more}
use Rattle.stow_message.proofs.Each.{each_next, each_of_all}
use Rattle.stow_message.proofs.Pushed.{slots_of_messages}
use Rattle.stow_message.proofs.Stored.{filled_at, message_there, read_is}
use Rattle.stow_message.proofs.removing.mark_all.Goals as goal

pub read_message-message-requires : goal.read_message-message-requires
read_message-message-requires g c =
    let raw = c.args.raw.now in let h = c.requires.filled in let i = c.loop-i.i in
    let lt : i < length raw.slots = omega (arith, c.loop-i-test.true, c.slot_count-i-end.ensures) in
    record { begins = filled_at raw h i lt c.slot.result c.slot.ensures; small = omega (arith, h.within) }

pub loop-i-preserved : goal.loop-i-preserved
loop-i-preserved g c =
    let raw = c.args.raw.now in let h = c.requires.filled in let i = c.loop-i.i in let m : TreeMessage = message_of c.read_message-message.result in
    let lt : i < length raw.slots = omega (arith, c.loop-i-test.true, c.slot_count-i-end.ensures) in
    let is : m ≡ get_or (messages_in raw) i m = c.read_message-message.ensures ∙ read_is raw.front c.slot.result (filled_at raw h i lt c.slot.result c.slot.ensures) ∙ sym (message_there raw h i lt c.slot.result c.slot.ensures m) in
    each_next (IsCovered c.add.new.self) (messages_in raw) i m (omega (arith, lt, slots_of_messages raw)) is c.add.ensures.added
    (covers_more c.loop-i.filter c.add.new.self (take i (messages_in raw)) c.add.ensures.stay c.loop-i.invariant)

pub returns : goal.returns
returns g c =
    let raw = c.args.raw.now in
    each_of_all (IsCovered c.loop-i.filter) (messages_in raw) c.loop-i.i (omega (arith, c.loop-i-test.false, c.slot_count-i-end.ensures, slots_of_messages raw)) c.loop-i.invariant
