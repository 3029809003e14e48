use Rattle.std.proofs.Common.{◌<◌, length, ap, sym, ◌∙◌, arith, get_or}
use Rattle.stow_message.specs.Packed.{message_bytes}
use Rattle.stow_message.specs.MessageBuf.{MessageList}
use Rattle.stow_message.proofs.Stored.{filled_at, message_there, read_is, index_within}
use Rattle.stow_message.proofs.message_buf.MessageBuf.packed.Goals as goal

pub packed_at-requires : goal.packed_at-requires
packed_at-requires g c =
    let raw = c.self.inside.raw in let h = c.self.invariant.filled in let i = c.args.index in let lt : i < length raw.slots = index_within raw c.args.self.now c.self.view_is i c.requires in
    record { begins = filled_at raw h i lt c.slot.result c.slot.ensures; small = omega (arith, h.within) }

pub returns : goal.returns
returns g c = λ none.
    let raw = c.self.inside.raw in let h = c.self.invariant.filled in let i = c.args.index in let lt : i < length raw.slots = index_within raw c.args.self.now c.self.view_is i c.requires in
    let b = filled_at raw h i lt c.slot.result c.slot.ensures in
    c.packed_at.ensures ∙ ap message_bytes (read_is raw.front c.slot.result b ∙ sym (message_there raw h i lt c.slot.result c.slot.ensures none) ∙ ap (λ (w : MessageList). get_or w.messages i none) c.self.view_is)
