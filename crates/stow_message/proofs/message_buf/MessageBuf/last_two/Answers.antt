use Rattle.std.proofs.Common.{◌≡◌, ◌-◌, ◌<◌, ◌≤◌, Some, ap, sym, ◌∙◌, arith}
use Rattle.std.specs.Prelude.{slice_get}
use Rattle.stow_message.specs.MessageBuf.{MessageList}
use Rattle.stow_message.proofs.Single.{message_named}
use Rattle.stow_message.proofs.message_buf.MessageBuf.last_two.Goals as goal

pub returns-clause-two : goal.returns-clause-two
returns-clause-two g c =
    let raw = c.self.inside.raw in let n = c.args.place.count in
    let two : 2 ≤ n = omega (arith, c.if-place-lt2.false) in
    let some : 0 < n - 1 = omega (arith, two) in
    let before : n - 1 - 1 ≡ n - 2 = omega arith in
    let first : slice_get raw.slots (n - 2) ≡ Some c.in-Some.first = ap (slice_get raw.slots) (sym before) ∙ sym (c.around-beside.ensures.before some) ∙ c.in-Some.is in
    let second : slice_get raw.slots (n - 1) ≡ Some c.in-Some-1₀.second = sym c.around-beside.ensures.at ∙ c.in-Some-1₀.is in (
      two,
      ap (λ (w : MessageList). slice_get w.messages (n - 2)) (sym c.self.view_is) ∙ message_named raw (n - 2) c.in-Some.first first ∙ ap Some (sym c.read_message.ensures),
      ap (λ (w : MessageList). slice_get w.messages (n - 1)) (sym c.self.view_is) ∙ message_named raw (n - 1) c.in-Some-1₀.second second ∙ ap Some (sym c.read_message-2.ensures),
    )
