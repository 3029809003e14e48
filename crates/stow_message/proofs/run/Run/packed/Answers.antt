use Rattle.std.proofs.Common.{◌-◌, length, drop, get_or, ap, sym, ◌∙◌, arith, length-take}
use Rattle.std.proofs.lemmas.List.{get_or-take, get_or-drop}
use Rattle.stow_message.specs.Packed.{message_bytes}
use Rattle.stow_message.proofs.run.Run.packed.Goals as goal

pub overflow_add-self-inside : goal.overflow_add-self-inside
overflow_add-self-inside g c =
    let r = c.self.inside in let at = c.self.invariant in record { fits = omega (arith, c.requires, ap length c.self.view_is, length-take (r.to - r.from) (drop r.from r.buf.now.messages), at) }

pub returns : goal.returns
returns g c = λ none. let r = c.self.inside in let ms = r.buf.now.messages in let i = c.args.index in
    c.packed.ensures none
    ∙ ap message_bytes (sym (get_or-drop r.from ms i none) ∙ sym (get_or-take (r.to - r.from) (drop r.from ms) i none (omega (arith, c.requires, ap length c.self.view_is, length-take (r.to - r.from) (drop r.from ms))))
    ∙ ap (λ l. get_or l i none) c.self.view_is)
