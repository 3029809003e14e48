use Rattle.std.proofs.Common.{◌-◌, length, refl, sym, ap, ◌∙◌, subst}
use Rattle.stow_model.specs.Message.{message_of}
use Rattle.stow_model.specs.Wire.{IsBegun}
use Rattle.stow_resp.proofs.Inlines.{line_has_words, line_off}
use Rattle.stow_model.proofs.Inlines.{line_begun}
use Rattle.stow_resp.proofs.input.Input.go_on_line.Goals as goal

pub returns-in_default : goal.returns-in_default
returns-in_default g c =
    let at = sym (c.as_slice.ensures ∙ c.self.view_is) ∙ c.in-Line.ensures.1 in
    (line_has_words c.args.self.now c.in-Line.line.now c.in-Line.rest.now c.in-Line.ensures.0 at c.in_default.ensures.err, refl)

pub returns-in-Ok : goal.returns-in-Ok
returns-in-Ok g c =
    let old = c.args.self.now in
    let rest = c.in-Line.rest.now in
    let at = sym (c.as_slice.ensures ∙ c.self.view_is) ∙ c.in-Line.ensures.1 in
    let used = ap (λ n. n - length rest) c.len.ensures.value in
    c.of_message.ensures old c.advance.new.self.items
    (line_off old c.self.inside.unread.items c.in-Line.line.now rest c.advance.new.self.items (message_of c.in-Ok.message) (c.len.result - length rest) c.self.view_is c.in-Line.ensures.0 at c.in-Ok.ensures.ok used c.advance.ensures.items)

pub returns-in-More : goal.returns-in-More
returns-in-More g c =
    (subst IsBegun (c.as_slice.ensures ∙ c.self.view_is) (line_begun c.as_slice.result.now c.in-More.ensures), c.self.view_is)
