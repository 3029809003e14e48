use Rattle.stow_model.specs.Message.{message_of}
use Rattle.stow_model.proofs.Inlines.{line_begun, line_taken}
use Rattle.stow_model.proofs.message_at.in_line.Goals as goal

pub returns-in_ok-inline_message-in-Line : goal.returns-in_ok-inline_message-in-Line
returns-in_ok-inline_message-in-Line g c =
    line_taken c.args.bytes.now c.in-Line.line.now c.in-Line.rest.now (message_of c.in_ok-inline_message-in-Line.field-0) c.in-Line.ensures.0 c.in-Line.ensures.1 c.in_ok-inline_message-in-Line.ensures.ok

pub returns-in-More : goal.returns-in-More
returns-in-More g c = line_begun c.args.bytes.now c.in-More.ensures
