use Rattle.std.proofs.Common.{◌≡◌, ◌∙◌}
use Rattle.stow_model.specs.Command.{reading}
use Rattle.stow_model.specs.Store as store
use Rattle.stow_model.specs.Reply.{reply_of}
use Rattle.stow_commands.specs.Commands.{reading_of}
use Rattle.stow_plain.specs.OwnRun.{store_of}
use Rattle.stow_plain.proofs.Stepped.{step_refused, step_answered}
use Rattle.stow_plain.proofs.plain_store.PlainStore.step.Goals as goal

pub returns-then-request-clause-ok : goal.returns-then-request-clause-ok
returns-then-request-clause-ok g c = step_refused (store_of c.args.self.now) c.args.request.now.words c.args.request.now.is_refused c.if-request.true

pub returns-in-Ok-clause-ok : goal.returns-in-Ok-clause-ok
returns-in-Ok-clause-ok g c =
    let words : reading_of c.read.result ≡ reading c.args.request.now.words = c.read.ensures in
    step_answered (store_of c.args.self.now) c.args.request.now.words c.args.request.now.is_refused (store_of c.answer.new.self, reply_of c.in-Ok.reply) c.if-request.false
    (c.in-Ok.ensures.ok ∙ (λ i. store.answer_to (store_of (record c.args.self.now { commands = c.one_more-self.ensures i })) (words i)))
