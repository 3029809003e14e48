use Rattle.std.proofs.Common.{ap, subst, sym, ◌∙◌}
use Rattle.stow_commands.specs.Commands.{command_of}
use Rattle.stow_core.specs.Memory.{NeedsNone}
use Rattle.stow_core.specs.State.{store_of}
use Rattle.stow_core.specs.Prepared.{prepared_answer}
use Rattle.stow_core.proofs.Answered.{understood, refused_words, if_ok}
use Rattle.stow_core.proofs.Kept.{keeps_itself}
use Rattle.stow_core.proofs.Legality.{understood_legal}
use Rattle.stow_core.proofs.Core.prepare.Goals as goal

pub prepare_command-requires-clause-legal : goal.prepare_command-requires-clause-legal
prepare_command-requires-clause-legal g c = understood_legal c.args.words.now (command_of c.in-Ok.command) c.in-Ok.ensures

pub returns-in-Ok-clause-own : goal.returns-in-Ok-clause-own
returns-in-Ok-clause-own g c = λ _.
    let store = store_of c.args.self.now c.args.tenant in
    if_ok c.prepare_command.result _ _ (λ p says. says ∙ understood store c.args.words.now (command_of c.in-Ok.command) c.in-Ok.ensures) c.prepare_command.ensures.prepared.answers

pub returns-in-Ok-clause-needless : goal.returns-in-Ok-clause-needless
returns-in-Ok-clause-needless g c = λ needless. c.prepare_command.ensures.needless (subst NeedsNone (sym c.in-Ok.ensures) needless)

pub returns-in-Err-clause-keeps : goal.returns-in-Err-clause-keeps
returns-in-Err-clause-keeps g c = keeps_itself c.args.self.now c.is_tenant.ensures.sound

pub returns-in-Err-clause-own : goal.returns-in-Err-clause-own
returns-in-Err-clause-own g c = λ _.
    let store = store_of c.args.self.now c.args.tenant in
    ap (λ p. prepared_answer p store) c.only_counted.ensures ∙ refused_words store c.args.words.now c.in-Err.refusal c.in-Err.ensures

pub returns-then-not-is_tenant-clause-keeps : goal.returns-then-not-is_tenant-clause-keeps
returns-then-not-is_tenant-clause-keeps g c = keeps_itself c.args.self.now c.is_tenant.ensures.sound
