use Rattle.std.proofs.Common.{sym, ◌∙◌}
use Rattle.stow_commands.proofs.Named.{reads_named}
use Rattle.stow_commands.proofs.command.Command.read.Goals as goal

pub returns-in-Some : goal.returns-in-Some
returns-in-Some g c =
    c.read_named.ensures ∙ sym (reads_named _ _ c.in-Some.name.now (sym c.lent.ensures ∙ c.in-Some.ensures))
