-- What this crate's own types stand for.
use Rattle.std.specs.Prelude.{Result, Ok, Err}
use Rattle.stow_model.specs.declared.refusal.Refusal.{Refusal}
use Rattle.stow_model.specs.Command as meant
use Rattle.stow_model.specs.LentWords.{words_in}
use Rattle.stow_model.specs.Command.{Reading, Understood, Refused}
use Rattle.stow_commands.specs.declared.command.Command as coded
use Rattle.stow_commands.specs.declared.command.Command.TheVariants as command
use Rattle.stow_commands.specs.declared.condition.Condition.{Condition}
use Rattle.stow_commands.specs.declared.condition.Condition.TheVariants as condition
use Rattle.stow_commands.specs.declared.kind.Kind.{Kind}
use Rattle.stow_commands.specs.declared.kind.Kind.TheVariants as kind
use Rattle.stow_commands.specs.declared.update.Update.{Update}
use Rattle.stow_commands.specs.declared.update.Update.TheVariants as update

abbrev pub condition_of : Condition → meant.Condition
condition_of condition.Always = meant.Always
condition_of condition.IfMissing = meant.IfMissing
condition_of condition.IfThere = meant.IfThere

abbrev pub update_of : Update → meant.Update
update_of (update.Set value condition) = meant.Set value.now (condition_of condition)
update_of (update.Append suffix) = meant.Append suffix.now
update_of (update.Add amount) = meant.Add amount

-- what the code's type stands for
abbrev pub command_of : coded.Command → meant.Command
command_of command.Ping = meant.Ping
command_of (command.Echo text) = meant.Echo text.now
command_of (command.Get key) = meant.Get key.now
command_of (command.GetMany keys) = meant.GetMany (words_in keys)
command_of (command.Exists keys) = meant.Exists (words_in keys)
command_of (command.Length key) = meant.Length key.now
command_of (command.Range from to count) = meant.Range from.now to.now count
command_of (command.Del keys) = meant.Del (words_in keys)
command_of command.TakeSnapshot = meant.TakeSnapshot
command_of command.ListSnapshots = meant.ListSnapshots
command_of (command.DropSnapshot id) = meant.DropSnapshot id
command_of (command.GetInSnapshot id key) = meant.GetInSnapshot id key.now
command_of (command.RangeInSnapshot id from to count) =
    meant.RangeInSnapshot id from.now to.now count
command_of command.ReportUsage = meant.ReportUsage
command_of (command.Change key update) = meant.Change key.now (update_of update)

-- a command, or the first refusal that applies
abbrev pub reading_of : Result coded.Command Refusal → Reading
reading_of (Ok command) = Understood (command_of command)
reading_of (Err refusal) = Refused refusal

-- what words are to a connection
abbrev pub meaning : Kind → meant.Kind
meaning (kind.Login name password) = meant.Login name.now password.now
meaning kind.Quit = meant.Quit
meaning kind.Malformed = meant.Malformed
meaning kind.ForStore = meant.ForStore
