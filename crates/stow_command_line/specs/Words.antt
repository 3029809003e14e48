-- What the words of a command line ask for, and why they ask for nothing.
use Rattle.stow_run.specs.declared.failure.Failure.{Failure}
use Rattle.stow_run.specs.declared.failure.Failure.TheVariants.{Arguments, BadAddress, Memory}
use Rattle.stow_login.specs.NewTenants.{IsAllowed}
use Rattle.stow_command_line.specs.declared.arguments.Wish.{Wish}
use Rattle.stow_command_line.specs.declared.arguments.Wish.TheVariants as wish

-- the words of the command line ask for nothing
abbrev pub RefusesWords : Failure → Type 0
RefusesWords (Arguments text) = Unit {0}
RefusesWords BadAddress = Unit {0}
RefusesWords Memory = Unit {0}
RefusesWords _ = ⊥

-- a tenant that is to be is by the rules of the tenant file
abbrev pub AsksByRule : Wish → Type 0
AsksByRule (wish.Entry tenant) = IsAllowed tenant
AsksByRule _ = Unit {0}
