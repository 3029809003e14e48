use Rattle.stow_login.proofs.Valid.{entries_are_by_rule_lem}
use Rattle.stow_login.proofs.laws.entries_are_by_rule.Goals as goal

pub returns : goal.returns
returns c = entries_are_by_rule_lem
