use Rattle.stow_groups.proofs.Counts.{last_group}
use Rattle.stow_groups.proofs.sharing.share_of_last.Goals as goal

pub returns-then-not-full-clause-last : goal.returns-then-not-full-clause-last
returns-then-not-full-clause-last c = last_group c.args.most c.args.count c.args.groups c.requires.many.0 c.requires.many.1 c.requires.hold
