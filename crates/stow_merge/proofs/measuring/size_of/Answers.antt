use Rattle.std.proofs.Common.{arith}
use Rattle.stow_merge.specs.Writing.{version_in}
use Rattle.stow_page.proofs.Pushed.{length-entry}
use Rattle.stow_merge.proofs.measuring.size_of.Goals as goal

pub returns-clause-size : goal.returns-clause-size
returns-clause-size g c =
    let here = length-entry c.args.format (version_in c.args.survey.now c.args.version) in
    let tail = c.tail_size.ensures.size in
    omega arith
