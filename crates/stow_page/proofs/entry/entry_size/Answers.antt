use Rattle.std.proofs.Common.{arith}
use Rattle.stow_tree_model.specs.Version.{version_of}
use Rattle.stow_page.proofs.Pushed.{length-entry}
use Rattle.stow_page.proofs.entry.entry_size.Goals as goal

pub returns-clause-size : goal.returns-clause-size
returns-clause-size c =
    let here = length-entry c.args.format (version_of c.args.version) in
    let tail = c.tail_size.ensures.size in
    omega arith
