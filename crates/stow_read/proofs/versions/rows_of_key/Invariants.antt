use Rattle.std.proofs.Common.{map}
use Rattle.stow_tree_model.specs.VersionBuf.{version_of_buf}
use Rattle.stow_read.proofs.OwnRows.{IsTaking}
use Rattle.stow_read.proofs.versions.rows_of_key.Given as goal

abbrev pub invariant-loop-at : goal.invariant-loop-at
invariant-loop-at g l = IsTaking l.fn.key.bytes.now l.rows l.at (map version_of_buf l.versions.items)
