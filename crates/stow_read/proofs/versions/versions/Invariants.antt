use Rattle.std.proofs.Common.{◌-◌, map}
use Rattle.stow_tree_model.specs.TreeMessage.{message_of}
use Rattle.stow_tree_model.specs.VersionBuf.{version_of_buf}
use Rattle.stow_read.specs.Versions.{AreVersionsOf}
use Rattle.stow_read.proofs.Versioned.{older_of}
use Rattle.stow_read.proofs.versions.versions.Given as goal

abbrev pub invariant-loop-i : goal.invariant-loop-i
invariant-loop-i g l =
    AreVersionsOf (older_of l.fn.key.bytes.now (map message_of l.path.messages.items) l.path.leaf.now.rows (l.count - l.i)) l.fn.key.bytes.now (map version_of_buf l.versions.items)
