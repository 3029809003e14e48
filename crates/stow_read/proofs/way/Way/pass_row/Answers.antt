use Rattle.std.proofs.Common.{◌∙◌, sym}
use Rattle.stow_read.specs.Way.{key_in, row_ops}
use Rattle.stow_read.proofs.Ways.{passed}
use Rattle.stow_read.proofs.way.Way.pass_row.Goals as goal

pub returns-else-is_next-clause-next : goal.returns-else-is_next-clause-next
returns-else-is_next-clause-next g c = passed (row_ops c.args.self.now) c.args.key.bytes.now c.args.to.bytes.now (key_in c.args.self.now.next_row) c.requires (sym c.is_next.ensures ∙ c.if-is_next.false)
