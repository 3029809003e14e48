use Rattle.std.proofs.Common.{◌∙◌, sym}
use Rattle.stow_node.specs.Nodes.{parts_of}
use Rattle.stow_node.proofs.Heaviest.{bytes_are}
use Rattle.stow_node.proofs.Places.{low_at}
use Rattle.stow_node.proofs.moving.bytes_for.Goals as goal

pub returns : goal.returns
returns g c d =
    c.range_bytes.ensures
    ∙ bytes_are (parts_of c.args.children.now) c.args.buffer.now c.args.index d _ _
    (c.low.ensures ∙ sym (low_at c.args.children.now c.args.index c.index-children-index.result c.requires c.index-children-index.is d)) c.high_after.ensures
