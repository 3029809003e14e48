use Rattle.std.proofs.Common.{◌≡◌, ◌<◌, ◌≤◌, ◌∙◌, sym, subst}
use Rattle.std.specs.Prelude.{IfSome}
use Rattle.stow_node.specs.Nodes.{parts_of}
use Rattle.stow_node.proofs.Heaviest.{bytes_are}
use Rattle.stow_node.proofs.Places.{low_at}
use Rattle.stow_node.proofs.moving.bytes_above.Goals as goal

pub returns-clause-more : goal.returns-clause-more
returns-clause-more g c d =
    subst (λ n. IfSome c.range_bytes_above.result (λ found. (c.args.bytes < found) × (found ≡ n)))
    (bytes_are (parts_of c.args.children.now) c.args.buffer.now c.args.index d _ _
    (c.low.ensures ∙ sym (low_at c.args.children.now c.args.index c.index-children-index.result c.requires c.index-children-index.is d)) c.high_after.ensures)
    c.range_bytes_above.ensures.more

pub returns-clause-none : goal.returns-clause-none
returns-clause-none g c d none =
    subst (λ n. n ≤ c.args.bytes)
    (bytes_are (parts_of c.args.children.now) c.args.buffer.now c.args.index d _ _
    (c.low.ensures ∙ sym (low_at c.args.children.now c.args.index c.index-children-index.result c.requires c.index-children-index.is d)) c.high_after.ensures)
    (c.range_bytes_above.ensures.none none)
