use Rattle.std.proofs.Common.{sym, ap, ◌∙◌, arith}
use Rattle.std.proofs.lemmas.List.{length-map}
use Rattle.stow_node.specs.Nodes.{part_of}
use Rattle.stow_leaves.proofs.StowLeaf.Intervals.{lt}
use Rattle.stow_node.proofs.Places.{low_at}
use Rattle.stow_node.proofs.child.is_before.Goals as goal

pub returns-then-end-children : goal.returns-then-end-children
returns-then-end-children g c = λ _ low. absurd (let end = c.if-end-children.true in omega (arith, low, end, length-map c.args.children.now part_of))

pub returns : goal.returns
returns g c = λ is low d. ap (lt c.args.key.bytes.now) (low_at c.args.children.now c.args.end c.index-children-end.result (omega (arith, low, length-map c.args.children.now part_of)) c.index-children-end.is d ∙ sym c.low.ensures) ∙ sym c.is_below.ensures ∙ is
