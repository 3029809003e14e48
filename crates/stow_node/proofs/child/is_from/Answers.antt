use Rattle.std.proofs.Common.{sym, ap, ◌∙◌, arith}
use Rattle.std.proofs.lemmas.Bool.{not-true}
use Rattle.std.proofs.lemmas.List.{length-map}
use Rattle.stow_node.specs.Nodes.{part_of, parts_of}
use Rattle.stow_leaves.proofs.StowLeaf.Intervals.{lt}
use Rattle.stow_node.proofs.Places.{at_first, low_at}
use Rattle.stow_node.proofs.child.is_from.Goals as goal

pub returns-then-at-eq0 : goal.returns-then-at-eq0
returns-then-at-eq0 g c = λ _. rw c.if-at-eq0.true ((at_first (parts_of c.args.children.now) c.args.key.bytes.now (let there = c.requires.there in omega (arith, there, length-map c.args.children.now part_of)) c.requires.within).from)

pub returns : goal.returns
returns g c = λ is d. ap (lt c.args.key.bytes.now) (low_at c.args.children.now c.args.at c.index-children-at.result c.requires.there c.index-children-at.is d ∙ sym c.low.ensures) ∙ sym c.is_below.ensures ∙ not-true _ is
