use Rattle.std.proofs.Common.{◌+◌, ◌-◌, ◌/◌, arith, ap, ◌∙◌, sym}
use Rattle.std.proofs.lemmas.List.{length-map}
use Rattle.stow_node.specs.Nodes.{part_of, parts_of}
use Rattle.stow_leaves.proofs.StowLeaf.Intervals.{lt}
use Rattle.stow_node.proofs.Places.{low_spans, is_for, upper_half, lower_half}
use Rattle.stow_node.proofs.child.child_within.Goals as goal

pub loop-end-init : goal.loop-end-init
loop-end-init g c = c.narrowed-at.ensures

pub loop-end-preserved-then-is_below : goal.loop-end-preserved-then-is_below
loop-end-preserved-then-is_below g c =
    lower_half c.args.children.now c.args.key.bytes.now c.loop-end.at c.loop-end.end (c.loop-end.at + (c.loop-end.end - c.loop-end.at) / 2) c.index-children-middle.result c.loop-end.invariant
    (let t = c.loop-end-test.true in omega arith) (let t = c.loop-end-test.true in omega arith) c.index-children-middle.is
    (ap (lt c.args.key.bytes.now) (sym c.low.ensures) ∙ sym c.is_below.ensures ∙ c.if-is_below.true)

pub loop-end-preserved : goal.loop-end-preserved
loop-end-preserved g c =
    upper_half c.args.children.now c.args.key.bytes.now c.loop-end.at c.loop-end.end (c.loop-end.at + (c.loop-end.end - c.loop-end.at) / 2) c.index-children-middle.result c.loop-end.invariant
    (let t = c.loop-end-test.true in omega arith) c.index-children-middle.is
    (ap (lt c.args.key.bytes.now) (sym c.low.ensures) ∙ sym c.is_below.ensures ∙ c.if-is_below.false)

pub returns : goal.returns
returns g c = is_for (parts_of c.args.children.now) c.args.key.bytes.now c.loop-end.at c.loop-end.end c.loop-end.invariant (let t = c.loop-end-test.false in omega arith) (low_spans (parts_of c.args.children.now) c.args.key.bytes.now c.requires.within)

pub offset_bounds-children-middle : goal.offset_bounds-children-middle
offset_bounds-children-middle g c = let i = c.loop-end.invariant.inside in let t = c.loop-end-test.true in omega (arith, i, t, length-map c.args.children.now part_of)

pub bounds-children-middle : goal.bounds-children-middle
bounds-children-middle g c = let i = c.loop-end.invariant.inside in let t = c.loop-end-test.true in omega (arith, i, t, length-map c.args.children.now part_of)
