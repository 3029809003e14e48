use Rattle.std.proofs.Common.{arith}
use Rattle.std.proofs.lemmas.List.{length-map}
use Rattle.stow_node.specs.Nodes.{part_of, parts_of}
use Rattle.stow_node.proofs.Heaviest.{of_first, next_lighter, next_heavier, heaviest_of_all}
use Rattle.stow_node.proofs.moving.heaviest.Goals as goal
use Rattle.stow_node.proofs.moving.heaviest.Goals.{in-Some, in_default}

pub loop-index-init : goal.loop-index-init
loop-index-init g c = of_first (parts_of c.args.children.now) c.args.buffer.now c.bytes_for-most.result c.bytes_for-most.ensures

pub loop-index-preserved : goal.loop-index-preserved
loop-index-preserved g c =
    elim c.match-bytes_above.branch [
      | in-Some w ↦
          rw (w.best-is, w.most-is) (next_heavier (parts_of c.args.children.now) c.args.buffer.now c.loop-index.index c.loop-index.best c.loop-index.most w.in-Some.bytes c.loop-index.invariant w.in-Some.ensures.more)
      | in_default w ↦
          rw (w.best-is, w.most-is) (next_lighter (parts_of c.args.children.now) c.args.buffer.now c.loop-index.index c.loop-index.best c.loop-index.most c.loop-index.invariant (λ d. c.bytes_above.ensures.none d w.in_default.is))
    ]

pub returns : goal.returns
returns g c =
    heaviest_of_all (parts_of c.args.children.now) c.args.buffer.now c.loop-index.index c.loop-index.best c.loop-index.most c.loop-index.invariant
    (let e = c.loop-index-test.false in let i = c.loop-index.auto.index-end c.requires in omega (arith, length-map c.args.children.now part_of))
