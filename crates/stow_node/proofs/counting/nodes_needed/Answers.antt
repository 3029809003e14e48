use Rattle.std.proofs.Common.{◌<◌, ap, ◌∙◌, arith}
use Rattle.std.proofs.lemmas.Bool.Decides.{nat_tests}
use Rattle.stow_groups.specs.Groups.{groups}
use Rattle.stow_node.proofs.Rooms.{needed_next}
use Rattle.stow_node.proofs.counting.nodes_needed.Goals as goal

pub loop-i-preserved : goal.loop-i-preserved
loop-i-preserved c =
    let some : 0 < c.loop-i.came = let t = c.if-came-eq0.false in grind (arith, nat_tests, t) in
    let next = needed_next c.args.fan_out c.loop-i.i 0 c.args.widths.now c.loop-i.came c.loop-i-test.true some in
    let inv = c.loop-i.invariant in
    let g = c.groups-came.ensures ∙ ap (groups c.args.fan_out) c.in_ok-children.ensures in
    let total = c.in_ok-nodes.ensures in
    rw g (omega (arith, next, inv, g, total))
