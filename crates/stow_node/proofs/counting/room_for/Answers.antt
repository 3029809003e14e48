use Rattle.std.proofs.Common.{◌≡◌, ◌+◌, ◌-◌, ◌<◌, ap, ◌∙◌, subst, arith}
use Rattle.std.proofs.lemmas.Bool.Decides.{nat_tests}
use Rattle.stow_leaves.proofs.StowLeaf.Steps.{if_ok}
use Rattle.stow_groups.specs.Groups.{groups}
use Rattle.stow_node.specs.Rooms.{IsRoom, nodes_needed, levels_needed, places_needed}
use Rattle.stow_node.proofs.Rooms.{room_is}
use Rattle.stow_node.proofs.counting.room_for.Goals as goal

pub returns-clause-room : goal.returns-clause-room
returns-clause-room g c =
    let came : c.groups-came.result - 1 ≡ groups c.args.shape.fan_out c.args.children - 1 = ap (λ n. n - 1) c.groups-came.ensures in
    let some : 0 < c.groups-came.result - 1 = let t = c.if-came-eq0.false in grind (arith, nat_tests, t) in
    if_ok c.new-2.result _ _ (λ room r. subst (λ n. IsRoom c.args.shape (n + nodes_needed c.args.shape.fan_out c.args.widths.now n) (levels_needed c.args.widths.now n) (places_needed c.args.shape.fan_out n) room) came
    (room_is c.args.shape c.in_ok-nodes.nodes c.in_ok-levels.levels c.in_ok-places.places (c.groups-came.result - 1) c.args.widths.now room some
    (c.in_ok-nodes.ensures ∙ ap (λ k. c.groups-came.result - 1 + k) c.in_ok-nodes_needed.ensures) c.in_ok-levels.ensures c.in_ok-places.ensures r)) c.new-2.ensures.room
