use Rattle.std.proofs.Common.{[], ◌∷◌, length, sym, ap, ◌∙◌, subst, arith, length-append}
use Rattle.std.specs.List.{AllByRecursion}
use Rattle.stow_leaves.proofs.StowMerge.Lists.{all_join}
use Rattle.stow_node.specs.Rooms.{IsList}
use Rattle.stow_node.proofs.room.lists.Goals as goal

pub loop-i-preserved : goal.loop-i-preserved
loop-i-preserved g c =
    let items = c.in_ok-push.ensures.items in
    let n = ap length items ∙ length-append c.loop-i.lists.items (c.in_ok-with_capacity.field-0 ∷ []) in
    let old = c.loop-i.invariant.0 in
    let cap = c.in_ok-with_capacity.ensures.capacity in (
      omega (arith, n, old),
      subst (AllByRecursion (IsList {A = g.row.A.Denot} c.args.places)) (sym items)
          (all_join (IsList {A = g.row.A.Denot} c.args.places) c.loop-i.lists.items (c.in_ok-with_capacity.field-0 ∷ []) c.loop-i.invariant.1 ((c.in_ok-with_capacity.ensures.items, cap), tt)),
    )
