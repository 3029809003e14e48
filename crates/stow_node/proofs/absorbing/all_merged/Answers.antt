use Rattle.std.proofs.Common.{map, sym, subst}
use Rattle.stow_leaves.specs.StowLeaf.LeafRows.{leaf_rows}
use Rattle.stow_leaves.specs.StowMerge.Pins.{pins_in}
use Rattle.stow_leaves.specs.AbsorbsAll.{CanAbsorbAll, MergesAll, StandsForAll}
use Rattle.stow_leaves.specs.Forgets.{Forgets}
use Rattle.stow_node.specs.Nodes.{leaves_of}
use Rattle.stow_node.proofs.Leaves.{rows_of}
use Rattle.stow_node.proofs.absorbing.all_merged.Goals as goal

pub all_merged-requires : goal.all_merged-requires
all_merged-requires g c = subst (λ ls. CanAbsorbAll ls c.args.end.bytes.now c.args.buffer.now.messages c.args.target) (sym (rows_of c.in_ok-leaves.leaves.items c.args.children.now (sym c.in_ok-leaves.ensures))) c.requires.can

pub returns-clause-merged : goal.returns-clause-merged
returns-clause-merged g c =
    subst (λ ls. MergesAll ls c.args.end.bytes.now c.args.buffer.now.messages (pins_in c.args.pins.now) c.args.target (leaves_of c.as_children.result.items) c.args.cache.now c.all_merged.new.cache) (rows_of c.in_ok-leaves.leaves.items c.args.children.now (sym c.in_ok-leaves.ensures))
    (subst (λ ls. MergesAll (map leaf_rows c.in_ok-leaves.leaves.items) c.args.end.bytes.now c.args.buffer.now.messages (pins_in c.args.pins.now) c.args.target ls c.args.cache.now c.all_merged.new.cache) (rows_of c.in_ok-fresh.fresh.items c.as_children.result.items c.as_children.ensures) c.in_ok-fresh.ensures.merged)

pub returns-clause-stands : goal.returns-clause-stands
returns-clause-stands g c =
    subst (λ ls. StandsForAll ls c.args.end.bytes.now c.args.buffer.now.messages (pins_in c.args.pins.now) c.args.target (leaves_of c.as_children.result.items)) (rows_of c.in_ok-leaves.leaves.items c.args.children.now (sym c.in_ok-leaves.ensures))
    (subst (StandsForAll (map leaf_rows c.in_ok-leaves.leaves.items) c.args.end.bytes.now c.args.buffer.now.messages (pins_in c.args.pins.now) c.args.target) (rows_of c.in_ok-fresh.fresh.items c.as_children.result.items c.as_children.ensures) c.in_ok-fresh.ensures.stands)

pub returns-clause-cache : goal.returns-clause-cache
returns-clause-cache g c =
    subst (λ ls. Forgets ls (leaves_of c.as_children.result.items) c.args.cache.now c.all_merged.new.cache) (rows_of c.in_ok-leaves.leaves.items c.args.children.now (sym c.in_ok-leaves.ensures))
    (subst (λ ls. Forgets (map leaf_rows c.in_ok-leaves.leaves.items) ls c.args.cache.now c.all_merged.new.cache) (rows_of c.in_ok-fresh.fresh.items c.as_children.result.items c.as_children.ensures) c.in_ok-fresh.ensures.cache)
