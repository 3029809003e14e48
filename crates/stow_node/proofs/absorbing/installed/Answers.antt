use Rattle.std.proofs.Common.{map, sym, subst}
use Rattle.stow_leaves.specs.StowLeaf.Intervals.{top_key}
use Rattle.stow_leaves.specs.StowLeaf.LeafRows.{leaf_rows, LeavesTo}
use Rattle.stow_leaves.specs.Absorbs.{CanPutPages, PutsPages}
use Rattle.stow_leaves.specs.Forgets.{Forgets}
use Rattle.stow_node.specs.Nodes.{leaves_of}
use Rattle.stow_node.proofs.Leaves.{rows_of}
use Rattle.stow_node.proofs.absorbing.installed.Goals as goal

pub installed-requires : goal.installed-requires
installed-requires g c = subst (λ ls. CanPutPages ls c.args.index c.args.merge.now.job) (sym (rows_of c.in_ok-leaves.leaves.items c.args.children.now (sym c.in_ok-leaves.ensures))) c.requires.can

pub returns-clause-puts : goal.returns-clause-puts
returns-clause-puts g c =
    subst (λ ls. PutsPages ls c.args.index c.args.merge.now.job (leaves_of c.as_children.result.items)) (rows_of c.in_ok-leaves.leaves.items c.args.children.now (sym c.in_ok-leaves.ensures))
    (subst (PutsPages (map leaf_rows c.in_ok-leaves.leaves.items) c.args.index c.args.merge.now.job) (rows_of c.in_ok-fresh.fresh.items c.as_children.result.items c.as_children.ensures) c.in_ok-fresh.ensures.puts)

pub returns-clause-tiled : goal.returns-clause-tiled
returns-clause-tiled g c = subst (LeavesTo top_key) (rows_of c.in_ok-fresh.fresh.items c.as_children.result.items c.as_children.ensures) c.in_ok-fresh.ensures.tiled

pub returns-clause-cache : goal.returns-clause-cache
returns-clause-cache g c =
    subst (λ ls. Forgets ls (leaves_of c.as_children.result.items) c.args.cache.now c.installed.new.cache) (rows_of c.in_ok-leaves.leaves.items c.args.children.now (sym c.in_ok-leaves.ensures))
    (subst (λ ls. Forgets (map leaf_rows c.in_ok-leaves.leaves.items) ls c.args.cache.now c.installed.new.cache) (rows_of c.in_ok-fresh.fresh.items c.as_children.result.items c.as_children.ensures) c.in_ok-fresh.ensures.cache)
