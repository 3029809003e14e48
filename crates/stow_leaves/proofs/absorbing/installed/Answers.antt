use Rattle.std.proofs.Common.{◌+◌, map, subst, sym}
use Rattle.stow_leaf.specs.LeafRows.{LeafRows, leaf_rows}
use Rattle.stow_leaf.specs.Replacements.{IsJobOf, TakePlace}
use Rattle.stow_leaf.proofs.Steps.{if_ok}
use Rattle.stow_leaf.specs.StowMerge.Covering.{Covers}
use Rattle.stow_leaf.specs.StowMerge.Pins.{pins_in}
use Rattle.stow_leaf_cache.specs.StowTreeModel.Agreement.{TenantPins}
use Rattle.stow_leaves.specs.Absorbs.{fence_at}
use Rattle.stow_leaves.proofs.Replaced.{can_put, installed_stands_for, rows_at, same_leaf}
use Rattle.stow_leaves.proofs.absorbing.installed.Given as given
use Rattle.stow_leaves.proofs.absorbing.installed.Goals as goal
use Rattle.stow_leaves.proofs.absorbing.installed.Goals.{In_ok-others}

-- the pages take the leaf's place under all pins that the job covers
takes_place : (g : given.Over) (c : In_ok-others g) (pins : TenantPins) → Covers (pins_in c.args.merge.now.job.pins) pins c.requires.leaf.1 c.args.merge.now.job.batch.messages
    → TakePlace c.requires.leaf (fence_at (map leaf_rows c.args.leaves.items) (c.args.index + 1)) c.args.merge.now.job.batch.messages pins c.args.merge.now.job.target.leaf_target (map leaf_rows c.in_ok-others.others.items)
takes_place g c pins covers =
    let high = fence_at (map leaf_rows c.args.leaves.items) (c.args.index + 1) in
    let is = same_leaf (map leaf_rows c.args.leaves.items) c.args.index (leaf_rows c.index.result.now) c.requires.leaf (rows_at c.args.leaves.items c.args.index c.index.result.now c.requires.inside c.index.ensures) c.requires.at in
    subst (λ (l : LeafRows). TakePlace l high c.args.merge.now.job.batch.messages pins c.args.merge.now.job.target.leaf_target (map leaf_rows c.in_ok-others.others.items)) is
    (c.in_ok-others.ensures high pins (subst (λ (l : LeafRows). IsJobOf l high pins c.args.merge.now.job) (sym is)
    (record { page = c.requires.is.page; tile = c.requires.is.tile; within = c.requires.is.within; covers = covers })))

pub with_others-requires : goal.with_others-requires
with_others-requires g c =
    can_put (map leaf_rows c.args.leaves.items) c.args.index c.args.merge.now.job.batch.messages c.requires.pins c.args.merge.now.job.target.leaf_target c.requires.leaf (map leaf_rows c.in_ok-others.others.items) c.requires.inside c.requires.tiled c.requires.at
    (takes_place g (goal.at.with_others-requires g c).In_ok-others c.requires.pins c.requires.is.covers)

pub returns-clause-puts : goal.returns-clause-puts
returns-clause-puts g c = if_ok c.with_others.result _ _ (λ fresh puts pins ms left covers goes.
    installed_stands_for (map leaf_rows c.args.leaves.items) c.args.index ms left pins c.args.merge.now.job (map leaf_rows c.in_ok-others.others.items) (map leaf_rows fresh.items) c.requires goes
    (takes_place g (goal.at.returns-clause-puts g c).In_ok-others pins (subst (λ rows. Covers (pins_in c.args.merge.now.job.pins) pins rows c.args.merge.now.job.batch.messages) c.requires.is.page covers)) puts.joins.joined) c.with_others.ensures.puts

pub returns-clause-tiled : goal.returns-clause-tiled
returns-clause-tiled g c = if_ok c.with_others.result _ _ (λ fresh puts. puts.tiled) c.with_others.ensures.puts
