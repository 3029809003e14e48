use Rattle.std.proofs.Common.{◌≡◌, ◌+◌, ◌∙◌, List, map, sym, ap, subst, Some}
use Rattle.std.specs.Prelude.{slice_get}
use Rattle.stow_leaf.specs.LeafRows.{LeafRows, leaf_rows}
use Rattle.stow_leaf.specs.Replacements.{CanReplace, IsReplacement}
use Rattle.stow_leaf.specs.declared.leaf.Leaf.{Leaf}
use Rattle.stow_leaf.proofs.Steps.{if_ok}
use Rattle.stow_leaf.specs.StowMerge.Pins.{pins_in}
use Rattle.stow_leaves.specs.Absorbs.{fence_at}
use Rattle.stow_leaves.proofs.Replaced.{can_put, can_replace, merged_stands_for, rows_at, same_leaf}
use Rattle.stow_leaves.proofs.absorbing.merged.Given as given
use Rattle.stow_leaves.proofs.absorbing.merged.Goals as goal
use Rattle.stow_leaves.proofs.absorbing.merged.Goals.{In_ok-others}

replaced : (g : given.Over) (c : In_ok-others g) (leaf : LeafRows) → slice_get (map leaf_rows c.args.leaves.items) c.args.index ≡ Some leaf
    → IsReplacement leaf (fence_at (map leaf_rows c.args.leaves.items) (c.args.index + 1)) c.args.buffer.now.messages (pins_in c.args.pins.now) c.args.target (map leaf_rows c.in_ok-others.others.items)
replaced g c leaf at = subst (λ (l : LeafRows). IsReplacement l (fence_at (map leaf_rows c.args.leaves.items) (c.args.index + 1)) c.args.buffer.now.messages (pins_in c.args.pins.now) c.args.target (map leaf_rows c.in_ok-others.others.items))
    (same_leaf (map leaf_rows c.args.leaves.items) c.args.index (leaf_rows c.index.result.now) leaf (rows_at c.args.leaves.items c.args.index c.index.result.now c.requires.inside c.index.ensures) at)
    (subst (λ high. IsReplacement (leaf_rows c.index.result.now) high c.args.buffer.now.messages (pins_in c.args.pins.now) c.args.target (map leaf_rows c.in_ok-others.others.items))
    (c.high_after-high.ensures ∙ ap (λ (ls : List (Leaf g.row.A.Denot)). fence_at (map leaf_rows ls) (c.args.index + 1)) c.as_slice.ensures.value) c.in_ok-others.ensures)

pub replacement-requires : goal.replacement-requires
replacement-requires g c =
    subst (λ high. CanReplace (leaf_rows c.index.result.now) high c.args.buffer.now.messages (pins_in c.args.pins.now) c.args.target)
    (sym (c.high_after-high.ensures ∙ ap (λ (ls : List (Leaf g.row.A.Denot)). fence_at (map leaf_rows ls) (c.args.index + 1)) c.as_slice.ensures.value))
    (can_replace (map leaf_rows c.args.leaves.items) c.args.index c.args.buffer.now.messages (pins_in c.args.pins.now) c.args.target (leaf_rows c.index.result.now) c.requires
    (rows_at c.args.leaves.items c.args.index c.index.result.now c.requires.inside c.index.ensures))

pub with_others-requires : goal.with_others-requires
with_others-requires g c =
    let leaves = map leaf_rows c.args.leaves.items in
    let at = rows_at c.args.leaves.items c.args.index c.index.result.now c.requires.inside c.index.ensures in
    can_put leaves c.args.index c.args.buffer.now.messages (pins_in c.args.pins.now) c.args.target (leaf_rows c.index.result.now) (map leaf_rows c.in_ok-others.others.items) c.requires.inside c.requires.tiled at
    (replaced g (goal.at.with_others-requires g c).In_ok-others (leaf_rows c.index.result.now) at).place

pub returns-clause-merged : goal.returns-clause-merged
returns-clause-merged g c = if_ok c.with_others.result _ _ (λ fresh puts. record {
  leaf = puts.leaf;
  at = puts.at;
  others = map leaf_rows c.in_ok-others.others.items;
  replaced = replaced g (goal.at.returns-clause-merged g c).In_ok-others puts.leaf puts.at;
  joins = puts.joins;
  tiled = puts.tiled;
  none = puts.none;
}) c.with_others.ensures.puts

pub returns-clause-stands : goal.returns-clause-stands
returns-clause-stands g c = if_ok c.with_others.result _ _ (λ fresh puts.
    merged_stands_for (map leaf_rows c.args.leaves.items) c.args.index c.args.buffer.now.messages (pins_in c.args.pins.now) c.args.target puts.leaf (map leaf_rows c.in_ok-others.others.items) (map leaf_rows fresh.items) c.requires puts.at
    (replaced g (goal.at.returns-clause-stands g c).In_ok-others puts.leaf puts.at).place puts.joins.joined) c.with_others.ensures.puts
