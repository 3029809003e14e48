use Rattle.std.proofs.Common.{◌≡◌, List, length, map, sym, ap, ◌∙◌, subst, arith, get_or, Some}
use Rattle.std.specs.Prelude.{slice_get}
use Rattle.std.proofs.lemmas.List.{length-map}
use Rattle.stow_leaf.specs.Intervals.{top_key}
use Rattle.stow_leaf.specs.LeafRows.{leaf_rows, LeavesTo}
use Rattle.stow_leaf.specs.declared.leaf.Leaf.{Leaf}
use Rattle.stow_leaves.specs.Absorbs.{with_leaves}
use Rattle.stow_leaves.proofs.Forgotten.{on_err, forgets_kept}
use Rattle.stow_leaves.proofs.Joined.{joined_same}
use Rattle.stow_leaves.proofs.Replaced.{Middle, middle, rows_at, others_put, merged_forgets, merged_joins}
use Rattle.stow_leaves.proofs.absorbing.with_others.Given as given
use Rattle.stow_leaves.proofs.absorbing.with_others.Goals as goal
use Rattle.stow_leaves.proofs.absorbing.with_others.Goals.{After-put_leaves}

-- what came into the row, and what the cache forgot first
record Put (g : given.Over) (c : After-put_leaves g) : Type 0 where
  at : slice_get (map leaf_rows c.args.leaves.items) c.args.index ≡ Some (leaf_rows c.index.result.now)
  into : map leaf_rows c.put_leaves.new.leaves.items ≡ with_leaves (map leaf_rows c.args.leaves.items) c.args.index (map leaf_rows c.args.others.items)
  between : Middle (map leaf_rows c.args.leaves.items) c.args.index (map leaf_rows c.args.others.items)

put : (g : given.Over) (c : After-put_leaves g) → Put g c
put g c = record {
  at = at;
  into = others_put c.reserve.new.self.items c.args.index c.args.others.items c.put_leaves.new.leaves.items c.put_leaves.ensures
      ∙ ap (λ (ls : List (Leaf g.row.A.Denot)). with_leaves (map leaf_rows ls) c.args.index (map leaf_rows c.args.others.items)) c.reserve.ensures.items;
  between = middle (map leaf_rows c.args.leaves.items) c.args.index (leaf_rows c.index.result.now) (map leaf_rows c.args.others.items) c.requires at;
}
  where
    at : slice_get (map leaf_rows c.args.leaves.items) c.args.index ≡ Some (leaf_rows c.index.result.now)
    at = rows_at c.args.leaves.items c.args.index c.index.result.now c.requires.inside (c.index.ensures ∙ ap (λ (ls : List (Leaf g.row.A.Denot)). get_or ls c.args.index c.index.result.now) c.reserve.ensures.items)

pub join_small-requires-clause-some : goal.join_small-requires-clause-some
join_small-requires-clause-some g c =
    let p = put g (goal.at.join_small-requires-clause-some g c).After-put_leaves in
    let s = p.between.some in
    let e = ap length p.into in
    omega (arith, s, e, length-map c.put_leaves.new.leaves.items leaf_rows)

pub join_small-requires-clause-tiled : goal.join_small-requires-clause-tiled
join_small-requires-clause-tiled g c = let p = put g (goal.at.join_small-requires-clause-tiled g c).After-put_leaves in subst (LeavesTo top_key) (sym p.into) p.between.tiled

pub returns-in_err-join_small-clause-err : goal.returns-in_err-join_small-clause-err
returns-in_err-join_small-clause-err g c =
    let p = put g (goal.at.returns-in_err-join_small-clause-err g c).After-put_leaves in
    on_err c.from_residual-in_err-join_small.result (forgets_kept (map leaf_rows c.args.leaves.items) (map leaf_rows c.join_small.new.leaves.items) (map leaf_rows c.args.leaves.items) c.args.cache.now c.join_small.new.cache
    (merged_forgets (map leaf_rows c.args.leaves.items) _ _ c.args.index (leaf_rows c.index.result.now) (map leaf_rows c.args.others.items) c.as_key.result.bytes.now c.args.cache.now c.forget.new.self c.join_small.new.cache p.at p.into c.as_key.ensures
    c.forget.ensures.limit c.forget.ensures.leaves c.forget.ensures.gone c.join_small.ensures.cache))

pub returns-clause-puts : goal.returns-clause-puts
returns-clause-puts g c =
    let p = put g (goal.at.returns-clause-puts g c).After-put_leaves in
    let j = merged_joins c.args.target (map leaf_rows c.args.leaves.items) _ _ c.args.index (leaf_rows c.index.result.now) (map leaf_rows c.args.others.items) c.as_key.result.bytes.now c.args.cache.now c.forget.new.self c.join_small.new.cache p.into c.as_key.ensures
    c.forget.ensures.limit c.forget.ensures.leaves c.join_small.ensures.joined in
    record {
      leaf = leaf_rows c.index.result.now;
      at = p.at;
      joins = j;
      tiled = (joined_same c.args.target (with_leaves (map leaf_rows c.args.leaves.items) c.args.index (map leaf_rows c.args.others.items)) (map leaf_rows c.join_small.new.leaves.items) j.joined).tiled top_key p.between.tiled;
      none = c.in_ok-join_small.ensures.none;
    }

pub returns-clause-cache : goal.returns-clause-cache
returns-clause-cache g c =
    let p = put g (goal.at.returns-clause-cache g c).After-put_leaves in
    merged_forgets (map leaf_rows c.args.leaves.items) _ _ c.args.index (leaf_rows c.index.result.now) (map leaf_rows c.args.others.items) c.as_key.result.bytes.now c.args.cache.now c.forget.new.self c.join_small.new.cache p.at p.into c.as_key.ensures
    c.forget.ensures.limit c.forget.ensures.leaves c.forget.ensures.gone c.join_small.ensures.cache
