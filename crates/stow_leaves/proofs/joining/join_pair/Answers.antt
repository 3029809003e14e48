use Rattle.std.proofs.Common.{refl, ap, ◌∙◌, arith}
use Rattle.stow_leaf.specs.LeafRows.{LeafRows, leaf_rows}
use Rattle.stow_leaves.proofs.Pairs.{lower_is, upper_is, pair_inside, rows_below, not_to_join, to_join, forgets_pair, loses_pair}
use Rattle.stow_leaves.proofs.joining.join_pair.Goals as goal

pub overflow_add-index : goal.overflow_add-index
overflow_add-index g c = let l = pair_inside c.args.leaves.now.items c.requires in let o = c.args.leaves.now.ok in let s = c.args.leaves.now.small in omega (arith, l, o.0, o.1, s)

pub index-lower-requires : goal.index-lower-requires
index-lower-requires g c = let l = pair_inside c.args.leaves.now.items c.requires in let o = c.args.leaves.now.ok.0 in omega (arith, l, o)

pub index-upper-requires : goal.index-upper-requires
index-upper-requires g c = let l = pair_inside c.args.leaves.now.items c.requires in let o = c.args.leaves.now.ok.0 in omega (arith, l, o)

pub joined_rows-requires : goal.joined_rows-requires
joined_rows-requires g c =
    rows_below c.requires (leaf_rows c.index-lower.result.now) (leaf_rows c.index-upper.result.now) (lower_is c.args.leaves.now.items c.requires c.index-lower.result.now c.index-lower.ensures)
    (upper_is c.args.leaves.now.items c.requires c.index-upper.result.now c.index-upper.ensures)

pub returns-in_default-clause-ok : goal.returns-in_default-clause-ok
returns-in_default-clause-ok g c pair = (
  refl,
  not_to_join pair c.args.target (leaf_rows c.index-lower.result.now) (leaf_rows c.index-upper.result.now) c.in_ok-rows.field-0
      (lower_is c.args.leaves.now.items pair c.index-lower.result.now c.index-lower.ensures) (upper_is c.args.leaves.now.items pair c.index-upper.result.now c.index-upper.ensures)
      c.in_ok-rows.ensures c.in_default.is,
)

pub returns-clause-ok : goal.returns-clause-ok
returns-clause-ok g c pair =
    to_join pair c.args.target (leaf_rows c.index-lower.result.now) (leaf_rows c.index-upper.result.now) c.in_ok-rows.field-0 c.in-Some.rows _
    (lower_is c.args.leaves.now.items pair c.index-lower.result.now c.index-lower.ensures) (upper_is c.args.leaves.now.items pair c.index-upper.result.now c.index-upper.ensures)
    c.in_ok-rows.ensures c.in-Some.is (c.put_joined.ensures pair)

pub returns-clause-lost : goal.returns-clause-lost
returns-clause-lost g c pair =
    loses_pair pair c.as_key.result.bytes.now c.as_key-2.result.bytes.now c.args.cache.now c.forget.new.self c.forget-2.new.self
    (c.as_key.ensures ∙ ap (λ (l : LeafRows). l.0) (lower_is c.args.leaves.now.items pair c.index-lower.result.now c.index-lower.ensures))
    (c.as_key-2.ensures ∙ ap (λ (l : LeafRows). l.0) (upper_is c.args.leaves.now.items pair c.index-upper.result.now c.index-upper.ensures))
    c.forget.ensures.limit c.forget.ensures.leaves c.forget-2.ensures.limit c.forget-2.ensures.leaves

pub returns-clause-cache : goal.returns-clause-cache
returns-clause-cache g c =
    let lower = lower_is c.args.leaves.now.items c.requires c.index-lower.result.now c.index-lower.ensures in
    let upper = upper_is c.args.leaves.now.items c.requires c.index-upper.result.now c.index-upper.ensures in
    forgets_pair c.requires _ c.as_key.result.bytes.now c.as_key-2.result.bytes.now c.args.cache.now c.forget.new.self c.forget-2.new.self
    (to_join c.requires c.args.target (leaf_rows c.index-lower.result.now) (leaf_rows c.index-upper.result.now) c.in_ok-rows.field-0 c.in-Some.rows _ lower upper c.in_ok-rows.ensures c.in-Some.is (c.put_joined.ensures c.requires)).1
    (c.as_key.ensures ∙ ap (λ (l : LeafRows). l.0) lower) (c.as_key-2.ensures ∙ ap (λ (l : LeafRows). l.0) upper)
    c.forget.ensures.limit c.forget.ensures.leaves c.forget.ensures.gone c.forget-2.ensures.limit c.forget-2.ensures.leaves c.forget-2.ensures.gone
