use Rattle.std.proofs.Common.{◌+◌, List, map, refl, sym, subst, arith}
use Rattle.std.proofs.lemmas.List.{length-map}
use Rattle.stow_leaf.specs.LeafRows.{leaf_rows}
use Rattle.stow_leaf.specs.declared.leaf.Leaf.{Leaf}
use Rattle.stow_leaves.specs.Joins.{JoinsAll}
use Rattle.stow_leaves.proofs.Forgotten.{forgets_nothing, forgets_then}
use Rattle.stow_leaves.proofs.Pairs.{HasNext, HasLooked, joining_first, joins_none, joins_more, count_is, has_next, pair_of, looked_on, looked_joined, joining_done}
use Rattle.stow_leaves.proofs.joining.join_small.Goals as goal
use Rattle.stow_leaves.proofs.joining.join_small.Given as given
use Rattle.stow_leaves.proofs.joining.join_small.Goals.{After-join_pair}

pub loop-index-init : goal.loop-index-init
loop-index-init g c = (
  joining_first c.args.target (map leaf_rows c.args.leaves.now.items) c.requires.tiled (let s = c.requires.some in omega (arith, s, length-map c.args.leaves.now.items leaf_rows)),
  forgets_nothing (map leaf_rows c.args.leaves.now.items) (map leaf_rows c.args.leaves.now.items) c.args.cache.now refl,
  joins_none c.args.target (map leaf_rows c.args.leaves.now.items) c.args.cache.now,
)

pub overflow_add-index : goal.overflow_add-index
overflow_add-index g c =
    let n = count_is c.loop-index.invariant.0 in
    let m = length-map c.loop-index.leaves.items leaf_rows in
    let v = c.loop-index.leaves.ok in
    let s = c.loop-index.leaves.small in
    omega (arith, n, m, v.0, v.1, s)

pub join_pair-requires : goal.join_pair-requires
join_pair-requires g c = pair_of c.loop-index.invariant.0 (has_next c.loop-index.invariant.0 (let t = c.loop-index-test.true in let l = c.len.ensures in let o = c.loop-index.leaves.ok.0 in let m = length-map c.loop-index.leaves.items leaf_rows in omega (arith, t, l, o, m)))

pub returns-in_err-join_pair-clause-joined : goal.returns-in_err-join_pair-clause-joined
returns-in_err-join_pair-clause-joined g c =
    subst (λ (ls : List (Leaf g.row.A.Denot)). JoinsAll c.args.target (map leaf_rows c.args.leaves.now.items) (map leaf_rows ls) c.args.cache.now c.join_pair.new.cache) (sym c.in_err-join_pair.ensures.err)
    (subst (JoinsAll c.args.target (map leaf_rows c.args.leaves.now.items) (map leaf_rows c.loop-index.leaves.items) c.args.cache.now) (sym c.in_err-join_pair.ensures.same) c.loop-index.invariant.2)

pub returns-in_err-join_pair-clause-cache : goal.returns-in_err-join_pair-clause-cache
returns-in_err-join_pair-clause-cache g c =
    forgets_then (map leaf_rows c.args.leaves.now.items) (map leaf_rows c.loop-index.leaves.items) (map leaf_rows c.join_pair.new.leaves.items) c.args.cache.now c.loop-index.cache c.join_pair.new.cache c.loop-index.invariant.1 c.in_err-join_pair.ensures.cache

-- a leaf stands above the one that the joins came to
next : (g : given.Over) (c : After-join_pair g) → HasNext c.loop-index.invariant.0
next g c = has_next c.loop-index.invariant.0 (let t = c.loop-index-test.true in let l = c.len.ensures in let o = c.loop-index.leaves.ok.0 in let m = length-map c.loop-index.leaves.items leaf_rows in omega (arith, t, l, o, m))

on : (g : given.Over) (c : goal.Then-not-branch g) → HasNext c.loop-index.invariant.0 → HasLooked c.args.target (map leaf_rows c.loop-index.leaves.items) (map leaf_rows c.join_pair.new.leaves.items) (c.loop-index.index + 1) 0
on g c n = looked_on c.loop-index.invariant.0 n (map leaf_rows c.join_pair.new.leaves.items) c.in_ok-join_pair.field-0 (c.in_ok-join_pair.ensures.ok (pair_of c.loop-index.invariant.0 n)) c.if-not-branch.true

joined : (g : given.Over) (c : goal.Else-not-branch g) → HasNext c.loop-index.invariant.0 → HasLooked c.args.target (map leaf_rows c.loop-index.leaves.items) (map leaf_rows c.join_pair.new.leaves.items) c.loop-index.index 1
joined g c n = looked_joined c.loop-index.invariant.0 n (map leaf_rows c.join_pair.new.leaves.items) c.in_ok-join_pair.field-0 (c.in_ok-join_pair.ensures.ok (pair_of c.loop-index.invariant.0 n)) c.if-not-branch.false

pub loop-index-smaller-then-not-branch : goal.loop-index-smaller-then-not-branch
loop-index-smaller-then-not-branch g c =
    let more = c.loop-index-test.true in
    let l = c.len.ensures in
    let o = c.loop-index.leaves.ok.0 in
    let same = (on g c (next g (goal.at.loop-index-smaller-then-not-branch g c).After-join_pair)).count_is in
    omega (arith, more, l, o, same, length-map c.loop-index.leaves.items leaf_rows, length-map c.join_pair.new.leaves.items leaf_rows)

pub loop-index-preserved-then-not-branch : goal.loop-index-preserved-then-not-branch
loop-index-preserved-then-not-branch g c =
    let n = next g (goal.at.loop-index-preserved-then-not-branch g c).After-join_pair in (
      (on g c n).joining,
      forgets_then (map leaf_rows c.args.leaves.now.items) (map leaf_rows c.loop-index.leaves.items) (map leaf_rows c.join_pair.new.leaves.items) c.args.cache.now c.loop-index.cache c.join_pair.new.cache c.loop-index.invariant.1 c.in_ok-join_pair.ensures.cache,
      joins_more (pair_of c.loop-index.invariant.0 n) c.args.target (map leaf_rows c.args.leaves.now.items) (map leaf_rows c.join_pair.new.leaves.items) c.args.cache.now c.loop-index.cache c.join_pair.new.cache c.in_ok-join_pair.field-0 c.loop-index.invariant.2 (c.in_ok-join_pair.ensures.ok (pair_of c.loop-index.invariant.0 n)) (c.in_ok-join_pair.ensures.lost (pair_of c.loop-index.invariant.0 n)),
    )

pub loop-index-smaller : goal.loop-index-smaller
loop-index-smaller g c =
    let more = c.loop-index-test.true in
    let l = c.len.ensures in
    let o = c.loop-index.leaves.ok.0 in
    let less = (joined g c (next g (goal.at.loop-index-smaller g c).After-join_pair)).count_is in
    omega (arith, more, l, o, less, length-map c.loop-index.leaves.items leaf_rows, length-map c.join_pair.new.leaves.items leaf_rows)

pub loop-index-preserved : goal.loop-index-preserved
loop-index-preserved g c =
    let n = next g (goal.at.loop-index-preserved g c).After-join_pair in (
      (joined g c n).joining,
      forgets_then (map leaf_rows c.args.leaves.now.items) (map leaf_rows c.loop-index.leaves.items) (map leaf_rows c.join_pair.new.leaves.items) c.args.cache.now c.loop-index.cache c.join_pair.new.cache c.loop-index.invariant.1 c.in_ok-join_pair.ensures.cache,
      joins_more (pair_of c.loop-index.invariant.0 n) c.args.target (map leaf_rows c.args.leaves.now.items) (map leaf_rows c.join_pair.new.leaves.items) c.args.cache.now c.loop-index.cache c.join_pair.new.cache c.in_ok-join_pair.field-0 c.loop-index.invariant.2 (c.in_ok-join_pair.ensures.ok (pair_of c.loop-index.invariant.0 n)) (c.in_ok-join_pair.ensures.lost (pair_of c.loop-index.invariant.0 n)),
    )

pub returns-clause-joined : goal.returns-clause-joined
returns-clause-joined g c = c.loop-index.invariant.2

pub returns-clause-none : goal.returns-clause-none
returns-clause-none g c = joining_done c.loop-index.invariant.0 (let t = c.loop-index-test.false in let l = c.len.ensures in let o = c.loop-index.leaves.ok.0 in let m = length-map c.loop-index.leaves.items leaf_rows in omega (arith, t, l, o, m))

pub returns-clause-cache : goal.returns-clause-cache
returns-clause-cache g c = c.loop-index.invariant.1
