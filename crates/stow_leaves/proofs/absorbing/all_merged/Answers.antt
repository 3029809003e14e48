use Rattle.std.proofs.Common.{◌≡◌, List, [], ◌∷◌, ◌++◌, map, refl, sym, ap, ◌∙◌, subst, arith}
use Rattle.std.proofs.lemmas.List.{length-map, map-append}
use Rattle.stow_leaf.specs.LeafRows.{leaf_rows, first_fence}
use Rattle.stow_leaf.specs.declared.leaf.Leaf.{Leaf}
use Rattle.stow_leaf.specs.StowMerge.Pins.{pins_in}
use Rattle.stow_leaves.specs.AbsorbsAll.{CanGiveWay}
use Rattle.stow_leaves.proofs.Forgotten.{on_err, forgets_kept, forgets_then}
use Rattle.stow_leaves.proofs.GivenWay.{AllGave, all_stand, giving_ends, giving_first, giving_next, next_end, next_leaf}
use Rattle.stow_leaves.proofs.Replaced.{none_left}
use Rattle.stow_leaves.proofs.absorbing.all_merged.Given as given
use Rattle.stow_leaves.proofs.absorbing.all_merged.Goals as goal
use Rattle.stow_leaves.proofs.absorbing.all_merged.Goals.{After-first_fence-high, In_default}

taken : (g : given.Over) (c : After-first_fence-high g) → map leaf_rows c.loop-leaf.leaves.items ≡ map leaf_rows c.pop.new.self.items ++ leaf_rows c.in-Some.leaf ∷ []
taken g c = ap (map leaf_rows) c.in-Some.ensures.items ∙ map-append leaf_rows c.pop.new.self.items (c.in-Some.leaf ∷ [])

-- its keys end where those of the leaf above it begin
ends : (g : given.Over) (c : After-first_fence-high g) → c.first_fence-high.result.bytes.now ≡ first_fence c.args.end.bytes.now c.loop-leaf.invariant.after
ends g c =
    c.first_fence-high.ensures ∙ ap (λ (ls : List (Leaf g.row.A.Denot)). first_fence c.args.end.bytes.now (map leaf_rows ls)) c.as_slice.ensures.value
    ∙ next_end (map leaf_rows c.args.leaves.items) (map leaf_rows c.pop.new.self.items) (leaf_rows c.in-Some.leaf) c.args.end.bytes.now c.args.buffer.now.messages c.args.target c.requires c.loop-leaf.invariant (taken g c)

all_gave : (g : given.Over) (c : In_default g) → AllGave (map leaf_rows c.args.leaves.items) (map leaf_rows c.loop-leaf.fresh.items) c.args.end.bytes.now c.args.buffer.now.messages (pins_in c.args.pins.now) c.args.target c.args.cache.now c.loop-leaf.cache
all_gave g c =
    giving_ends (map leaf_rows c.args.leaves.items) c.args.end.bytes.now c.args.buffer.now.messages c.args.target c.requires c.loop-leaf.invariant
    (ap (map leaf_rows) (none_left c.loop-leaf.leaves.items (let o = c.loop-leaf.leaves.ok.0 in let z = c.in_default.ensures.cases.0 in omega (arith, o, z))))

pub loop-leaf-init : goal.loop-leaf-init
loop-leaf-init g c =
    giving_first (map leaf_rows c.args.leaves.items) (map leaf_rows c.args.leaves.items) (map leaf_rows c.new-fresh.result.items) c.args.end.bytes.now c.args.buffer.now.messages (pins_in c.args.pins.now) c.args.target c.args.cache.now refl
    (ap (map leaf_rows) c.new-fresh.ensures.items)

pub given_way-requires : goal.given_way-requires
given_way-requires g c =
    let at = (goal.at.given_way-requires g c).After-first_fence-high in
    subst (λ high. CanGiveWay (leaf_rows c.in-Some.leaf) high c.args.buffer.now.messages c.args.target) (sym (ends g at))
    (next_leaf (map leaf_rows c.args.leaves.items) (map leaf_rows c.pop.new.self.items) (leaf_rows c.in-Some.leaf) c.args.end.bytes.now c.args.buffer.now.messages c.args.target c.requires c.loop-leaf.invariant (taken g at)).can

pub returns-in_err-append-clause-err : goal.returns-in_err-append-clause-err
returns-in_err-append-clause-err g c =
    let at = (goal.at.returns-in_err-append-clause-err g c).After-first_fence-high in
    on_err c.from_residual-in_err-append.result
    (forgets_kept (map leaf_rows c.args.leaves.items) _ (map leaf_rows c.args.leaves.items) c.args.cache.now c.given_way.new.cache
    (giving_next (map leaf_rows c.args.leaves.items) (map leaf_rows c.pop.new.self.items) (map leaf_rows c.in_ok-others.others.items) _ (leaf_rows c.in-Some.leaf) c.first_fence-high.result.bytes.now c.args.end.bytes.now c.args.buffer.now.messages c.args.target c.given_way.new.cache c.loop-leaf.invariant (taken g at) (ends g at)
    c.in_ok-others.ensures.way c.in_ok-others.ensures.cache refl).forgets)

pub loop-leaf-preserved : goal.loop-leaf-preserved
loop-leaf-preserved g c =
    let at = (goal.at.loop-leaf-preserved g c).After-first_fence-high in
    giving_next (map leaf_rows c.args.leaves.items) (map leaf_rows c.pop.new.self.items) (map leaf_rows c.in_ok-others.others.items) (map leaf_rows c.append.new.self.items) (leaf_rows c.in-Some.leaf) c.first_fence-high.result.bytes.now c.args.end.bytes.now c.args.buffer.now.messages c.args.target c.given_way.new.cache c.loop-leaf.invariant (taken g at) (ends g at)
    c.in_ok-others.ensures.way c.in_ok-others.ensures.cache
    (ap (map leaf_rows) c.in_ok-append.ensures.items ∙ map-append leaf_rows c.in_ok-others.others.items c.loop-leaf.fresh.items)

pub join_small-requires-clause-some : goal.join_small-requires-clause-some
join_small-requires-clause-some g c =
    let s = (all_gave g (goal.at.join_small-requires-clause-some g c).In_default).place.some c.requires.some in
    omega (arith, s, length-map c.loop-leaf.fresh.items leaf_rows)

pub join_small-requires-clause-tiled : goal.join_small-requires-clause-tiled
join_small-requires-clause-tiled g c = (all_gave g (goal.at.join_small-requires-clause-tiled g c).In_default).tiled

pub returns-in_err-join_small-clause-err : goal.returns-in_err-join_small-clause-err
returns-in_err-join_small-clause-err g c =
    let gave = all_gave g (goal.at.returns-in_err-join_small-clause-err g c).In_default in
    on_err c.from_residual-in_err-join_small.result
    (forgets_kept (map leaf_rows c.args.leaves.items) (map leaf_rows c.join_small.new.leaves.items) (map leaf_rows c.args.leaves.items) c.args.cache.now c.join_small.new.cache
    (forgets_then (map leaf_rows c.args.leaves.items) (map leaf_rows c.loop-leaf.fresh.items) (map leaf_rows c.join_small.new.leaves.items) c.args.cache.now c.loop-leaf.cache c.join_small.new.cache gave.forgets c.join_small.ensures.cache))

pub returns-clause-merged : goal.returns-clause-merged
returns-clause-merged g c =
    let gave = all_gave g (goal.at.returns-clause-merged g c).In_default in
    record {
      middle = map leaf_rows c.loop-leaf.fresh.items;
      between = c.loop-leaf.cache;
      each = gave.each;
      joins = c.join_small.ensures.joined;
      none = c.in_ok-join_small.ensures.none;
    }

pub returns-clause-stands : goal.returns-clause-stands
returns-clause-stands g c =
    all_stand (map leaf_rows c.args.leaves.items) c.args.end.bytes.now c.args.buffer.now.messages (pins_in c.args.pins.now) c.args.target (map leaf_rows c.loop-leaf.fresh.items) (map leaf_rows c.join_small.new.leaves.items) c.requires
    (all_gave g (goal.at.returns-clause-stands g c).In_default).place c.join_small.ensures.joined.joined

pub returns-clause-cache : goal.returns-clause-cache
returns-clause-cache g c =
    forgets_then (map leaf_rows c.args.leaves.items) (map leaf_rows c.loop-leaf.fresh.items) (map leaf_rows c.join_small.new.leaves.items) c.args.cache.now c.loop-leaf.cache c.join_small.new.cache
    (all_gave g (goal.at.returns-clause-cache g c).In_default).forgets c.join_small.ensures.cache
