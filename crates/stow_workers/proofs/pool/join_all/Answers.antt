use Rattle.std.proofs.Common.{rules, ◌≡◌, [], ◌∷◌, ◌++◌, ◌∙◌, refl, sym, ap, subst, length, arith, append_assoc, append-nil}
use Rattle.std.specs.Vec.Iter.{into_iter_items}
use Rattle.stow_workers.specs.Pools.{AreEach, GivesBack}
use Rattle.stow_workers.proofs.Workers.{each_more, each_none, nothing_left}
use Rattle.stow_workers.proofs.pool.join_all.Goals as goal

pub loop-worker-init : goal.loop-worker-init
loop-worker-init g c = (
  refl,
  subst (λ items. AreEach (GivesBack g.J.Journal.keeps) [] items) (sym c.requires.0) (each_none (GivesBack g.J.Journal.keeps)),
  search rules,
  search rules,
)

pub loop-worker-preserved : goal.loop-worker-preserved
loop-worker-preserved g c =
    let at = c.loop-worker in
    let x = c.in-Some.worker in
    let steps : into_iter_items at.worker-iterator ≡ x ∷ into_iter_items c.next.new.self = c.in-Some.ensures.steps.0 in (
      append_assoc at.yielded (x ∷ []) _ ∙ rw (← steps) at.invariant.0,
      subst (λ items. AreEach (GivesBack g.J.Journal.keeps) (at.yielded ++ x ∷ []) items) (sym c.push_reserved.ensures.items) (each_more (GivesBack g.J.Journal.keeps) _ _ _ _ at.invariant.1 c.join.ensures),
      let was = at.invariant.2 in
          let gone = c.in-Some.ensures.steps.1 in
          let short = ap length steps in
          omega arith,
      let room = at.invariant.3 in
          let gone = c.in-Some.ensures.steps.1 in
          let first = c.push_reserved.ensures.len in
          let second = c.push_reserved.ensures.capacity in
          omega arith,
    )

pub returns : goal.returns
returns g c =
    let at = c.loop-worker in
    let none = c.in-None.ensures.steps in
    let empty : into_iter_items at.worker-iterator ≡ [] = nothing_left _ (sym at.invariant.2 ∙ none.0) in
    let all = sym (append-nil at.yielded) ∙ rw empty at at.invariant.0 ∙ c.into_iter-worker-iterator.ensures.into_iter_gives.0 in
    subst (λ l. AreEach (GivesBack g.J.Journal.keeps) l at.returned.items) all at.invariant.1
