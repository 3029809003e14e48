use Rattle.std.proofs.Common.{rules, ◌≡◌, [], ◌∷◌, ◌++◌, ◌∙◌, refl, sym, ap, subst, length, arith, append_assoc, append-nil}
use Rattle.std.proofs.lemmas.List.{length_push}
use Rattle.std.specs.Vec.Iter.{into_iter_items}
use Rattle.stow_workers.specs.Pools.{AreEachUpTo, IsFlusherOf, IsWorkerOf}
use Rattle.stow_workers.proofs.Workers.{none_up_to, nothing_left, one_more_up_to}
use Rattle.stow_workers.proofs.pool.start_all.Goals as goal

pub loop-seat-init : goal.loop-seat-init
loop-seat-init g c = (
  refl,
  subst (λ items. AreEachUpTo c.args.count (IsWorkerOf g.J.Journal.keeps) (IsFlusherOf g.J.Journal.keeps) [] items) (sym c.requires.0) (none_up_to c.args.count (IsWorkerOf g.J.Journal.keeps) (IsFlusherOf g.J.Journal.keeps)),
  search rules,
  search rules,
  search rules,
  search rules,
)

pub loop-seat-preserved : goal.loop-seat-preserved
loop-seat-preserved g c =
    let at = c.loop-seat in
    let x = c.in-Some.seat in
    let steps : into_iter_items at.seat-iterator ≡ x ∷ into_iter_items c.next.new.self = c.in-Some.ensures.steps.0 in (
      append_assoc at.yielded (x ∷ []) _ ∙ rw (← steps) at.invariant.0,
      subst (λ items. AreEachUpTo c.args.count (IsWorkerOf g.J.Journal.keeps) (IsFlusherOf g.J.Journal.keeps) (at.yielded ++ x ∷ []) items) (sym c.push_reserved.ensures.items)
          (one_more_up_to c.args.count (IsWorkerOf g.J.Journal.keeps) (IsFlusherOf g.J.Journal.keeps) _ _ _ _ (sym at.invariant.5) at.invariant.1 (λ lt. c.start-worker.ensures.worker (search rules)) (λ le. c.start-worker.ensures.flusher (search rules))),
      let was = at.invariant.2 in
          let gone = c.in-Some.ensures.steps.1 in
          let short = ap length steps in
          omega arith,
      let room = at.invariant.3 in
          let gone = c.in-Some.ensures.steps.1 in
          let first = c.push_reserved.ensures.len in
          omega arith,
      let room = at.invariant.4 in
          let same = c.push_reserved.ensures.capacity in
          omega arith,
      let same = at.invariant.5 in
          let first = ap length c.push_reserved.ensures.items in
          let second = length_push at.workers.items c.start-worker.result in
          let more = length_push at.yielded x in
          omega arith,
    )

pub returns : goal.returns
returns g c =
    let at = c.loop-seat in
    let none = c.in-None.ensures.steps in
    let empty : into_iter_items at.seat-iterator ≡ [] = nothing_left _ (sym at.invariant.2 ∙ none.0) in
    let all = sym (append-nil at.yielded) ∙ rw empty at at.invariant.0 ∙ c.into_iter-seat-iterator.ensures.into_iter_gives.0 in
    let began = c.into_iter-seat-iterator.ensures.into_iter_gives in
    record {
      each = subst (λ l. AreEachUpTo c.args.count (IsWorkerOf g.J.Journal.keeps) (IsFlusherOf g.J.Journal.keeps) l at.workers.items) all at.invariant.1;
      count = omega (arith, at.invariant.3, none.0, began.1);
    }
