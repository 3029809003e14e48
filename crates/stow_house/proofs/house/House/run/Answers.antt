use Rattle.std.proofs.Common.{◌≡◌, ◌+◌, ◌<◌, ◌≤◌, [], ◌∷◌, ◌++◌, length, map, take, refl, ap, sym, ◌∙◌, arith, add-one}
use Rattle.stow_model.specs.Event.{event_of}
use Rattle.stow_house.specs.StepResult.{step_result_of}
use Rattle.stow_house.specs.Steps.{state_of}
use Rattle.stow_house.specs.Outputs.{told_in, marks_in, to_connection, told_of, mark_of, connection_of}
use Rattle.stow_house.proofs.Stood.{stands_new}
use Rattle.stow_house.proofs.Runs.{runs_none, runs_more, as_run, take_map_more, take_map_all, when_ok}
use Rattle.stow_house.proofs.house.House.run.Goals as goal

pub loop-done-init : goal.loop-done-init
loop-done-init g c = runs_none _ _ _ (stands_new _ c.requires.connections c.requires.stores) c.new-outputs.ensures.told c.new-outputs.ensures.marks

pub returns-then-is_err-clause-err : goal.returns-then-is_err-clause-err
returns-then-is_err-clause-err g c = as_run _ _ _ _ _ _ _ _ refl (sym c.reserve.ensures.told) (sym c.reserve.ensures.marks) c.loop-done.invariant

pub add-requires : goal.add-requires
add-requires g c = when_ok c.reserve.result c.reserve.ensures.room (sym c.if-is_err.false ∙ c.is_err.ensures.value)

pub loop-done-preserved : goal.loop-done-preserved
loop-done-preserved g c =
    let l = c.loop-done in
    let es = map event_of c.args.events.now in
    let e = event_of c.index-events-done.result in
    let r = step_result_of c.step-result.result in
    let lt : l.done < length c.args.events.now = omega arith in
    let events : take l.done es ++ e ∷ [] ≡ take (l.done + 1) es = sym (take_map_more event_of c.args.events.now l.done c.index-events-done.result lt c.index-events-done.is) ∙ ap (λ n. take n es) (sym (add-one l.done)) in
    let told : told_in l.outputs ++ to_connection (connection_of e) (told_of r) ≡ told_in c.add.new.self =
    (λ i. sym c.reserve.ensures.told i ++ to_connection (sym c.connection_of.ensures i) (told_of r)) ∙ sym c.add.ensures.told in
    let marks : marks_in l.outputs ++ mark_of r ∷ [] ≡ marks_in c.add.new.self = ap (λ t. t ++ mark_of r ∷ []) (sym c.reserve.ensures.marks) ∙ sym c.add.ensures.marks in
    as_run _ _ _ _ _ _ _ _ events told marks (runs_more (state_of c.args.self.now) (state_of l.self) (state_of c.step-result.new.self) (take l.done es) (told_in l.outputs) (marks_in l.outputs) e r l.invariant c.step-result.ensures.possible c.step-result.ensures.steps)

pub returns-clause-ok : goal.returns-clause-ok
returns-clause-ok g c =
    let l = c.loop-done in
    let all : length c.args.events.now ≤ l.done = omega arith in
    as_run _ _ _ _ _ _ _ _ (take_map_all event_of c.args.events.now l.done all) refl refl l.invariant
