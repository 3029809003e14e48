use Rattle.std.proofs.Common.{refl, subst, sym, ap}
use Rattle.stow_model.specs.Event.{event_of}
use Rattle.stow_workers.specs.StowHouse.StepResult.{step_result_of}
use Rattle.stow_workers.specs.StowHouse.Steps.{HouseState, state_of}
use Rattle.stow_workers.specs.StowCore.State.{CoreState}
use Rattle.stow_workers.specs.StowTree.Reports.{IsReport}
use Rattle.stow_tasks.specs.Lines.{shape_text}
use Rattle.stow_tasks.specs.Told.{usage_of}
use Rattle.stow_tasks.proofs.Telling.{a_text, err_so, ok_so}
use Rattle.stow_tasks.proofs.script.carry_out_line.Goals as goal

pub returns-in-Event-clause-done : goal.returns-in-Event-clause-done
returns-in-Event-clause-done g c =
    let line = a_text (event_of c.in-Event.event) (step_result_of c.step-result.result) c.step-result.ensures.possible in
    rw c.in-Event.is (err_so c.tell.result (line.0, (step_result_of c.step-result.result, c.step-result.ensures.steps, line.1)))

pub returns-in-Shape-clause-ok : goal.returns-in-Shape-clause-ok
returns-in-Shape-clause-ok g c =
    let report = subst (λ (core : CoreState). IsReport core.tree c.shape.result) c.core.ensures c.shape.ensures in
    rw c.in-Shape.is (ok_so c.write_shape.result (λ written. (shape_text c.shape.result, (c.shape.result, report, refl, refl), written)) c.write_shape.ensures.ok)

pub returns-in-Shape-clause-done : goal.returns-in-Shape-clause-done
returns-in-Shape-clause-done g c =
    let report = subst (λ (core : CoreState). IsReport core.tree c.shape.result) c.core.ensures c.shape.ensures in
    rw c.in-Shape.is (err_so c.write_shape.result (shape_text c.shape.result, (c.shape.result, report, refl, refl)))

pub returns-in-Usage-clause-done : goal.returns-in-Usage-clause-done
returns-in-Usage-clause-done g c = rw c.in-Usage.is (err_so c.tell_usage.result (usage_of (state_of c.args.house.now).core c.in-Usage.tenant, (refl, refl)))
