use Rattle.std.proofs.Common.{◌+◌, map, take, sym, ◌∙◌, subst, inl}
use Rattle.stow_script.specs.Script.{line_of}
use Rattle.stow_workers.specs.StowHouse.Steps.{state_of}
use Rattle.stow_workers.specs.Sent.{written_of}
use Rattle.stow_tasks.specs.Told.{progress_of}
use Rattle.stow_tasks.proofs.Telling.{HasWritten, all_begins, led_tenants, of_tenant_at, checked_ok, ended, ends_at_output, line_told, failed_write, finished_all, on_err, on_ok, part_told, refused_part, since, some_written, told_sent}
use Rattle.stow_tasks.proofs.script.carry_out.Goals.{then-len-ge-ANSWERS+in_ok-check, else-len-ge-ANSWERS}
use Rattle.stow_tasks.proofs.script.carry_out.Goals as goal

pub carry_out_line-requires : goal.carry_out_line-requires
carry_out_line-requires g c =
    let house = state_of c.args.house.now in
    of_tenant_at house.core.entries (state_of c.loop-line.house).core.entries c.args.lines.now c.loop-line.line-index c.line-item.result (sym (led_tenants house _ _ (state_of c.loop-line.house) c.loop-line.invariant.0.leads)) c.requires c.loop-line-test.true c.line-item.is

pub returns-in_err-finish-clause-carried_out : goal.returns-in_err-finish-clause-carried_out
returns-in_err-finish-clause-carried_out g c =
    let lines = c.args.lines.now in
    let i = c.loop-line.line-index in
    let l = c.line-item.result in
    let old = progress_of c.args.house.now (g.W.Sink.contents c.args.output.now) (g.W.Sink.failures c.args.output.now) in
    let mid = progress_of c.loop-line.house (g.W.Sink.contents c.loop-line.output) (g.W.Sink.failures c.loop-line.output) in
    let kept = c.loop-line.answers.items in
    let told_so_far = c.loop-line.invariant.0 in
    let bad = sym c.is_err.ensures.value ∙ c.if-is_err.true in
    let house = state_of c.carry_out_line.new.house in
    let done = on_err c.carry_out_line.result bad c.carry_out_line.ensures.done in
    let same = c.as_slice.ensures.value ∙ on_err c.carry_out_line.result bad c.carry_out_line.ensures.err in
    let w = c.in_err-finish.ensures.written in
    let f = c.in_err-finish.field-0.0 in
    let ends = since f _ _ _ told_so_far.failures (ends_at_output f _ _ c.in_err-finish.ensures.err w.failures) in
    ended (map line_of lines) old (progress_of c.carry_out_line.new.house (g.W.Sink.contents c.finish.new.output) (g.W.Sink.failures c.finish.new.output)) c.from_residual.result f c.from_residual.ensures.1 ends
    (refused_part lines i l old mid house kept c.as_slice.result.now w.front (written_of (g.W.Sink.contents c.finish.new.output) (g.W.Sink.failures c.finish.new.output)) c.loop-line-test.true c.line-item.is told_so_far done same w.begins w.appends)

pub returns-then-is_err-clause-carried_out : goal.returns-then-is_err-clause-carried_out
returns-then-is_err-clause-carried_out g c =
    let lines = c.args.lines.now in
    let i = c.loop-line.line-index in
    let l = c.line-item.result in
    let old = progress_of c.args.house.now (g.W.Sink.contents c.args.output.now) (g.W.Sink.failures c.args.output.now) in
    let mid = progress_of c.loop-line.house (g.W.Sink.contents c.loop-line.output) (g.W.Sink.failures c.loop-line.output) in
    let kept = c.loop-line.answers.items in
    let told_so_far = c.loop-line.invariant.0 in
    let bad = sym c.is_err.ensures.value ∙ c.if-is_err.true in
    let house = state_of c.carry_out_line.new.house in
    let done = on_err c.carry_out_line.result bad c.carry_out_line.ensures.done in
    let same = c.as_slice.ensures.value ∙ on_err c.carry_out_line.result bad c.carry_out_line.ensures.err in
    let bytes = c.as_slice.result.now in
    let w = c.in_ok-finish.ensures.written in
    (inl (w.1 ∙ told_so_far.failures), refused_part lines i l old mid house kept bytes bytes (written_of (g.W.Sink.contents c.finish.new.output) (g.W.Sink.failures c.finish.new.output)) c.loop-line-test.true c.line-item.is told_so_far done same (all_begins bytes) w.0)

pub returns-in_err-check-clause-carried_out : goal.returns-in_err-check-clause-carried_out
returns-in_err-check-clause-carried_out g c =
    let lines = c.args.lines.now in
    let i = c.loop-line.line-index in
    let l = c.line-item.result in
    let old = progress_of c.args.house.now (g.W.Sink.contents c.args.output.now) (g.W.Sink.failures c.args.output.now) in
    let mid = progress_of c.loop-line.house (g.W.Sink.contents c.loop-line.output) (g.W.Sink.failures c.loop-line.output) in
    let kept = c.loop-line.answers.items in
    let told_so_far = c.loop-line.invariant.0 in
    let line = on_ok c.carry_out_line.result (sym c.is_err.ensures.value ∙ c.if-is_err.false) c.carry_out_line.ensures.ok in
    let told = line_told lines i l old mid (state_of c.carry_out_line.new.house) kept c.carry_out_line.new.answers.items c.loop-line-test.true c.line-item.is told_so_far line in
    let bytes = c.as_slice-then-len-ge-ANSWERS.result.now in
    let before = written_of (g.W.Sink.contents c.loop-line.output) (g.W.Sink.failures c.loop-line.output) in
    let written = written_of (g.W.Sink.contents c.write_all.new.writer) (g.W.Sink.failures c.write_all.new.writer) in
    let f = c.in_err-check.field-0.0 in
    let ends = since f _ _ _ told_so_far.failures (failed_write c.write_all.result f bytes before written c.in_err-check.ensures c.write_all.ensures.written) in
    ended (map line_of lines) old (progress_of c.carry_out_line.new.house (g.W.Sink.contents c.write_all.new.writer) (g.W.Sink.failures c.write_all.new.writer)) c.from_residual-in_err-check.result f c.from_residual-in_err-check.ensures.1 ends
    (part_told lines (i + 1) old (progress_of c.carry_out_line.new.house (g.W.Sink.contents c.loop-line.output) (g.W.Sink.failures c.loop-line.output)) c.carry_out_line.new.answers.items written bytes c.write_all.result told c.as_slice-then-len-ge-ANSWERS.ensures.value c.write_all.ensures.written)

pub loop-line-preserved : goal.loop-line-preserved
loop-line-preserved g c =
    let lines = c.args.lines.now in
    let i = c.loop-line.line-index in
    let l = c.line-item.result in
    let old = progress_of c.args.house.now (g.W.Sink.contents c.args.output.now) (g.W.Sink.failures c.args.output.now) in
    let mid = progress_of c.loop-line.house (g.W.Sink.contents c.loop-line.output) (g.W.Sink.failures c.loop-line.output) in
    let kept = c.loop-line.answers.items in
    let told_so_far = c.loop-line.invariant.0 in
    let line = on_ok c.carry_out_line.result (sym c.is_err.ensures.value ∙ c.if-is_err.false) c.carry_out_line.ensures.ok in
    let told = line_told lines i l old mid (state_of c.carry_out_line.new.house) kept c.carry_out_line.new.answers.items c.loop-line-test.true c.line-item.is told_so_far line in
    elim c.if-len-ge-ANSWERS.branch [
      | then-len-ge-ANSWERS+in_ok-check w ↦
          let bytes = w.as_slice-then-len-ge-ANSWERS.result.now in
          let before = written_of (g.W.Sink.contents c.loop-line.output) (g.W.Sink.failures c.loop-line.output) in
          let written = written_of (g.W.Sink.contents w.write_all.new.writer) (g.W.Sink.failures w.write_all.new.writer) in
          let done = checked_ok w.write_all.result w.in_ok-check.field-0 bytes before written w.in_ok-check.ensures w.write_all.ensures.written in
          rw (w.output-is, w.answers-is)
          (told_sent (map line_of (take (i + 1) lines)) old (progress_of c.carry_out_line.new.house (g.W.Sink.contents c.loop-line.output) (g.W.Sink.failures c.loop-line.output)) c.carry_out_line.new.answers.items written w.clear.new.self.items told (subst (λ ls. HasWritten ls before written) w.as_slice-then-len-ge-ANSWERS.ensures.value done) w.clear.ensures.items, w.write_all.ensures.same_borrow ∙ c.loop-line.invariant.1)
      | else-len-ge-ANSWERS w ↦ rw (w.output-is, w.answers-is) (told, c.loop-line.invariant.1)
    ]

pub returns-clause-carried_out : goal.returns-clause-carried_out
returns-clause-carried_out g c =
    finished_all c.args.lines.now c.loop-line.line-index (progress_of c.args.house.now (g.W.Sink.contents c.args.output.now) (g.W.Sink.failures c.args.output.now)) (progress_of c.loop-line.house (g.W.Sink.contents c.loop-line.output) (g.W.Sink.failures c.loop-line.output)) c.loop-line.answers.items c.as_slice-2.result.now (written_of (g.W.Sink.contents c.finish-2.new.output) (g.W.Sink.failures c.finish-2.new.output)) c.finish-2.result c.loop-line-test.false c.loop-line.invariant.0 c.as_slice-2.ensures.value c.finish-2.ensures.written c.finish-2.ensures.err
