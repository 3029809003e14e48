use Rattle.std.proofs.Common.{◌≡◌, true, Some, map, sym, subst}
use Rattle.std.specs.Result.{is_ok}
use Rattle.stow_script.specs.Script.{line_of}
use Rattle.stow_script.proofs.Scripts.{IsSoFar, so_far_skip, so_far_line, so_far_bad, map_push, read_some, read_none, read_bad}
use Rattle.stow_tasks.proofs.script.read_script.Goals as goal

pub returns-in-Err-Malformed : goal.returns-in-Err-Malformed
returns-in-Err-Malformed g c =
    let entries = c.args.tenants.now in
    let text = c.args.text.now in
    let asked = map line_of c.loop-left.lines.items in
    let so_far : IsSoFar entries text (Some c.in-Some.rest) c.loop-left.number asked = subst (λ left. IsSoFar entries text left c.loop-left.number asked) c.in-Some.is c.loop-left.invariant in
    so_far_bad entries text c.cut.result.0.now c.in-Some.rest c.cut.result.1 c.loop-left.number asked so_far c.cut.ensures
    (read_bad entries c.cut.result.0.now c.in-Err-Malformed.word c.in-Err-Malformed.field-0 c.in-Err-Malformed.field-0-is c.in-Err-Malformed.ensures)

pub loop-left-preserved-in_ok-map_err-in-Ok-Some :
    goal.loop-left-preserved-in_ok-map_err-in-Ok-Some
loop-left-preserved-in_ok-map_err-in-Ok-Some g c =
    let entries = c.args.tenants.now in
    let text = c.args.text.now in
    let items = c.loop-left.lines.items in
    let so_far : IsSoFar entries text (Some c.in-Some.rest) c.loop-left.number (map line_of items) = subst (λ left. IsSoFar entries text left c.loop-left.number (map line_of items)) c.in-Some.is c.loop-left.invariant in
    let pushed : is_ok c.push.result ≡ true = sym c.in_ok-map_err-in-Ok-Some.ensures.variant in
    rw (c.push.ensures.items, pushed, map_push line_of items c.in-Ok-Some.asked)
    (so_far_line entries text c.cut.result.0.now c.in-Some.rest c.cut.result.1 c.loop-left.number (map line_of items) (line_of c.in-Ok-Some.asked) so_far c.cut.ensures
    (read_some entries c.cut.result.0.now c.in-Ok-Some.field-0 c.in-Ok-Some.asked c.in-Ok-Some.field-0-is c.in-Ok-Some.ensures))

pub loop-left-preserved : goal.loop-left-preserved
loop-left-preserved g c =
    let entries = c.args.tenants.now in
    let text = c.args.text.now in
    let asked = map line_of c.loop-left.lines.items in
    let so_far : IsSoFar entries text (Some c.in-Some.rest) c.loop-left.number asked = subst (λ left. IsSoFar entries text left c.loop-left.number asked) c.in-Some.is c.loop-left.invariant in
    so_far_skip entries text c.cut.result.0.now c.in-Some.rest c.cut.result.1 c.loop-left.number asked so_far c.cut.ensures
    (read_none entries c.cut.result.0.now c.in-Ok-None.field-0 c.in-Ok-None.field-0-is c.in-Ok-None.ensures)
