use Rattle.std.proofs.Common.{◌≡◌, ◌<◌, ◌==◌, length, true, false, sym, ◌∙◌, arith}
use Rattle.std.specs.Result.{is_ok}
use Rattle.std.proofs.lemmas.Bool.Decides.{nat_tests}
use Rattle.std.proofs.lemmas.List.{nil_from_length}
use Rattle.stow_script.proofs.Texts.{so_far_more, so_far_all, so_far_bad}
use Rattle.stow_script.proofs.text.unescape.Goals as goal

pub returns-in_default-clause-err : goal.returns-in_default-clause-err
returns-in_default-clause-err g c =
    let more : length c.loop-left.left.now == 0 ≡ false = sym c.is_empty.ensures ∙ c.loop-left-test.true in
    let some : 0 < length c.loop-left.left.now = grind (arith, nat_tests) in
    so_far_bad c.args.text.now c.loop-left.bytes.items c.loop-left.left.now some c.loop-left.invariant c.in_default.ensures.front

pub loop-left-preserved : goal.loop-left-preserved
loop-left-preserved g c =
    let more : length c.loop-left.left.now == 0 ≡ false = sym c.is_empty.ensures ∙ c.loop-left-test.true in
    let some : 0 < length c.loop-left.left.now = grind (arith, nat_tests) in
    let pushed : is_ok c.push.result ≡ true = sym c.in_ok-map_err.ensures.variant in
    rw (c.push.ensures.items, pushed)
    (so_far_more c.args.text.now c.loop-left.bytes.items c.loop-left.left.now c.in-Some.byte c.in-Some.after.now some c.loop-left.invariant c.in-Some.ensures.front)

pub returns-clause-ok : goal.returns-clause-ok
returns-clause-ok g c =
    let end : length c.loop-left.left.now == 0 ≡ true = sym c.is_empty.ensures ∙ c.loop-left-test.false in
    let none : length c.loop-left.left.now ≡ 0 = grind (arith, nat_tests) in
    rw c.from_vec.ensures
    (so_far_all c.args.text.now c.loop-left.bytes.items c.loop-left.left.now (nil_from_length c.loop-left.left.now none) c.loop-left.invariant)
