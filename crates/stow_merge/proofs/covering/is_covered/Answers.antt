use Rattle.std.proofs.Common.{◌≤◌, ◌⊎◌, get_or, rules}
use Rattle.std.specs.Prelude.{Contains}
use Rattle.std.proofs.lemmas.List.{get_or_default}
use Rattle.stow_merge.proofs.Lists.{one_more_has}
use Rattle.stow_merge.proofs.covering.is_covered.Goals as goal

pub loop-i-preserved : goal.loop-i-preserved
loop-i-preserved c =
    let pin = get_or c.args.present.now c.loop-i.i 0 in
    one_more_has (λ p. Contains c.args.used.now p ⊎ c.args.number ≤ p) c.args.present.now c.loop-i.i pin c.loop-i.invariant c.loop-i-test.true
    (get_or_default c.args.present.now c.loop-i.i 0 pin c.loop-i-test.true) (c.is_pin_covered.ensures.0 (search rules))
