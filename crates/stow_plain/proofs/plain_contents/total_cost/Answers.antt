use Rattle.std.proofs.Common.{ap, ◌∙◌, zero-add}
use Rattle.stow_ledger.specs.Shown.{cost_of_all}
use Rattle.stow_plain.specs.Contents.{shown_in}
use Rattle.stow_plain.proofs.Charged.{split_cost, none_when, too_much, next_total}
use Rattle.stow_plain.proofs.plain_contents.total_cost.Goals as goal

pub returns-in_err-total : goal.returns-in_err-total
returns-in_err-total g c = none_when _ _ _ c.from_residual.ensures (too_much 0 _ _ _ c.in_err-total.ensures (split_cost c.args.rows.now (shown_in c.args.copies.now)) (zero-add _))

pub loop-copy-init : goal.loop-copy-init
loop-copy-init g c = next_total 0 _ _ _ _ c.in_ok-total.ensures.0 c.in_ok-total.ensures.1 (split_cost c.args.rows.now (shown_in c.args.copies.now)) (zero-add _)

pub returns-in_err-total-2 : goal.returns-in_err-total-2
returns-in_err-total-2 g c =
    let left = ap (λ cs. cost_of_all (shown_in cs)) c.in-Some.ensures.cases.0 ∙ split_cost c.in-Some.copy.now.rows (shown_in c.in-Some.later.now) in
    none_when _ _ _ c.from_residual-in_err-total-2.ensures (too_much c.loop-copy.total _ _ _ c.in_err-total-2.ensures left c.loop-copy.invariant.costs)

pub loop-copy-preserved : goal.loop-copy-preserved
loop-copy-preserved g c =
    let left = ap (λ cs. cost_of_all (shown_in cs)) c.in-Some.ensures.cases.0 ∙ split_cost c.in-Some.copy.now.rows (shown_in c.in-Some.later.now) in
    next_total c.loop-copy.total _ _ _ _ c.in_ok-total-2.ensures.0 c.in_ok-total-2.ensures.1 left c.loop-copy.invariant.costs
