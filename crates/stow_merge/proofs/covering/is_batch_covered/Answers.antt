use Rattle.std.proofs.Common.{◌≡◌, ◌<◌, false, true, length, sym, ◌∙◌, subst, arith}
use Rattle.stow_page.specs.StowTreeModel.Keys.{tenant_of}
use Rattle.stow_page.specs.StowTreeModel.TreeMessage.{TreeMessage, message_of}
use Rattle.stow_merge.specs.Covering.{IsCovered}
use Rattle.stow_merge.specs.Pins.{pins_in}
use Rattle.stow_merge.proofs.Lists.{one_more_has}
use Rattle.stow_merge.proofs.covering.is_batch_covered.Goals as goal

pub loop-i-preserved : goal.loop-i-preserved
loop-i-preserved g c =
    let within : c.loop-i.i < length c.args.batch.now.messages = (let l = c.loop-i-test.true in let e = c.len-i-end.ensures.len in omega (arith, l, e)) in
    one_more_has (λ (m : TreeMessage). IsCovered (pins_in c.args.used.now (tenant_of m.key)) (pins_in c.args.present.now (tenant_of m.key)) m.number) c.args.batch.now.messages c.loop-i.i (message_of c.message-message.result) c.loop-i.invariant
    within c.message-message.ensures (c.is_key_covered.ensures.0 c.if-not-is_key_covered.false)

pub returns-then-not-is_key_covered : goal.returns-then-not-is_key_covered
returns-then-not-is_key_covered g c =
    let message = message_of c.message-message.result in
    let within : c.loop-i.i < length c.args.batch.now.messages = (let l = c.loop-i-test.true in let e = c.len-i-end.ensures.len in omega (arith, l, e)) in (
      λ e. absurd (cc),
      λ all.
          let covered = subst (λ (m : TreeMessage). IsCovered (pins_in c.args.used.now (tenant_of m.key)) (pins_in c.args.present.now (tenant_of m.key)) m.number) (sym c.message-message.ensures) (all c.loop-i.i message within) in
          let z : false ≡ true = sym c.if-not-is_key_covered.true ∙ c.is_key_covered.ensures.1 covered in
          absurd (cc),
    )
