use Rattle.std.proofs.Common.{rules, ◌≡◌, Ok, ap, sym, ◌∙◌, subst}
use Rattle.stow_commands.specs.Commands.{update_of}
use Rattle.stow_core.specs.State.{store_of, row_at}
use Rattle.stow_core.specs.Writes.{given_op, IsRowAnswer, StaysShort}
use Rattle.stow_core.proofs.Answered.{change_refused, changed_nothing, changed_row, error_prepared, only_counted_prepared, prepared_as}
use Rattle.stow_core.proofs.Kept.{keeps_itself}
use Rattle.stow_core.proofs.Legality.{given_short}
use Rattle.stow_ledger.specs.Shown.{sized_option}
use Rattle.stow_model.specs.Reply.{reply_of}
use Rattle.stow_model.specs.Store.{outcome, value_in}
use Rattle.stow_model.specs.declared.reply.Reply.TheVariants as told
use Rattle.stow_tree_model.specs.Keys.{packed, own_key}
use Rattle.stow_tree_model.proofs.Packed.{own_key-packed}
use Rattle.stow_core.proofs.Core.prepare_change.Goals as goal

pub returns-in_err-answer : goal.returns-in_err-answer
returns-in_err-answer g c = error_prepared c.args.self.now c.args.self.now c.args.tenant _ c.from_residual.result c.from_residual.ensures.0 (keeps_itself c.args.self.now c.requires.sound)

pub prepare_row-requires-clause-row : goal.prepare_row-requires-clause-row
prepare_row-requires-clause-row g c =
    let t = c.args.tenant in
    let key = c.args.key.now in
    let buffer : c.find_change.new.buffer.items ≡ packed t key = c.in_ok-answer.ensures.buffer in
    let own : own_key c.find_change.new.buffer.items ≡ key = ap own_key buffer ∙ own_key-packed t key in
    c.in_ok-answer.ensures.row ∙ ap (λ k. sized_option (row_at c.args.self.now t k)) (sym own)

pub prepare_row-requires-clause-short : goal.prepare_row-requires-clause-short
prepare_row-requires-clause-short g c =
    let old = c.args.self.now in
    let t = c.args.tenant in
    let key = c.args.key.now in
    let op = given_op c.in-Ok-Written.given in
    let buffer : c.find_change.new.buffer.items ≡ packed t key = c.in_ok-answer.ensures.buffer in
    let own : own_key c.find_change.new.buffer.items ≡ key = ap own_key buffer ∙ own_key-packed t key in
    let present = value_in (row_at old t key) in
    let is = outcome (update_of c.args.update) present in
    let said = subst (λ o. IsRowAnswer (Ok o) present is) c.in-Ok-Written.field-0-is (subst (λ r. IsRowAnswer r present is) c.in-Ok-Written.is c.in_ok-answer.ensures.answer) in
    subst (λ k. StaysShort op (value_in (row_at old t k))) (sym own) (given_short (update_of c.args.update) present op (reply_of c.in-Ok-Written.reply) said)

pub returns-in-Ok-Written : goal.returns-in-Ok-Written
returns-in-Ok-Written g c =
    let old = c.args.self.now in
    let t = c.args.tenant in
    let key = c.args.key.now in
    let op = given_op c.in-Ok-Written.given in
    let present = value_in (row_at old t key) in
    let is = outcome (update_of c.args.update) present in
    let said = subst (λ o. IsRowAnswer (Ok o) present is) c.in-Ok-Written.field-0-is (subst (λ r. IsRowAnswer r present is) c.in-Ok-Written.is c.in_ok-answer.ensures.answer) in
    prepared_as old c.prepare_row.new.self t _ _ c.prepare_row.result
    (changed_row (store_of old t) t c.find_change.new.buffer.items key op (update_of c.args.update) (reply_of c.in-Ok-Written.reply) c.in_ok-answer.ensures.buffer said) c.prepare_row.ensures

pub returns-in-Ok-Unchanged : goal.returns-in-Ok-Unchanged
returns-in-Ok-Unchanged g c =
    let old = c.args.self.now in
    let t = c.args.tenant in
    let key = c.args.key.now in
    let present = value_in (row_at old t key) in
    let is = outcome (update_of c.args.update) present in
    let said = subst (λ o. IsRowAnswer (Ok o) present is) c.in-Ok-Unchanged.field-0-is (subst (λ r. IsRowAnswer r present is) c.in-Ok-Unchanged.is c.in_ok-answer.ensures.answer) in
    only_counted_prepared old old t _ c.in-Ok-Unchanged.reply c.only_counted.result c.only_counted.ensures (keeps_itself old c.requires.sound) c.requires.is_tenant
    (changed_nothing (store_of old t) key (update_of c.args.update) c.in-Ok-Unchanged.reply said)

pub returns-in-Err : goal.returns-in-Err
returns-in-Err g c =
    let old = c.args.self.now in
    let t = c.args.tenant in
    let key = c.args.key.now in
    let present = value_in (row_at old t key) in
    let is = outcome (update_of c.args.update) present in
    let said = subst (λ r. IsRowAnswer r present is) c.in-Err.is c.in_ok-answer.ensures.answer in
    only_counted_prepared old old t _ (told.Error c.in-Err.refusal) c.only_counted-in-Err.result c.only_counted-in-Err.ensures (keeps_itself old c.requires.sound) c.requires.is_tenant
    (change_refused (store_of old t) key (update_of c.args.update) c.in-Err.refusal said)
