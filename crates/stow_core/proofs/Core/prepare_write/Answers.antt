use Rattle.std.proofs.Common.{rules, ◌≡◌, ◌+◌, nat_lt, true, false, refl, ap, sym, ◌∙◌, subst}
use Rattle.std.specs.Prelude.{not}
use Rattle.stow_bytes.specs.Limits.{number_limit}
use Rattle.stow_core.specs.Prepared.{CanGive, CanWrite, after_written, next_number}
use Rattle.stow_core.specs.State.{CoreState, store_of, Keeps}
use Rattle.stow_core.specs.Tenancies.{tenancy_at}
use Rattle.stow_core.specs.Writes.{given_op, writes_of, AreMessages}
use Rattle.stow_core.proofs.Answered.{charged_kept, error_prepared, only_counted_prepared, refused_prepared, write_done, write_exceeds, write_full}
use Rattle.stow_core.proofs.Carried.{core_of}
use Rattle.stow_core.proofs.Charges.{charged_in, exceeds, given_here}
use Rattle.stow_core.proofs.Kept.{core_agrees, keeps_agreed, keeps_itself}
use Rattle.stow_core.proofs.Reserving.{can_give, gives_messages}
use Rattle.stow_core.proofs.Stores.{can_still_write}
use Rattle.stow_ledger.specs.Accounts.{is_allowed}
use Rattle.stow_model.specs.Login.{IsTenant}
use Rattle.stow_model.specs.Reply.{reply_of}
use Rattle.stow_dropping.specs.StowTree.Putting.{CanReserve, IsReserved}
use Rattle.stow_core.proofs.RowLengths.{kept_lengths}
use Rattle.stow_core.specs.RowLengths.{HaveLength}
use Rattle.stow_model.specs.Store.{Store}
use Rattle.std.specs.Prelude.{IfSome}
use Rattle.stow_core.proofs.Core.prepare_write.Goals as goal

pub returns-then-not-can_write : goal.returns-then-not-can_write
returns-then-not-can_write g c =
    let old = c.args.self.now in
    let t = c.args.tenant in
    let write = c.args.write in
    let full : nat_lt (store_of old t).last number_limit ≡ false = sym c.can_write.ensures ∙ (search rules) in
    only_counted_prepared old c.keep_keys.new.self t _ _ c.only_counted.result c.only_counted.ensures (subst (Keeps old) (sym c.keep_keys.ensures) (keeps_itself old c.requires.sound)) c.requires.is_tenant
    (write_full (store_of old t) write.keys (given_op write.given) (reply_of c.args.reply) full)

pub returns-then-not-allows : goal.returns-then-not-allows
returns-then-not-allows g c =
    let old = c.args.self.now in
    let t = c.args.tenant in
    let write = c.args.write in
    let can : nat_lt (store_of old t).last number_limit ≡ true = sym c.can_write.ensures ∙ (search rules) in
    let own = c.tenancy.ensures in
    let refused : is_allowed c.tenancy.result.now.account write.charge ≡ false = sym c.allows.ensures ∙ (search rules) in
    refused_prepared old c.keep_keys-then-not-allows.new.self t _ c.only_refused.result c.only_refused.ensures (subst (Keeps old) (sym c.keep_keys-then-not-allows.ensures) (keeps_itself old c.requires.sound)) c.requires.is_tenant
    (write_exceeds (store_of old t) write.keys (given_op write.given) (reply_of c.args.reply) can
    (exceeds old t c.tenancy.result.now own.own own.sound own.account (after_written write (store_of old t)) write.charge c.requires.priced.is ∙ ap not refused))

pub reserve-requires-clause-messages : goal.reserve-requires-clause-messages
reserve-requires-clause-messages g c =
    let old = c.args.self.now in
    let t = c.args.tenant in
    let can : CanWrite old t = can_still_write old old t c.can_write.result refl c.can_write.ensures (search rules) in
    subst AreMessages (λ i. writes_of ((ap (λ s. next_number s t) c.self.view_is ∙ sym c.next_number-number.ensures) i) (sym c.op-op.ensures i) (sym c.lent-keys.ensures i))
    (gives_messages _ c.self.inside.pins c.self.invariant.0 t (subst (λ (s : CoreState). IsTenant s.entries t) (sym c.self.view_is) c.requires.is_tenant) (subst (λ s. CanWrite s t) (sym c.self.view_is) can) c.args.write.keys (given_op c.args.write.given)
    (subst (λ s. CanGive s t c.args.write.keys (given_op c.args.write.given)) (sym c.self.view_is) c.requires.can_give))

pub reserve-requires-clause-can : goal.reserve-requires-clause-can
reserve-requires-clause-can g c =
    let old = c.args.self.now in
    let t = c.args.tenant in
    let can : CanWrite old t = can_still_write old old t c.can_write.result refl c.can_write.ensures (search rules) in
    subst (CanReserve c.self.inside.tree) (λ i. writes_of ((ap (λ s. next_number s t) c.self.view_is ∙ sym c.next_number-number.ensures) i) (sym c.op-op.ensures i) (sym c.lent-keys.ensures i))
    (can_give _ c.self.inside.pins c.self.invariant.0 t (subst (λ (s : CoreState). IsTenant s.entries t) (sym c.self.view_is) c.requires.is_tenant) (subst (λ s. CanWrite s t) (sym c.self.view_is) can) c.args.write.keys (given_op c.args.write.given)
    (subst (λ s. CanGive s t c.args.write.keys (given_op c.args.write.given)) (sym c.self.view_is) c.requires.can_give))

pub invariant_of-self : goal.invariant_of-self
invariant_of-self g c = (core_agrees _ c.self.inside.pins c.self.invariant.0 c.reserve.new.tree c.reserve.ensures.agrees c.reserve.ensures.shape, kept_lengths _ _ c.self.inside.lengths (keeps_agreed _ c.self.inside.pins c.self.invariant.0 c.reserve.new.tree c.reserve.ensures.agrees) c.self.invariant.1)

pub returns-in_err-reserve : goal.returns-in_err-reserve
returns-in_err-reserve g c =
    error_prepared c.args.self.now (core_of c.self.inside.tenants.value c.self.inside.tenancies.items c.self.inside.pin_room c.reserve.new.tree) c.args.tenant _ c.from_residual.result c.from_residual.ensures.0
    (subst (λ s. Keeps s (core_of c.self.inside.tenants.value c.self.inside.tenancies.items c.self.inside.pin_room c.reserve.new.tree)) c.self.view_is (keeps_agreed _ c.self.inside.pins c.self.invariant.0 c.reserve.new.tree c.reserve.ensures.agrees))

pub invariant_of-self-2 : goal.invariant_of-self-2
invariant_of-self-2 g c = (core_agrees _ c.self.inside.pins c.self.invariant.0 c.reserve.new.tree c.reserve.ensures.agrees c.reserve.ensures.shape, kept_lengths _ _ c.self.inside.lengths (keeps_agreed _ c.self.inside.pins c.self.invariant.0 c.reserve.new.tree c.reserve.ensures.agrees) c.self.invariant.1)

pub returns : goal.returns
returns g c =
    let old = c.args.self.now in
    let t = c.args.tenant in
    let write = c.args.write in
    let op = given_op write.given in
    let store = store_of old t in
    let can_is : nat_lt store.last number_limit ≡ true = sym c.can_write.ensures ∙ (search rules) in
    let can : CanWrite old t = can_still_write old old t c.can_write.result refl c.can_write.ensures (search rules) in
    let own = c.tenancy.ensures in
    let x = c.tenancy.result.now in
    let allowed : is_allowed x.account write.charge ≡ true = sym c.allows.ensures ∙ (search rules) in
    let within = exceeds old t x own.own own.sound own.account (after_written write store) write.charge c.requires.priced.is ∙ ap not allowed in
    let charged = charged_in old t x own.own own.sound own.account (after_written write store) write.charge c.requires.priced.is (given_here old t x own.own own.sound own.account write.charge c.requires.priced.given) allowed in
    let new : CoreState = core_of c.self.inside.tenants.value c.self.inside.tenancies.items c.self.inside.pin_room c.reserve.new.tree in
    let keeps : Keeps old new = subst (λ s. Keeps s new) c.self.view_is (keeps_agreed _ c.self.inside.pins c.self.invariant.0 c.reserve.new.tree c.reserve.ensures.agrees) in
    let number : next_number new t ≡ c.next_number-number.result = ap (λ s. s.last + 1) (keeps.stores t) ∙ sym c.next_number-number.ensures in
    let messages = subst (λ n. AreMessages (writes_of n op write.keys)) (ap (λ s. next_number s t) c.self.view_is ∙ ap (λ s. s.last + 1) (sym (keeps.stores t)))
    (gives_messages _ c.self.inside.pins c.self.invariant.0 t (subst (λ (s : CoreState). IsTenant s.entries t) (sym c.self.view_is) c.requires.is_tenant) (subst (λ s. CanWrite s t) (sym c.self.view_is) can) write.keys op
    (subst (λ s. CanGive s t write.keys op) (sym c.self.view_is) c.requires.can_give)) in
    record {
      keeps = keeps;
      room = record {
        is_tenant = subst (λ entries. IsTenant entries t) (sym keeps.entries) c.requires.is_tenant;
        can_write = can_still_write old new t c.can_write.result (keeps.stores t) c.can_write.ensures (search rules);
        own = c.requires.can_give.own;
        are_messages = messages;
        reserved = subst (IsReserved c.reserve.new.tree) (λ i. writes_of (sym number i) (c.op-op.ensures i) (c.lent-keys.ensures i)) c.in_ok-reserve.ensures.reserved;
        charged = charged_kept old new t write.charge (after_written write) charged (keeps.stores t) (ap (λ (s : CoreState). tenancy_at t s.tenancies) c.self.view_is);
        length = subst (λ (s : Store). IfSome write.length (HaveLength (after_written write s).rows (s.last + 1))) (sym (keeps.stores t)) c.requires.length;
      };
      tenant_is = refl;
      answers = write_done store write.keys op (reply_of c.args.reply) can_is within;
    }
