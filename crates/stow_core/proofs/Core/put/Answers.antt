use Rattle.std.proofs.Common.{◌≡◌, ◌+◌, ◌<◌, ap, sym, ◌∙◌, subst}
use Rattle.std.specs.Prelude.{IsTrue}
use Rattle.stow_bytes.specs.Limits.{number_limit}
use Rattle.stow_core.specs.Prepared.{next_number}
use Rattle.stow_core.specs.State.{CoreState}
use Rattle.stow_core.specs.Writes.{given_op, writes_of, AreMessages}
use Rattle.stow_core.proofs.Carried.{put, last_of, given_to}
use Rattle.stow_ledger.specs.Accounts.{AccountState, IsGivenBy, is_allowed}
use Rattle.stow_dropping.specs.StowTree.Putting.{AreApart, IsReserved}
use Rattle.stow_dropping.specs.StowTree.TreeState.{tree_messages}
use Rattle.stow_tree_model.specs.Messages.{with_all}
use Rattle.stow_core.proofs.RowLengths.{put_lengths}
use Rattle.stow_core.proofs.Core.put.Goals as goal

pub put-requires-clause-messages : goal.put-requires-clause-messages
put-requires-clause-messages g c =
    let last = last_of c.self.inside.tenants.value c.self.inside.tenancies.items c.self.inside.pin_room c.self.inside.tree c.self.inside.pins c.args.self.now c.args.tenant c.index.result.now c.index.result.now c.self.view_is c.self.invariant.0 c.requires.is_tenant c.index.ensures in
    let number : next_number c.args.self.now c.args.tenant ≡ c.last-number.result + 1 = ap (λ n. n + 1) (last ∙ sym c.last-number.ensures.value) in
    subst AreMessages (λ i. writes_of (number i) (sym c.op.ensures i) (sym c.lent.ensures i)) c.requires.are_messages

pub put-requires-clause-room : goal.put-requires-clause-room
put-requires-clause-room g c =
    let last = last_of c.self.inside.tenants.value c.self.inside.tenancies.items c.self.inside.pin_room c.self.inside.tree c.self.inside.pins c.args.self.now c.args.tenant c.index.result.now c.index.result.now c.self.view_is c.self.invariant.0 c.requires.is_tenant c.index.ensures in
    let number : next_number c.args.self.now c.args.tenant ≡ c.last-number.result + 1 = ap (λ n. n + 1) (last ∙ sym c.last-number.ensures.value) in
    subst (IsReserved c.self.inside.tree) (λ i. writes_of (number i) (sym c.op.ensures i) (sym c.lent.ensures i))
    (subst (λ (s : CoreState). IsReserved s.tree (writes_of (next_number c.args.self.now c.args.tenant) (given_op c.args.write.given) c.args.write.keys)) (sym c.self.view_is) c.requires.reserved)

pub write-requires-clause-last : goal.write-requires-clause-last
write-requires-clause-last g c = subst (λ n. n < number_limit)
    (last_of c.self.inside.tenants.value c.self.inside.tenancies.items c.self.inside.pin_room c.self.inside.tree c.self.inside.pins c.args.self.now c.args.tenant c.index_mut.result.now c.index_mut.result.now c.self.view_is c.self.invariant.0 c.requires.is_tenant c.index_mut.ensures.value)
    c.requires.can_write

pub write-requires-clause-given : goal.write-requires-clause-given
write-requires-clause-given g c =
    given_to c.self.inside.tenants.value c.self.inside.tenancies.items c.self.inside.pin_room c.self.inside.tree c.self.inside.pins c.args.self.now c.args.tenant c.index_mut.result.now c.index_mut.result.now c.self.view_is c.self.invariant.0 c.requires.is_tenant c.index_mut.ensures.value
    (λ (a : AccountState). IsGivenBy a c.args.write.charge) c.requires.charged.given

pub write-requires-clause-allowed : goal.write-requires-clause-allowed
write-requires-clause-allowed g c =
    given_to c.self.inside.tenants.value c.self.inside.tenancies.items c.self.inside.pin_room c.self.inside.tree c.self.inside.pins c.args.self.now c.args.tenant c.index_mut.result.now c.index_mut.result.now c.self.view_is c.self.invariant.0 c.requires.is_tenant c.index_mut.ensures.value
    (λ (a : AccountState). IsTrue (is_allowed a c.args.write.charge)) c.requires.charged.allowed

pub invariant_of-self : goal.invariant_of-self
invariant_of-self g c =
    let other = last_of c.self.inside.tenants.value c.self.inside.tenancies.items c.self.inside.pin_room c.self.inside.tree c.self.inside.pins c.args.self.now c.args.tenant c.index.result.now c.index.result.now c.self.view_is c.self.invariant.0 c.requires.is_tenant c.index.ensures in
    let last = last_of c.self.inside.tenants.value c.self.inside.tenancies.items c.self.inside.pin_room c.self.inside.tree c.self.inside.pins c.args.self.now c.args.tenant c.index_mut.result.now c.index_mut.result.now c.self.view_is c.self.invariant.0 c.requires.is_tenant c.index_mut.ensures.value in
    let number = c.last-number.ensures.value ∙ sym other ∙ last in
    let carried = put c.self.inside.tenants.value c.self.inside.tenancies.items c.self.inside.pin_room c.self.inside.tree c.self.inside.pins c.args.self.now c.args.tenant c.index_mut.result.now c.write.new.self
    c.self.view_is c.self.invariant.0 c.requires.is_tenant c.index_mut.ensures.value c.put.new.tree c.args.write.keys (given_op c.args.write.given) c.args.write.charge c.requires.own
    (subst (λ n. AreApart (writes_of n (given_op c.args.write.given) c.args.write.keys)) (ap (λ n. n + 1) last) c.requires.reserved.can.apart)
    c.requires.charged c.write.ensures.versions c.write.ensures.account
    (c.put.ensures.messages ∙ (λ i. with_all (tree_messages c.self.inside.tree) (writes_of (number i + 1) (c.op.ensures i) (c.lent.ensures i)))) c.put.ensures.shape in
    (carried.keeps, put_lengths _ _ _ c.args.tenant c.self.inside.pins c.self.inside.lengths c.self.view_is c.args.write.keys (given_op c.args.write.given) (c.last-number.result + 1) c.args.write.length c.keep.new.self carried (ap (λ n. n + 1) (c.last-number.ensures.value ∙ sym other)) c.requires.length c.keep.ensures c.self.invariant.1)

pub returns : goal.returns
returns g c =
    let other = last_of c.self.inside.tenants.value c.self.inside.tenancies.items c.self.inside.pin_room c.self.inside.tree c.self.inside.pins c.args.self.now c.args.tenant c.index.result.now c.index.result.now c.self.view_is c.self.invariant.0 c.requires.is_tenant c.index.ensures in
    let last = last_of c.self.inside.tenants.value c.self.inside.tenancies.items c.self.inside.pin_room c.self.inside.tree c.self.inside.pins c.args.self.now c.args.tenant c.index_mut.result.now c.index_mut.result.now c.self.view_is c.self.invariant.0 c.requires.is_tenant c.index_mut.ensures.value in
    let number = c.last-number.ensures.value ∙ sym other ∙ last in
    (put c.self.inside.tenants.value c.self.inside.tenancies.items c.self.inside.pin_room c.self.inside.tree c.self.inside.pins c.args.self.now c.args.tenant c.index_mut.result.now c.write.new.self
    c.self.view_is c.self.invariant.0 c.requires.is_tenant c.index_mut.ensures.value c.put.new.tree c.args.write.keys (given_op c.args.write.given) c.args.write.charge c.requires.own
    (subst (λ n. AreApart (writes_of n (given_op c.args.write.given) c.args.write.keys)) (ap (λ n. n + 1) last) c.requires.reserved.can.apart)
    c.requires.charged c.write.ensures.versions c.write.ensures.account
    (c.put.ensures.messages ∙ (λ i. with_all (tree_messages c.self.inside.tree) (writes_of (number i + 1) (c.op.ensures i) (c.lent.ensures i)))) c.put.ensures.shape).moves
