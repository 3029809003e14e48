use Rattle.std.proofs.Common.{eqb, refl, ap, ◌∙◌}
use Rattle.std.proofs.lemmas.Bool.{cond-true, cond-false, eq-eqb, ne_eqb}
use Rattle.std.specs.Prelude.{IsTrue}
use Rattle.stow_core.specs.Tenancies.{is_among}
use Rattle.stow_core.proofs.Carried.{drop, live_in, given_to, held_before}
use Rattle.stow_ledger.specs.Accounts.{AccountState, IsGivenBy, is_allowed}
use Rattle.stow_core.proofs.RowLengths.{still_lengths}
use Rattle.stow_core.proofs.Core.drop_snapshot.Goals as goal

pub drop_snapshot-number-requires-clause-live : goal.drop_snapshot-number-requires-clause-live
drop_snapshot-number-requires-clause-live g c =
    live_in c.self.inside.tenants.value c.self.inside.tenancies.items c.self.inside.pin_room c.self.inside.tree c.self.inside.pins c.args.self.now c.args.tenant c.index_mut.result.now c.index_mut.result.now c.self.view_is c.self.invariant.0 c.requires.is_tenant c.index_mut.ensures.value c.args.id c.requires.live

pub drop_snapshot-number-requires-clause-given : goal.drop_snapshot-number-requires-clause-given
drop_snapshot-number-requires-clause-given g c =
    given_to c.self.inside.tenants.value c.self.inside.tenancies.items c.self.inside.pin_room c.self.inside.tree c.self.inside.pins c.args.self.now c.args.tenant c.index_mut.result.now c.index_mut.result.now c.self.view_is c.self.invariant.0 c.requires.is_tenant c.index_mut.ensures.value
    (λ (a : AccountState). IsGivenBy a c.args.charge) c.requires.charged.given

pub drop_snapshot-number-requires-clause-allowed : goal.drop_snapshot-number-requires-clause-allowed
drop_snapshot-number-requires-clause-allowed g c =
    given_to c.self.inside.tenants.value c.self.inside.tenancies.items c.self.inside.pin_room c.self.inside.tree c.self.inside.pins c.args.self.now c.args.tenant c.index_mut.result.now c.index_mut.result.now c.self.view_is c.self.invariant.0 c.requires.is_tenant c.index_mut.ensures.value
    (λ (a : AccountState). IsTrue (is_allowed a c.args.charge)) c.requires.charged.allowed

pub invariant_of-self : goal.invariant_of-self
invariant_of-self g c =
    let t = c.args.tenant in
    let held = held_before c.self.inside.tenants.value c.self.inside.tenancies.items c.self.inside.pin_room c.self.inside.tree c.self.inside.pins c.args.self.now t c.index_mut.result.now c.drop_snapshot-number.new.self c.self.view_is c.self.invariant.0 c.requires.is_tenant c.index_mut.ensures.value in
    let carried = drop c.self.inside.tenants.value c.self.inside.tenancies.items c.self.inside.pin_room c.self.inside.tree c.self.inside.pins c.args.self.now t c.index_mut.result.now c.drop_snapshot-number.new.self
    c.self.view_is c.self.invariant.0 c.requires.is_tenant c.index_mut.ensures.value c.remove_pin.new.pins c.args.id c.args.charge
    (λ n. ap (is_among n) (c.remove_pin.ensures t ∙ cond-true (eqb t t) _ _ (eq-eqb t t refl)) ∙ c.drop_snapshot-number.ensures.left _ held n)
    (λ u ne. c.remove_pin.ensures u ∙ cond-false (eqb u t) _ _ (ne_eqb u t ne))
    c.requires.charged c.drop_snapshot-number.ensures.versions c.drop_snapshot-number.ensures.account in
    (carried.keeps, still_lengths _ _ _ c.args.tenant c.remove_pin.new.pins c.self.inside.lengths c.self.view_is _ carried (λ s. refl) (λ s. refl) c.self.invariant.1)

pub returns : goal.returns
returns g c =
    let t = c.args.tenant in
    let held = held_before c.self.inside.tenants.value c.self.inside.tenancies.items c.self.inside.pin_room c.self.inside.tree c.self.inside.pins c.args.self.now t c.index_mut.result.now c.drop_snapshot-number.new.self c.self.view_is c.self.invariant.0 c.requires.is_tenant c.index_mut.ensures.value in
    (drop c.self.inside.tenants.value c.self.inside.tenancies.items c.self.inside.pin_room c.self.inside.tree c.self.inside.pins c.args.self.now t c.index_mut.result.now c.drop_snapshot-number.new.self
    c.self.view_is c.self.invariant.0 c.requires.is_tenant c.index_mut.ensures.value c.remove_pin.new.pins c.args.id c.args.charge
    (λ n. ap (is_among n) (c.remove_pin.ensures t ∙ cond-true (eqb t t) _ _ (eq-eqb t t refl)) ∙ c.drop_snapshot-number.ensures.left _ held n)
    (λ u ne. c.remove_pin.ensures u ∙ cond-false (eqb u t) _ _ (ne_eqb u t ne))
    c.requires.charged c.drop_snapshot-number.ensures.versions c.drop_snapshot-number.ensures.account).moves
