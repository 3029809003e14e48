use Rattle.std.proofs.Common.{◌≡◌, true, sym, ◌∙◌, subst}
use Rattle.std.specs.Prelude.{Contains}
use Rattle.stow_core.specs.State.{CoreState}
use Rattle.stow_core.specs.Tenancies.{is_among}
use Rattle.stow_core.proofs.Answered.{if_all_ok}
use Rattle.stow_core.proofs.Drops.{walked, present_free, second_free, number_at, some_at}
use Rattle.stow_core.proofs.Stores.{index_of, tight_index}
use Rattle.stow_dropping.specs.Dropping.{IsChargeWithout}
use Rattle.stow_model.specs.Login.{IsTenant}
use Rattle.stow_dropping.specs.StowTree.TreeState.{tree_messages}
use Rattle.stow_versions.proofs.PinLemmas.{contains_from}
use Rattle.stow_core.proofs.Core.charge_of_drop.Goals as goal

pub numbers_without-requires : goal.numbers_without-requires
numbers_without-requires g c = some_at c.args.self.now c.args.rows.tenant c.args.id c.args.rows.number c.tenancy-tenancy.result.now c.tenancy-tenancy.ensures.own c.requires.shows

pub returns-then-rows-last : goal.returns-then-rows-last
returns-then-rows-last g c =
    let t = c.args.rows.tenant in
    let index = index_of _ c.self.inside.pins t c.self.invariant.0 (subst (λ (s : CoreState). IsTenant s.entries t) (sym c.self.view_is) c.requires.is_tenant) in
    present_free c.args.self.now t c.args.id c.args.rows.number c.tenancy-tenancy.result.now c.tenancy-tenancy.ensures.own c.tenancy-tenancy.ensures.sound c.tenancy-tenancy.ensures.account index
    (number_at c.args.self.now t c.args.id c.args.rows.number c.tenancy-tenancy.result.now c.tenancy-tenancy.ensures.own c.requires.shows)
    c.present.result c.present.ensures.present c.present.ensures.given (c.if-rows-last.true ∙ c.last.ensures.value)

pub returns-then-contains : goal.returns-then-contains
returns-then-contains g c =
    let t = c.args.rows.tenant in
    let index = index_of _ c.self.inside.pins t c.self.invariant.0 (subst (λ (s : CoreState). IsTenant s.entries t) (sym c.self.view_is) c.requires.is_tenant) in
    let there : is_among c.args.rows.number c.as_slice.result.now ≡ true = sym c.contains.ensures.value ∙ c.if-contains.true in
    second_free c.args.self.now t c.args.id c.args.rows.number c.tenancy-tenancy.result.now c.tenancy-tenancy.ensures.own c.tenancy-tenancy.ensures.sound c.tenancy-tenancy.ensures.account index
    (number_at c.args.self.now t c.args.id c.args.rows.number c.tenancy-tenancy.result.now c.tenancy-tenancy.ensures.own c.requires.shows)
    c.present-then-contains.result c.present-then-contains.ensures.present c.present-then-contains.ensures.given
    (subst (λ ns. Contains ns c.args.rows.number) (c.as_slice.ensures.value ∙ c.in_ok-left.ensures) (contains_from c.args.rows.number c.as_slice.result.now there))

pub charge_of_drop-requires : goal.charge_of_drop-requires
charge_of_drop-requires g c =
    let t = c.args.rows.tenant in
    record { index = tight_index _ c.self.inside.pins t c.self.invariant.0 (subst (λ (s : CoreState). IsTenant s.entries t) (sym c.self.view_is) c.requires.is_tenant) }

pub returns : goal.returns
returns g c =
    let t = c.args.rows.tenant in
    let index = index_of _ c.self.inside.pins t c.self.invariant.0 (subst (λ (s : CoreState). IsTenant s.entries t) (sym c.self.view_is) c.requires.is_tenant) in
    if_all_ok c.charge_of_drop.result _ _ _ _ (λ charge given lower charged.
    walked c.args.self.now t c.args.id c.args.rows.number c.tenancy-tenancy.result.now c.tenancy-tenancy.ensures.own c.tenancy-tenancy.ensures.sound c.tenancy-tenancy.ensures.account index
    (number_at c.args.self.now t c.args.id c.args.rows.number c.tenancy-tenancy.result.now c.tenancy-tenancy.ensures.own c.requires.shows)
    charge c.as_slice-2.result.now (c.as_slice-2.ensures.value ∙ c.in_ok-left.ensures)
    (subst (λ (s : CoreState). IsChargeWithout (tree_messages s.tree) t c.args.rows.number c.tenancy-tenancy.result.now.account c.as_slice-2.result.now charge) c.self.view_is charged) given lower)
    c.charge_of_drop.ensures.given c.charge_of_drop.ensures.lower c.charge_of_drop.ensures.charged
