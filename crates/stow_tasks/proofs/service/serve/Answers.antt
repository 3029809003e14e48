use Rattle.std.proofs.Common.{◌≡◌, [], ap, inr, sym, ◌∙◌, subst}
use Rattle.std.specs.Arc.{arc_value}
use Rattle.stow_workers.specs.StowCore.State.{CoreState, IsNewCore}
use Rattle.stow_workers.specs.StowHouse.Runs.{IsNewHouse}
use Rattle.stow_workers.specs.StowHouse.Steps.{Stands, state_of}
use Rattle.stow_tasks.proofs.Telling.{ok_holds}
use Rattle.stow_tasks.proofs.Pipes.{of_equal_tenants}
use Rattle.stow_tasks.proofs.service.serve.Goals as goal

pub returns-in-Script-clause-served : goal.returns-in-Script-clause-served
returns-in-Script-clause-served g c =
    let whole : arc_value c.in_ok-tenants.tenants ≡ c.args.tenants = ok_holds _ (λ lent. arc_value lent ≡ c.args.tenants) c.new.result c.in_ok-tenants.tenants c.in_ok-tenants.ensures.cases c.new.ensures.ok in
    let entries = c.in_ok-core.ensures.entries ∙ c.in_ok-clone.ensures.cases ∙ whole in
    let stands = c.new-in-Script.ensures.stands c.in_ok-core.ensures.empty in
    rw c.in-Script.is (inr (state_of c.new-in-Script.result, state_of c.script.new.house, subst (λ es. Stands es (state_of c.new-in-Script.result) []) entries stands, c.script.ensures.scripted))

pub returns-in-Pipe-clause-served : goal.returns-in-Pipe-clause-served
returns-in-Pipe-clause-served g c =
    let whole : arc_value c.in_ok-tenants.tenants ≡ c.args.tenants = ok_holds _ (λ lent. arc_value lent ≡ c.args.tenants) c.new.result c.in_ok-tenants.tenants c.in_ok-tenants.ensures.cases c.new.ensures.ok in
    let entries = c.in_ok-core.ensures.entries ∙ c.in_ok-clone.ensures.cases ∙ whole in
    rw c.in-Pipe.is (inr (c.in_ok-core.core, c.pipe.new.core, c.in_ok-core.ensures.empty, entries, of_equal_tenants _ _ _ _ _ _ _ _ _ (c.deref.ensures ∙ whole) c.pipe.ensures.piped))

pub usage-requires : goal.usage-requires
usage-requires g c = record {
  connections = c.new-in-Usage.ensures.connections;
  flushers = c.new-in-Usage.ensures.flushers;
  stores = subst IsNewCore (sym c.new-in-Usage.ensures.core) c.in_ok-core.ensures.empty;
}

pub returns-clause-served : goal.returns-clause-served
returns-clause-served g c =
    let whole : arc_value c.in_ok-tenants.tenants ≡ c.args.tenants = ok_holds _ (λ lent. arc_value lent ≡ c.args.tenants) c.new.result c.in_ok-tenants.tenants c.in_ok-tenants.ensures.cases c.new.ensures.ok in
    let entries = ap (λ (core : CoreState). core.entries) c.new-in-Usage.ensures.core ∙ c.in_ok-core.ensures.entries ∙ c.in_ok-clone.ensures.cases ∙ whole in
    let is_new : IsNewHouse (state_of c.new-in-Usage.result) = record {
      connections = c.new-in-Usage.ensures.connections;
      flushers = c.new-in-Usage.ensures.flushers;
      stores = subst IsNewCore (sym c.new-in-Usage.ensures.core) c.in_ok-core.ensures.empty;
    } in
    rw c.in-Usage.is (inr (state_of c.new-in-Usage.result, state_of c.usage.new.house, is_new, entries, c.usage.ensures.used))
