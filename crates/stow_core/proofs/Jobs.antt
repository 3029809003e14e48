-- Jobs of flushes, under the pins that are held and under the numbers of live snapshots, which are the same sets.
use Rattle.std.proofs.Common.{◌≡◌, ◌↔◌, ℕ, ◌≤◌, List, get_or, Option, Some, None}
use Rattle.std.specs.Prelude.{◌⊎◌, Contains, IfOk, IfSome, Result, Ok, Err}
use Rattle.std.proofs.lemmas.List.Elements.{All-contains, Contains-get_or}
use Rattle.stow_core.specs.State.{CoreState, shared_of, IsCore}
use Rattle.stow_core.specs.Flushing.{TakesResultOf, IsPlannedFrom}
use Rattle.stow_core.proofs.Kept.{pins_held}
use Rattle.stow_dropping.specs.StowMerge.Covering.{IsCovered}
use Rattle.stow_dropping.specs.StowMerge.Pins as held
use Rattle.stow_dropping.specs.StowMerge.declared.flush_job.FlushJob.{FlushJob}
use Rattle.stow_dropping.specs.StowMerge.declared.pins.Pins.{Pins}
use Rattle.stow_dropping.specs.StowNode.Installs.{CanInstall}
use Rattle.stow_dropping.specs.StowNode.declared.installed.Installed.{Installed}
use Rattle.stow_dropping.specs.StowNode.declared.installed.Installed.TheVariants as installed
use Rattle.stow_dropping.specs.StowNode.Plans.{IsPlanned}
use Rattle.stow_dropping.specs.StowNode.Subtree.{Subtree}
use Rattle.stow_ledger.specs.StowState.State.{pins_in}
use Rattle.stow_tree_model.specs.Agreement.{TenantPins}
use Rattle.stow_tree_model.specs.Keys.{tenant_of}
use Rattle.stow_versions.proofs.PinLemmas.{same_contains}

-- fewer pins are covered too
fewer_covered : (used present present' : List ℕ) (n : ℕ) → ((p : ℕ) → Contains present' p → Contains present p) → IsCovered used present n → IsCovered used present' n
fewer_covered used present present' n among covered k d lt =
    All-contains (λ pin. Contains used pin ⊎ n ≤ pin) present (get_or present' k d) covered (among (get_or present' k d) (Contains-get_or present' k d lt))

fewer_install : {A : Type 0} (t : Subtree) (job : FlushJob A) (present present' : TenantPins) → ((tenant p : ℕ) → Contains (present' tenant) p → Contains (present tenant) p) → CanInstall t job present → CanInstall t job present'
fewer_install t job present present' among can = record {
  leaf = can.leaf;
  target = can.target;
  inside = can.inside;
  oldest = can.oldest;
  covered = record {
    rows_covered = λ k d lt. let key = (get_or job.page k d).key in
        fewer_covered _ (present (tenant_of key)) (present' (tenant_of key)) _ (among (tenant_of key)) (can.covered.rows_covered k d lt);
    batch_covered = λ k d lt. let key = (get_or job.batch.messages k d).key in
        fewer_covered _ (present (tenant_of key)) (present' (tenant_of key)) _ (among (tenant_of key)) (can.covered.batch_covered k d lt);
  };
}

module _ {A : Type 0} (core : CoreState) (pins : Pins A) (is_core : IsCore core pins) where
  -- the pins that are held say of a job what the numbers of live snapshots say
  pub takes_as_held : {B : Type 0} (job : FlushJob B) → CanInstall core.tree.root job (held.pins_in pins) → TakesResultOf core job
  takes_as_held job can = fewer_install core.tree.root job (held.pins_in pins) (pins_in (shared_of core)) (pins_held core pins is_core) can

  pub held_as_taken : {B : Type 0} (job : FlushJob B) → TakesResultOf core job → CanInstall core.tree.root job (held.pins_in pins)
  held_as_taken job takes = fewer_install core.tree.root job (pins_in (shared_of core)) (held.pins_in pins)
      (λ t p c. same_contains (held.pins_in pins t) (pins_in (shared_of core) t) p (is_core.pins_are t p) c) takes

  pub planned_from : {B : Type 0} (job : FlushJob B) → IsPlanned (held.pins_in pins) core.tree.root job → IsPlannedFrom core job
  planned_from job planned = record { some = planned.some; among = planned.among; can = takes_as_held job planned.can }

  -- what a plan and an install of the tree say of the core
  pub plan_told : {B E : Type 0} (r : Result (Option (FlushJob B)) E) → IfOk r (λ o. IfSome o (IsPlanned (held.pins_in pins) core.tree.root)) → IfOk r (λ o. IfSome o (IsPlannedFrom core))
  plan_told (Ok None) is = is
  plan_told (Ok (Some job)) is = planned_from job is
  plan_told (Err e) is = is

  pub install_told : {B E : Type 0} (r : Result Installed E) (job : FlushJob B) → IfOk r (λ x. x ≡ installed.Stale ↔ ¬ (CanInstall core.tree.root job (held.pins_in pins))) → IfOk r (λ x. x ≡ installed.Stale ↔ ¬ (TakesResultOf core job))
  install_told (Ok x) job is = (λ stale takes. is.0 stale (held_as_taken job takes), λ cannot. is.1 (λ can. cannot (takes_as_held job can)))
  install_told (Err e) job is = is
