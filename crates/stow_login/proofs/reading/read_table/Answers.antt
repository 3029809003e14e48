use Rattle.std.proofs.lemmas.Grind.{common_steps}
use Rattle.std.proofs.Common.{◌≡◌, ◌<◌, ◌⊎◌, ⊎_elim, inl, inr, sym, ap, subst, ◌∙◌, length, rules, Err, arith}
use mathlib.Core.Bool.{false≢true}
use Rattle.std.proofs.lemmas.Bool.{eqb-true, eq-eqb}
use Rattle.toml.specs.View.{table_view, items_view}
use Rattle.stow_login.specs.TenantFile.{entries_after, entries_of}
use Rattle.stow_login.specs.declared.tenants_fault.TenantsFault.TheVariants.{OutOfMemory}
use Rattle.stow_login.proofs.Shapes.{count_of_items, limited_out, limited_in, fault_here}
use Rattle.stow_login.proofs.reading.read_table.Goals as goal
use Rattle.stow_login.proofs.reading.read_table.Goals.{then-is_empty-via-then-is_empty, then-is_empty-via-else-is_empty+then-items-gt-TENANT_LIMIT}

pub returns-then-is_empty-clause-err : goal.returns-then-is_empty-clause-err
returns-then-is_empty-clause-err g c =
    let items = c.in_ok-items.items.now in
    inr (limited_out (table_view c.args.table.now) (items_view items) c.in_ok-items.ensures.ok (elim c.then-is_empty.branch [
      | then-is_empty-via-then-is_empty w ↦ inl (count_of_items items ∙ eqb-true (length items) 0 (sym c.is_empty.ensures ∙ w.if-is_empty.true))
      | then-is_empty-via-else-is_empty+then-items-gt-TENANT_LIMIT w ↦ inr (subst (λ n. 65535 < n) (sym (count_of_items items)) w.if-items-gt-TENANT_LIMIT.true)
    ]))

pub loop-item-init : goal.loop-item-init
loop-item-init g c =
    let items = c.in_ok-items.items.now in
    record {
      left = limited_in (table_view c.args.table.now) (items_view items) c.in_ok-items.ensures.ok
          (λ none. false≢true (c.if-is_empty.ensures ∙ eq-eqb (length items) 0 (sym (count_of_items items) ∙ none)))
          (rw (count_of_items items) c.if-items-gt-TENANT_LIMIT.false)
          ∙ ap (λ ts. entries_after ts (items_view items)) (sym c.new-tenants.ensures);
      read = ap length c.new-tenants.ensures;
    }

pub returns-in_err-tenant-clause-err : goal.returns-in_err-tenant-clause-err
returns-in_err-tenant-clause-err g c =
    let fault = c.in_err-tenant.field-0.0 in
    let told : (fault ≡ OutOfMemory) ⊎ (entries_of (table_view c.args.table.now) ≡ Err fault) =
    ⊎_elim inl
    (λ bad. inr (fault_here (table_view c.args.table.now) c.loop-item.tenants c.in_ok-items.items.now c.loop-item.item-index c.item-item.result fault
    c.loop-item.invariant.left c.loop-item-test.true c.item-item.is
    bad))
    c.in_err-tenant.ensures.err in
    search (rules, told)

pub loop-item-preserved : goal.loop-item-preserved
loop-item-preserved g c = grind (arith, common_steps)

pub returns-clause-ok : goal.returns-clause-ok
returns-clause-ok g c = grind (arith, common_steps)
