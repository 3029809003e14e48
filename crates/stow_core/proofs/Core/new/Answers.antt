use Rattle.std.proofs.lemmas.Grind.{common_steps}
use Rattle.std.proofs.Common.{◌≡◌, map, ap, ◌∙◌, arith, refl}
use Rattle.std.specs.Prelude.{Result, Ok, Err}
use Rattle.std.proofs.lemmas.List.{length-map}
use Rattle.stow_core.specs.Tenancies.{new_tenancy, tenancy_of}
use Rattle.stow_core.proofs.Made.{is_new, new_kept}
use Rattle.stow_core.proofs.RowLengths.{new_lengths}
use Rattle.stow_core.proofs.Core.new.Goals as goal

pub returns-clause-empty : goal.returns-clause-empty
returns-clause-empty g c = is_new _ c.new-pins.result (c.in_ok-tenancies.ensures.each ∙ ap (map new_tenancy) c.deref.ensures) c.in_ok-tree.ensures.empty

pub invariant_of-result : goal.invariant_of-result
invariant_of-result g c =
    let long = length-map c.in_ok-tenancies.tenancies.items tenancy_of in
    let few = c.in_ok-tenancies.ensures.few in
    let each = c.in_ok-tenancies.ensures.each ∙ ap (map new_tenancy) c.deref.ensures in (
      new_kept _ c.new-pins.result each c.in_ok-tree.ensures.empty (omega (arith, long, few)) c.new-pins.ensures refl c.in_ok-tree.ensures.sizes,
      new_lengths _ c.in_ok-lengths.lengths (is_new _ c.new-pins.result each c.in_ok-tree.ensures.empty) c.in_ok-lengths.ensures,
    )

pub returns-in_err-tree-clause-entries : goal.returns-in_err-tree-clause-entries
returns-in_err-tree-clause-entries g c = grind (arith, common_steps)

pub returns-in_err-tree-clause-empty : goal.returns-in_err-tree-clause-empty
returns-in_err-tree-clause-empty g c = grind (arith, common_steps)

pub returns-in_err-tree-clause-tree : goal.returns-in_err-tree-clause-tree
returns-in_err-tree-clause-tree g c = grind (arith, common_steps)

-- what was made was not refused
made_not_refused : {X E : Type 0} {x : X} {e : E} → ◌≡◌ {A = Result X E} (Ok x) (Err e) → ⊥
made_not_refused is = cc

pub returns-in_err-held-clause-out_of_range : goal.returns-in_err-held-clause-out_of_range
returns-in_err-held-clause-out_of_range g c = λ no. absurd (made_not_refused (c.in_ok-tree.ensures.out_of_range no))

pub returns-clause-out_of_range : goal.returns-clause-out_of_range
returns-clause-out_of_range g c = λ no. absurd (made_not_refused (c.in_ok-tree.ensures.out_of_range no))
