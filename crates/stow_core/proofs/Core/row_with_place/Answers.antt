use Rattle.std.proofs.Common.{◌∙◌, subst, sym}
use Rattle.std.proofs.Common.{◌≡◌}
use Rattle.std.specs.Prelude.{IfOk}
use Rattle.std.specs.FinMap as finite
use Rattle.stow_model.specs.Login.{IsTenant}
use Rattle.stow_core.specs.Writes.{row_of}
use Rattle.stow_core.specs.State.{CoreState, rows_in}
use Rattle.stow_core.proofs.Stores.{low_index, row_found, row_short, on_ok}
use Rattle.stow_dropping.specs.StowTree.TreeState.{tree_messages}
use Rattle.stow_tree_model.specs.Keys.{IsTenantKey}
use Rattle.stow_tree_model.proofs.Packed.{IsTenantKey-packed}
use Rattle.stow_core.proofs.Core.row_with_place.Goals as goal

pub from_packed-key-requires : goal.from_packed-key-requires
from_packed-key-requires g c =
    let index = low_index _ c.self.inside.pins c.args.rows.tenant c.self.invariant.0 (subst (λ (s : CoreState). IsTenant s.entries c.args.rows.tenant) (sym c.self.view_is) c.requires.is_tenant) in
    subst IsTenantKey (sym (c.as_slice.ensures.value ∙ c.in_ok-pack_into.ensures)) (IsTenantKey-packed c.args.rows.tenant c.args.key.now index c.requires.short)

pub returns-clause-row : goal.returns-clause-row
returns-clause-row g c =
    subst (λ (s : CoreState). IfOk c.get_with_place.result (λ row. row_of row ≡ finite.get (rows_in s c.args.rows) c.args.key.now)) c.self.view_is
    (row_found c.get_with_place.result (tree_messages c.self.inside.tree) c.args.rows.tenant c.args.rows.number c.args.key.now c.from_packed-key.result.bytes.now
    (c.from_packed-key.ensures ∙ c.as_slice.ensures.value ∙ c.in_ok-pack_into.ensures) c.get_with_place.ensures.value)

pub returns-clause-short : goal.returns-clause-short
returns-clause-short g c = row_short c.get_with_place.result c.get_with_place.ensures.short

pub returns-clause-is_key : goal.returns-clause-is_key
returns-clause-is_key g c =
    let index = low_index _ c.self.inside.pins c.args.rows.tenant c.self.invariant.0 (subst (λ (s : CoreState). IsTenant s.entries c.args.rows.tenant) (sym c.self.view_is) c.requires.is_tenant) in
    on_ok c.get_with_place.result (subst IsTenantKey (sym c.in_ok-pack_into.ensures) (IsTenantKey-packed c.args.rows.tenant c.args.key.now index c.requires.short))
