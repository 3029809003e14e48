use Rattle.std.proofs.Common.{◌∙◌, subst, sym}
use Rattle.std.specs.FinMap as finite
use Rattle.stow_core.specs.RowLengths.{IsToldOfRow}
use Rattle.stow_core.specs.State.{CoreState, rows_in}
use Rattle.stow_core.proofs.Glances.{told_row}
use Rattle.stow_core.proofs.Stores.{low_index}
use Rattle.stow_model.specs.Login.{IsTenant}
use Rattle.stow_dropping.specs.StowTree.TreeState.{tree_messages}
use Rattle.stow_tree_model.specs.Keys.{IsTenantKey}
use Rattle.stow_tree_model.proofs.Packed.{IsTenantKey-packed}
use Rattle.stow_core.proofs.Core.glance.Goals as goal

pub from_packed-key-requires : goal.from_packed-key-requires
from_packed-key-requires g c =
    let index = low_index _ c.self.inside.pins c.args.rows.tenant c.self.invariant.0 (subst (λ (s : CoreState). IsTenant s.entries c.args.rows.tenant) (sym c.self.view_is) c.requires.is_tenant) in
    subst IsTenantKey (sym (c.as_slice.ensures.value ∙ c.in_ok-pack_into.ensures)) (IsTenantKey-packed c.args.rows.tenant c.args.key.now index c.requires.short)

pub returns-clause-told : goal.returns-clause-told
returns-clause-told g c =
    subst (λ (s : CoreState). IsToldOfRow (finite.get (rows_in s c.args.rows) c.args.key.now) c.glance.result.newest) c.self.view_is
    (told_row (tree_messages c.self.inside.tree) c.args.rows.tenant c.args.rows.number c.args.key.now c.from_packed-key.result.bytes.now c.glance.result.newest
    (c.from_packed-key.ensures ∙ c.as_slice.ensures.value ∙ c.in_ok-pack_into.ensures) c.glance.ensures)
