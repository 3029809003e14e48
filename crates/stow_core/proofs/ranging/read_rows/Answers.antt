use Rattle.std.proofs.Common.{◌∙◌, subst, sym, map, arith}
use Rattle.stow_core.proofs.Within.{told_range}
use Rattle.stow_dropping.specs.StowRead.Range.{key_value, IsRange}
use Rattle.stow_tree_model.specs.Messages.{ops_of}
use Rattle.stow_dropping.specs.StowTree.TreeState.{tree_messages}
use Rattle.stow_tree_model.specs.Keys.{IsTenantKey}
use Rattle.stow_tree_model.proofs.Packed.{IsTenantKey-packed}
use Rattle.stow_core.proofs.ranging.read_rows.Goals as goal

pub from_packed-from-requires : goal.from_packed-from-requires
from_packed-from-requires g c =
    let i = c.args.interval in
    let index = c.requires.index in
    subst IsTenantKey (sym (c.as_slice.ensures.value ∙ c.in_ok-pack_into.ensures)) (IsTenantKey-packed i.tenant i.from.now (omega (arith, index)) c.requires.from)

pub returns : goal.returns
returns g c =
    let i = c.args.interval in
    told_range (tree_messages c.args.tree.now) i.tenant c.args.at c.args.count i.from.now i.to.now c.in_ok-items.items c.from_packed-from.result.bytes.now c.as_key.result.bytes.now (map key_value c.as_slice-2.result.now) c.requires.index
    (c.from_packed-from.ensures ∙ c.as_slice.ensures.value ∙ c.in_ok-pack_into.ensures) (c.as_key.ensures ∙ c.in_ok-to.ensures) (subst (λ rows. IsRange (ops_of (tree_messages c.args.tree.now)) c.from_packed-from.result.bytes.now c.as_key.result.bytes.now c.args.at c.args.count (map key_value rows)) (sym c.as_slice-2.ensures.value) c.in_ok-rows.ensures) c.in_ok-items.ensures.items c.in_ok-items.ensures.keys
