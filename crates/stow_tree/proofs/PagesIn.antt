-- A tree into which a job's result came.
use Rattle.std.proofs.Common.{Result, Ok, Err}
use Rattle.std.specs.Prelude.{IfErr}
use Rattle.stow_flush.specs.Rooms.{RootStands}
use Rattle.stow_flush.specs.StowNode.Flushes.{KeepsRoot}
use Rattle.stow_flush.specs.StowNode.Subtree.{Subtree}
use Rattle.stow_tree_model.specs.Agreement.{TenantPins}

pub root_stands : (pins : TenantPins) (old new : Subtree) → KeepsRoot pins old new → RootStands pins old new
root_stands pins old new k = record { low = k.low; shape = k.shape; capacity = k.capacity; means = k.means }

pub if_err : {T E : Type 0} (r : Result T E) (P Q : E → Type 0) → ((e : E) → P e → Q e) → IfErr r P → IfErr r Q
if_err (Ok x) P Q f p = p
if_err (Err e) P Q f p = f e p
