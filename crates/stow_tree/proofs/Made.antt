-- A tree as it is made, and as room is made in it.
use Rattle.std.proofs.Common.{◌≡◌, ℕ, ◌≤◌, List, [], refl, ap, ◌∙◌, sym, subst, arith, Result, Ok, Err, OnOk}
use Rattle.std.specs.Prelude.{Contains}
use Rattle.std.specs.FinMap as finite
use Rattle.stow_flush.specs.StowLeaf.Replacements.{HasShortValues}
use Rattle.stow_flush.specs.StowLeafCache.Cache.{Cache}
use Rattle.stow_flush.specs.StowLeaves.Forgets.{Forgets}
use Rattle.stow_flush.specs.StowNode.Subtree.{Subtree, messages_of, first_subtree}
use Rattle.stow_flush.specs.StowNode.declared.shape.Shape.{Shape}
use Rattle.stow_flush.proofs.StowLeaf.Over.{nothing_short}
use Rattle.stow_flush.specs.Rooms.{BytesFit, RootStands}
use Rattle.stow_raw.specs.RawBuf.{RawLists, raw_lists}
use Rattle.stow_tree_model.specs.Agreement.{TenantPins}
use Rattle.stow_tree_model.specs.Messages.{ops_in, set_of}
use Rattle.stow_tree_model.specs.TreeMessage.{TreeMessage}
use Rattle.stow_tree_model.proofs.Pruning.{none_in_nothing}
use Rattle.stow_tree.specs.declared.tree.Tree.TheInside.{Inside}
use Rattle.stow_tree.specs.declared.tree_shape.TreeShape.{TreeShape}
use Rattle.stow_tree.specs.Putting.{CanReserve, IsReserved, bytes_of}
use Rattle.stow_tree.specs.Shapes.{AreInRange, IsInRange, nodes_of}
use Rattle.stow_tree.specs.TreeState.{TreeState, IsTree, tree_messages, AgreeUnder}
use Rattle.stow_tree.proofs.Held.{forgets_held}
use Rattle.stow_tree.proofs.Putting.{state_of}
use Rattle.stow_tree.proofs.Sets.{agree_under, reserved}

pub new_is_tree : {A : Type 0} (new : Inside A) (shape : TreeShape) (nodes : Shape) → IsInRange shape → nodes ≡ nodes_of shape → new.root ≡ first_subtree nodes → new.spare ≡ raw_lists [] [] shape.buffer → new.cache ≡ record { leaves = []; limit = shape.cache } → IsTree new
new_is_tree new shape nodes in_range is root spare cache = record {
  sizes = subst AreInRange (sym (ap (λ (t : Subtree). t.shape) whole)) in_range.nodes;
  low = ap (λ (t : Subtree). t.low) whole;
  few = subst (λ (t : Subtree). t.width ≤ t.shape.fan_out) (sym whole) (let f = in_range.nodes.fan_out.0 in omega (arith, f));
  root_block = subst (λ (t : Subtree). t.buffer.capacity ≡ t.shape.buffer) (sym whole) refl;
  block =
      let a = ap (λ (t : Subtree). t.buffer.capacity) whole in
      let b = ap (λ (r : RawLists). r.capacity) spare in
      omega (arith, a, b);
  short = λ key. subst (λ (t : Subtree). HasShort t key) (sym whole) (nothing_short (ops_in [] key) (λ k. refl));
  held = λ leaf c. absurd (none_in_nothing leaf (subst (λ (x : Cache). Contains x.leaves leaf) cache c));
}
  where
    whole : new.root ≡ first_subtree (nodes_of shape)
    whole = root ∙ ap first_subtree is

    HasShort : Subtree → List ℕ → Type 0
    HasShort t key = HasShortValues (ops_in (messages_of t) key)

pub new_is_empty : (t : TreeState) (shape : Shape) → t.root ≡ first_subtree shape → tree_messages t ≡ finite.empty
unfolding tree_messages
new_is_empty t shape e = ap (λ r. set_of (messages_of r)) e

-- room was made
pub room_kept : {A : Type 0} (old new : Inside A) (pins : TenantPins) → IsTree old → RootStands pins old.root new.root → Forgets old.root.leaves new.root.leaves old.cache new.cache → new.spare.capacity ≡ old.spare.capacity → new.root.width ≤ new.root.shape.fan_out → IsTree new
room_kept old new pins tree stands forgets spare few = record {
  sizes = subst AreInRange (sym stands.shape) tree.sizes;
  low = stands.low ∙ tree.low;
  few = few;
  root_block = stands.capacity ∙ tree.root_block ∙ sym (ap (λ (s : Shape). s.buffer) stands.shape);
  block =
      let a = stands.capacity in
      let b = tree.block in
      omega (arith, a, b, spare);
  short = λ key. (stands.means key).short (tree.short key);
  held = forgets_held old.root.leaves new.root.leaves old.cache new.cache tree.held forgets;
}

pub room_reserved : {A T E : Type 0} (r : Result T E) (old : TreeState) (before after : Inside A) (pins : TenantPins) (bytes : ℕ) (ms : List TreeMessage) → state_of before ≡ old → CanReserve old ms → bytes ≡ bytes_of ms → RootStands pins before.root after.root → OnOk r (BytesFit bytes after.root) → OnOk r (IsReserved (state_of after) ms)
room_reserved (Ok x) old before after pins bytes ms is can total stands room =
    reserved pins (state_of before) (state_of after) ms stands (subst (λ t. CanReserve t ms) (sym is) can) (subst (λ n. BytesFit n after.root) total room)
room_reserved (Err e) old before after pins bytes ms is can total stands room = room

pub room_agrees : {A : Type 0} (old : TreeState) (before after : Inside A) (pins : TenantPins) → state_of before ≡ old → RootStands pins before.root after.root → AgreeUnder pins (tree_messages old) (tree_messages (state_of after))
room_agrees old before after pins is stands = subst (λ t. AgreeUnder pins (tree_messages t) (tree_messages (state_of after))) is (agree_under pins (state_of before) (state_of after) stands)
