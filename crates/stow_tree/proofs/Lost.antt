-- A tree whose root may have lost a message that the next one hid, and in which room was made then.
use Rattle.std.proofs.Common.{◌≡◌, Bool, true, false, refl, ap, ◌∙◌, inl, inr}
use Rattle.std.specs.Prelude.{IsTrue}
use Rattle.stow_flush.specs.Rooms.{RootStands}
use Rattle.stow_flush.specs.StowMessage.MessageBuf.{MessageList}
use Rattle.stow_flush.specs.StowNode.Subtree.{Subtree}
use Rattle.stow_flush.specs.StowNode.Superseded.{EachMeansTheSame, LosesHidden, MayLoseHidden}
use Rattle.stow_tree_model.specs.Agreement.{TenantPins}

pub may_lose : (pins : TenantPins) (s t : Subtree) (did : Bool) → (IsTrue did → LosesHidden pins s t) → (did ≡ false → t ≡ s) → MayLoseHidden pins s t
may_lose pins s t true drops none = inr (drops refl)
may_lose pins s t false drops none = inl (none refl)

-- what such a root keeps
pub record KeepsPlace (s t : Subtree) : Type 0 where
  pub low : t.low ≡ s.low
  pub shape : t.shape ≡ s.shape
  pub capacity : t.buffer.capacity ≡ s.buffer.capacity
  pub width : t.width ≡ s.width
  pub leaves : t.leaves ≡ s.leaves

pub keeps_place : (pins : TenantPins) (s t : Subtree) → MayLoseHidden pins s t → KeepsPlace s t
keeps_place pins s t (inl e) = record {
  low = ap (λ (r : Subtree). r.low) e;
  shape = ap (λ (r : Subtree). r.shape) e;
  capacity = ap (λ (r : Subtree). r.buffer.capacity) e;
  width = ap (λ (r : Subtree). r.width) e;
  leaves = ap (λ (r : Subtree). r.leaves) e;
}
keeps_place pins s t (inr l) = record {
  low = ap (λ (r : Subtree). r.low) l.is;
  shape = ap (λ (r : Subtree). r.shape) l.is;
  capacity = ap (λ (r : Subtree). r.buffer.capacity) l.is ∙ ap (λ (b : MessageList). b.capacity) l.drops.are;
  width = ap (λ (r : Subtree). r.width) l.is;
  leaves = ap (λ (r : Subtree). r.leaves) l.is;
}

pub lost_stands : (pins : TenantPins) (s t : Subtree) → MayLoseHidden pins s t → EachMeansTheSame pins s t → RootStands pins s t
lost_stands pins s t lost means = let k = keeps_place pins s t lost in record { low = k.low; shape = k.shape; capacity = k.capacity; means = means }
