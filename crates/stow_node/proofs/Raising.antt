-- A root that becomes higher, as a job's pages came below it.
use Rattle.std.proofs.Common.{◌≡◌, ℕ, ◌+◌, ◌<◌, ◌≤◌, true, List, [], ◌∷◌, ◌++◌, length, refl, sym, ap, ◌∙◌, subst, arith}
use Rattle.stow_leaves.specs.StowLeaf.Intervals.{top_key, spans}
use Rattle.stow_leaves.specs.StowLeafCache.Cache.{Cache}
use Rattle.stow_leaves.specs.Forgets.{Forgets}
use Rattle.stow_leaves.specs.StowMerge.declared.flush_job.FlushJob.{FlushJob}
use Rattle.stow_tree_model.specs.Agreement.{TenantPins}
use Rattle.stow_tree_model.specs.Keys.{tenant_of}
use Rattle.stow_tree_model.specs.Messages.{ops_in}
use Rattle.stow_leaves.proofs.StowLeaf.Found.{none_unless, none_some}
use Rattle.stow_leaves.proofs.StowLeaf.Over.{same_itself}
use Rattle.stow_node.specs.declared.child.Child.{Child}
use Rattle.stow_node.specs.declared.child.Child.TheVariants as in_child
use Rattle.stow_node.specs.declared.room.Room.{Room}
use Rattle.stow_node.specs.declared.shape.Shape.{Shape}
use Rattle.stow_node.specs.Flushes.{KeepsRoot}
use Rattle.stow_node.specs.Installs.{next_fence, AreGone, BatchIsGone, CanComeIn, CanInstall, CoversAll}
use Rattle.stow_node.specs.Nodes.{leaves_of, nearest_in, node_part, AreAmong}
use Rattle.stow_node.specs.Parts.{IsTile}
use Rattle.stow_node.specs.Regroups.{AreBehind, StandAsOne, StepsAsOne, ForgetsCame}
use Rattle.stow_node.specs.Rooms.{HasRoom}
use Rattle.stow_node.specs.Subtree.{Subtree, messages_of}
use Rattle.stow_node.proofs.Installable.{fence_held, next_at_most, none_wider}
use Rattle.stow_node.proofs.Nearest.{none_alone}
use Rattle.stow_node.proofs.Planned.{keys_of_child}
use Rattle.stow_node.proofs.Rising.{stands_alone, alone_forgets}

-- how far the code is: some nodes stand behind the root, under all pins that the job covers
pub record IsRaising {A : Type 0} (job : FlushJob A) (old now : Subtree) (room : Room A) (cache cache' : Cache) : Type 0 where
  pub can : CanComeIn old job
  pub stands : (pins : TenantPins) → CoversAll job pins → StandAsOne pins old now room.came.items
  pub tile : IsTile (node_part old) top_key
  pub has_room : HasRoom now.shape [] room
  pub fan_out : 4 ≤ now.shape.fan_out
  pub counted : now.height + length room.came.items ≤ 9223372041149743104
  pub forgets : ForgetsCame old now room.came.items cache cache'
  pub gone : AreGone job.batch.messages (nearest_in (in_child.Node now ∷ room.came.items))

pub raising_begins : {A : Type 0} (job : FlushJob A) (old now : Subtree) (room : Room A) (cache cache' : Cache) → CanComeIn old job → IsTile (node_part old) top_key → old.height ≤ 9223372036854775808 → 4 ≤ old.shape.fan_out → ((pins : TenantPins) → CoversAll job pins → StepsAsOne pins old now room.came.items) → HasRoom old.shape [] room → ForgetsCame old now room.came.items cache cache'
    → AreGone job.batch.messages (nearest_in (in_child.Node now ∷ room.came.items)) → IsRaising job old now room cache cache'
raising_begins job old now room cache cache' can tile low fan s r f gone = record {
  can = can;
  stands = λ pins covers. (s pins covers).stands;
  tile = tile;
  has_room = subst (λ (h : Shape). HasRoom h [] room) (sym one.stands.shape) r;
  fan_out = subst (λ (h : Shape). 4 ≤ h.fan_out) (sym one.stands.shape) fan;
  counted = let h = one.height in let c = one.counted in omega (arith, h, c, low);
  forgets = f;
  gone = gone;
}
  where
    one : StepsAsOne can.pins old now room.came.items
    one = s can.pins can.can.covered

pub raising_behind : {A : Type 0} (job : FlushJob A) (old now : Subtree) (room : Room A) (cache cache' : Cache) → IsRaising job old now room cache cache' → AreBehind now room.came.items
raising_behind job old now room cache cache' i = record { pins = i.can.pins; old = old; tile = i.tile; stands = i.stands i.can.pins i.can.can.covered }

pub raising_next : {A : Type 0} (job : FlushJob A) (old now new : Subtree) (room room' : Room A) (cache cache' : Cache) → IsRaising job old now room cache cache' → ((pins : TenantPins) (x : Subtree) → StandAsOne pins x now room.came.items → StandAsOne pins x new room'.came.items) → HasRoom now.shape [] room' → length room'.came.items < length room.came.items → new.height ≡ now.height + 1
    → new.leaves ++ leaves_of room'.came.items ≡ now.leaves ++ leaves_of room.came.items → AreAmong (nearest_in (in_child.Node new ∷ room'.came.items)) (nearest_in (in_child.Node now ∷ room.came.items)) → IsRaising job old new room' cache cache'
raising_next {A} job old now new room room' cache cache' i rises r fewer higher leaves nearest = record {
  can = i.can;
  stands = λ pins covers. rises pins old (i.stands pins covers);
  tile = i.tile;
  has_room = subst (λ (h : Shape). HasRoom h [] room') shape r;
  fan_out = subst (λ (h : Shape). 4 ≤ h.fan_out) shape i.fan_out;
  counted = let c = i.counted in omega (arith, c, fewer, higher);
  forgets = subst (λ ls. Forgets old.leaves ls cache cache') (sym leaves) i.forgets;
  gone = λ key n s. none_unless (ops_in (nearest_in (in_child.Node new ∷ room'.came.items)) key n) (λ t. none_some (ops_in (nearest_in (in_child.Node now ∷ room.came.items)) key n) (i.gone key n s) (nearest key n t));
}
  where
    before : StandAsOne i.can.pins old now room.came.items
    before = i.stands i.can.pins i.can.can.covered

    shape : now.shape ≡ new.shape
    shape = before.shape ∙ sym (rises i.can.pins old before).shape

pub raising_keeps : {A : Type 0} (job : FlushJob A) (old now : Subtree) (room : Room A) (cache cache' : Cache) → IsRaising job old now room cache cache' → length room.came.items ≡ 0 → (pins : TenantPins) → CoversAll job pins → KeepsRoot pins old now
raising_keeps job old now room cache cache' i none pins covers = stands_alone pins old now room.came.items i.tile (i.stands pins covers) none

pub raising_forgets : {A : Type 0} (job : FlushJob A) (old now : Subtree) (room : Room A) (cache cache' : Cache) → IsRaising job old now room cache cache' → length room.came.items ≡ 0 → Forgets old.leaves now.leaves cache cache'
raising_forgets job old now room cache cache' i none = alone_forgets old now room.came.items cache cache' i.forgets none

no_nodes : {A : Type 0} (came : List (Child A)) → length came ≡ 0 → came ≡ []
no_nodes [] l = refl
no_nodes (c ∷ came) l = absurd (omega arith)

-- in the end no message of the batch is left
pub raising_gone : {A : Type 0} (job : FlushJob A) (old now : Subtree) (room : Room A) (cache cache' : Cache) → IsRaising job old now room cache cache' → length room.came.items ≡ 0 → BatchIsGone job.batch.messages now
raising_gone {A} job old now room cache cache' i none key n s = none_alone A now key n own (ap (λ (l : List (Child A)). ops_in (nearest_in (in_child.Node now ∷ l)) key n) (sym (no_nodes room.came.items none)) ∙ i.gone key n s) where
  fence : List ℕ
  fence = job.target.low_fence

  can : CanInstall old job i.can.pins
  can = i.can.can

  own : spans now.low top_key key ≡ true
  own = ap (λ l. spans l top_key key) (stands_alone i.can.pins old now room.came.items i.tile (i.stands i.can.pins can.covered) none).low
      ∙ keys_of_child old.low fence top_key key job.batch.messages n (fence_held old (fence, job.page) i.tile can.leaf)
      (none_wider fence (next_fence top_key old.leaves fence) top_key job.batch.messages (next_at_most old.low top_key fence old.leaves i.tile.fences) can.inside) s

-- a root that is as it was keeps what it means
pub root_stays : (pins : TenantPins) (x y : Subtree) → y ≡ x → x.width ≤ x.shape.fan_out → KeepsRoot pins x y
root_stays pins x y e few = subst (KeepsRoot pins x) (sym e) (record {
  low = refl;
  shape = refl;
  capacity = refl;
  few = few;
  means = λ key. same_itself (pins (tenant_of key)) (ops_in (messages_of x) key);
})
