-- What comes in a leaf's place, with messages for it merged.
use Rattle.std.specs.Prelude.{◌≡◌, ◌≢◌, ◌⊎◌, ℕ, ◌<◌, ◌≤◌, List, [], length, map, true, IsSome}
use Rattle.std.specs.List.{AllByRecursion}
use Rattle.stow_merge.specs.Covering.{Covers}
use Rattle.stow_merge.specs.Pages.{HaveOneKey, HaveShortValues}
use Rattle.stow_merge.specs.Pins.{pins_in}
use Rattle.stow_merge.specs.declared.flush_job.FlushJob.{FlushJob}
use Rattle.stow_merge.specs.StowMessage.Rising.{in_range}
use Rattle.stow_merge.specs.StowPage.Format.{packed_page}
use Rattle.stow_merge.specs.StowTreeModel.Agreement.{TenantPins, AgreeAt}
use Rattle.stow_merge.specs.StowTreeModel.Keys.{tenant_of}
use Rattle.stow_merge.specs.StowTreeModel.Merged.{row_message, merged}
use Rattle.stow_merge.specs.StowTreeModel.Messages.{ops_in}
use Rattle.stow_merge.specs.StowTreeModel.Operations.{Operations, over, latest, value_in, NoneAbove}
use Rattle.stow_merge.specs.StowTreeModel.TreeMessage.{TreeMessage}
use Rattle.stow_merge.specs.StowTreeModel.Value.{IsValue}
use Rattle.stow_merge.specs.StowTreeModel.Version.{Version}
use Rattle.stow_leaf.specs.Intervals.{spans, NoneOutside}
use Rattle.stow_leaf.specs.LeafRows.{LeafRows, row_messages, first_fence, IsLeafTile, LeavesTo}

-- a page above the target holds one key
abbrev pub IsLeafSize : ℕ → List Version → Type 0
IsLeafSize target rows = target < length (packed_page rows) → HaveOneKey rows

-- operations on a key give way to others that mean the same at each pin, and from the newest on
abbrev pub GiveWay : List ℕ → Operations → Operations → Type 0
GiveWay pins f g = (bound : ℕ) → NoneAbove bound f → AgreeAt f g pins bound

-- some operation is there
abbrev pub AreThere : Operations → Type 0
AreThere f = (n : ℕ) × IsSome (f n)

-- the key has a value within the limit at each number, or none
abbrev pub HasShortValues : Operations → Type 0
HasShortValues f = (n : ℕ) → IsValue (value_in (latest f n))

-- operations on a key mean the same as others under the pins, and bring no longer values
pub record MeanTheSame (pins : List ℕ) (f g : Operations) : Type 0 where
  pub way : GiveWay pins f g
  pub short : HasShortValues f → HasShortValues g
  pub there : AreThere g → AreThere f

-- what messages and a leaf's rows below them have of a key
abbrev pub ops_with : List TreeMessage → List Version → List ℕ → Operations
ops_with ms rows key = over (ops_in ms key) (ops_in (map row_message rows) key)

-- the messages can be merged into the leaf
pub record CanTake (leaf : LeafRows) (high : List ℕ) (batch : List TreeMessage)
    (pins : TenantPins) (target : ℕ) : Type 0 where
  pub tile : IsLeafTile leaf high
  pub size : IsLeafSize target leaf.1
  pub within : NoneOutside leaf.0 high batch
  pub short : HaveShortValues (merged leaf.1 batch pins)
  pub some : batch ≢ []

-- the messages that are for the leaf can be merged into it
abbrev pub CanReplace : LeafRows → List ℕ → List TreeMessage → TenantPins → ℕ → Type 0
CanReplace leaf high ms pins target = CanTake leaf high (in_range leaf.0 high ms) pins target

-- the leaf's fence, or a key that has operations
abbrev pub IsFence : LeafRows → List TreeMessage → List ℕ → Type 0
IsFence leaf ms fence = (fence ≡ leaf.0) ⊎ AreThere (ops_with ms leaf.1 fence)

-- Leaves in the place of one, with the messages for it merged: each of its keys means the same
-- under the pins.
pub record TakePlace (leaf : LeafRows) (high : List ℕ) (ms : List TreeMessage)
    (pins : TenantPins) (target : ℕ) (leaves : List LeafRows) : Type 0 where
  pub tiled : LeavesTo high leaves
  pub first : first_fence high leaves ≡ leaf.0
  pub sizes : AllByRecursion (λ l. IsLeafSize target l.1) leaves
  pub agrees : (key : List ℕ) → spans leaf.0 high key ≡ true
      → GiveWay (pins (tenant_of key)) (ops_with ms leaf.1 key) (ops_in (row_messages leaves) key)
  pub short : (key : List ℕ) → spans leaf.0 high key ≡ true
      → HasShortValues (ops_with ms leaf.1 key) → HasShortValues (ops_in (row_messages leaves) key)
  -- no other keys come in
  pub fences : AllByRecursion (λ l. IsFence leaf ms l.0) leaves
  pub keys : (key : List ℕ) → AreThere (ops_in (row_messages leaves) key)
      → AreThere (ops_with ms leaf.1 key)

-- and they are no more than one where all that stays fits the target
pub record IsReplacement (leaf : LeafRows) (high : List ℕ) (ms : List TreeMessage)
    (pins : TenantPins) (target : ℕ) (leaves : List LeafRows) : Type 0 where
  pub place : TakePlace leaf high ms pins target leaves
  pub one : length (packed_page (merged leaf.1 (in_range leaf.0 high ms) pins)) ≤ target
      → length leaves ≡ 1

-- A job of the leaf's rows, with messages for it alone: under the present pins its merge keeps all
-- that they show.
pub record IsJobOf {A : Type 0} (leaf : LeafRows) (high : List ℕ) (present : TenantPins)
    (job : FlushJob A) : Type 0 where
  pub page : job.page ≡ leaf.1
  pub tile : IsLeafTile leaf high
  pub within : NoneOutside leaf.0 high job.batch.messages
  pub covers : Covers (pins_in job.pins) present leaf.1 job.batch.messages
