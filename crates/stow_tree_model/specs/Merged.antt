-- A leaf's rows after a batch, without what no pin shows.
use Rattle.std.specs.Prelude.{◌≡◌, ◌≢◌, ◌⊎◌, ℕ, ◌<◌, ◌≤◌, Bool, true, false, List, [], ◌∷◌, map, reverse, Option, Some, None, IsSome, Contains, if◌then◌else◌, ◌&&◌, ◌||◌, not, nat_lt, nat_le, is_none}
use Rattle.std.specs.Ordering.{eq_by_cmp}
use Rattle.std.specs.List.{list_any}
use Rattle.stow_bytes.specs.Bytes.{bytes_cmp}
use Rattle.stow_tree_model.specs.Keys.{tenant_of}
use Rattle.stow_tree_model.specs.Op.{Op, Put, Gone}
use Rattle.stow_tree_model.specs.TreeMessage.{TreeMessage}
use Rattle.stow_tree_model.specs.Version.{Version}
use Rattle.stow_tree_model.specs.Order.{VersionsRise}
use Rattle.stow_tree_model.specs.Operations.{outcome, value_in, NoneAbove}
use Rattle.stow_tree_model.specs.Messages.{Messages, ops_of, value, with_all, set_of, in_order}
use Rattle.stow_tree_model.specs.Agreement.{TenantPins, TenantBounds, AgreeAt, Agree, IsNewer, IsOver}

-- ---- which versions stay

-- of the key's numbers in the set this is the greatest that is at most the pin
abbrev pub IsGreatestUpTo : Messages → List ℕ → ℕ → ℕ → Type 0
IsGreatestUpTo messages key number pin = (number ≤ pin)
    × ((n : ℕ) → number < n → n ≤ pin → ops_of messages key n ≡ None)

-- kept are the newest of a key, and for each pin of its tenant the greatest at most the pin
abbrev pub IsKept : TenantPins → Messages → List ℕ → ℕ → Type 0
IsKept pins messages key number = IsSome (ops_of messages key number)
    × (NoneAbove number (ops_of messages key)
    ⊎ ((pin : ℕ) × Contains (pins (tenant_of key)) pin × IsGreatestUpTo messages key number pin))

-- the version that the set's value gives at a kept place; of the kept ones of a key the oldest is
-- left out where it is a removal
pub record Stays (pins : TenantPins) (messages : Messages) (v : Version) : Type 0 where
  pub is_kept : IsKept pins messages v.key v.number
  pub is_value : v.value ≡ value_in (value messages v.key v.number)
  pub is_wanted : (v.value ≢ None) ⊎ ((n : ℕ) × (n < v.number) × IsKept pins messages v.key n)

-- ---- the same as a list

-- A history is a list of messages or versions told newest first: it falls by key, and within a key
-- by number.

abbrev pub same_key : List ℕ → List ℕ → Bool
same_key = eq_by_cmp bytes_cmp

-- the newest of the history is of the key
abbrev pub begins_with : List ℕ → List TreeMessage → Bool
begins_with key [] = false
begins_with key (m ∷ _) = same_key key m.key

-- the value of the newest's key
unfoldable pub value_of : List TreeMessage → Option (List ℕ)
value_of [] = None
value_of (m ∷ older) = outcome m.op (if begins_with m.key older then value_of older else None)

-- a pin from one number on and below another
abbrev pub is_pin_within : List ℕ → ℕ → ℕ → Bool
is_pin_within pins from to = list_any (λ p. nat_le from p && nat_lt p to) pins

-- of a message and the next newer one: kept are the newest of a key and what a pin shows
abbrev pub is_kept : TenantPins → Option TreeMessage → TreeMessage → Bool
is_kept pins None m = true
is_kept pins (Some newer) m =
    not (same_key newer.key m.key) || is_pin_within (pins (tenant_of m.key)) m.number newer.number

abbrev pub version_at : TreeMessage → Option (List ℕ) → Version
version_at m value = record { key = m.key; number = m.number; value = value }

-- the versions kept of a history, after the next newer message
unfoldable pub kept : TenantPins → Option TreeMessage → List TreeMessage → List Version
kept pins newer [] = []
kept pins newer (m ∷ older) =
    if is_kept pins newer m then version_at m (value_of (m ∷ older)) ∷ kept pins (Some m) older
    else kept pins (Some m) older

abbrev pub begins_with_version : List ℕ → List Version → Bool
begins_with_version key [] = false
begins_with_version key (v ∷ _) = same_key key v.key

-- of the versions of a key the oldest is left out where it is a removal
unfoldable pub trimmed : List Version → List Version
trimmed [] = []
trimmed (v ∷ older) =
    if is_none v.value && not (begins_with_version v.key older) then trimmed older
    else v ∷ trimmed older

abbrev pub merged_history : TenantPins → List TreeMessage → List Version
merged_history pins history = trimmed (kept pins None history)

-- what stays of a set, in order
abbrev pub pruned : TenantPins → Messages → List Version
pruned pins messages = reverse (merged_history pins (reverse (in_order messages)))

-- ---- rows and a batch

abbrev pub op_of_value : Option (List ℕ) → Op
op_of_value None = Gone
op_of_value (Some value) = Put value

-- the message that a version of a leaf stands for
abbrev pub row_message : Version → TreeMessage
row_message v = record { key = v.key; number = v.number; op = op_of_value v.value }

-- the set of a leaf's rows
abbrev pub rows_set : List Version → Messages
rows_set rows = set_of (map row_message rows)

-- a leaf's rows after a batch under pins
abbrev pub merged : List Version → List TreeMessage → TenantPins → List Version
merged rows batch pins = pruned pins (with_all (rows_set rows) batch)

-- ---- the laws

-- what stays of a set rises, is what stays and nothing else, and is the only such list
pub record IsPruning (pins : TenantPins) (messages : Messages)
    (versions : List Version) : Type 0 where
  pub rises : VersionsRise versions
  pub only_these : (v : Version) → Contains versions v → Stays pins messages v
  pub all_these : (v : Version) → Stays pins messages v → Contains versions v

abbrev pub PrunedExactly : Type 0
PrunedExactly = (pins : TenantPins) (messages : Messages) (versions : List Version)
    → IsPruning pins messages (pruned pins messages)
    × (IsPruning pins messages versions → versions ≡ pruned pins messages)

-- what stays of a leaf means the same at each pin, and from the newest on
abbrev pub PrunedAgrees : Type 0
PrunedAgrees = (pins : TenantPins) (leaf : Messages) (key : List ℕ) (top : ℕ)
    → NoneAbove top (ops_of leaf key)
    → AgreeAt (ops_of leaf key) (ops_of (rows_set (pruned pins leaf)) key)
    (pins (tenant_of key)) top

-- a merge of a leaf below newer messages agrees
abbrev pub MergeAgrees : Type 0
MergeAgrees = (pins : TenantPins) (m n newer leaf : Messages) (bound : TenantBounds)
    → IsNewer newer leaf bound → IsOver m newer leaf → IsOver n newer (rows_set (pruned pins leaf))
    → Agree m n pins bound
