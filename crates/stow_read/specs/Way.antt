-- The way down to a leaf.
use Rattle.std.specs.Prelude.{◌≡◌, ◌⊎◌, ℕ, List, [], ◌∷◌, map, cond, Bool, true, false, Option, Some, None}
use Rattle.std.specs.Ordering.{is_lt}
use Rattle.std.specs.Option.{option_map}
use Rattle.std.specs.List.{AllByRecursion}
use Rattle.stow_bytes.specs.Bytes.{bytes_cmp}
use Rattle.stow_node.specs.StowLeaf.Intervals.{spans}
use Rattle.stow_node.specs.StowMessage.MessageBuf.{MessageList}
use Rattle.stow_node.specs.Subtree.{Subtree, messages_of}
use Rattle.stow_tree_model.specs.Merged.{row_message, same_key}
use Rattle.stow_tree_model.specs.Messages.{ops_in}
use Rattle.stow_tree_model.specs.Operations.{Operations, over}
use Rattle.stow_read.specs.NextKey.{IsNextKey}
use Rattle.stow_read.specs.Suffixes.{IsAbove}
use Rattle.stow_read.specs.declared.level.Level.{Level}
use Rattle.stow_read.specs.declared.way.Way.{Way}
use Rattle.stow_tree_model.specs.declared.tenant_key.TenantKey.{TenantKey}

-- ---- the next key

abbrev pub key_in : Option TenantKey → Option (List ℕ)
key_in key = option_map (λ k. k.bytes.now) key

abbrev pub is_next : Option (List ℕ) → List ℕ → Bool
is_next None key = false
is_next (Some next) key = same_key next key

abbrev pub lower_key : List ℕ → List ℕ → List ℕ
lower_key key other = cond (is_lt (bytes_cmp other key)) other key

abbrev pub lower_next : Option (List ℕ) → Option (List ℕ) → Option (List ℕ)
lower_next None other = other
lower_next (Some key) None = Some key
lower_next (Some key) (Some other) = Some (lower_key key other)

abbrev pub least_of : {A : Type 0} → List (Level A) → Option (List ℕ) → Option (List ℕ)
least_of [] row = row
least_of (level ∷ lower) row = lower_next (key_in level.next) (least_of lower row)

-- each level's next key is the lowest of the interval that has messages in its buffer
abbrev pub AreNext : {A : Type 0} → List ℕ → Bool → List ℕ → List (Level A) → Type 0
AreNext start after to levels = AllByRecursion (λ level.
    IsNextKey (ops_in level.buffer.now.messages) start after to (key_in level.next)) levels

-- ---- what stands on the way

abbrev pub buffers_of : {A : Type 0} → List (Level A) → List MessageList
buffers_of levels = map (λ level. level.buffer.now) levels

-- the operations on a key in the buffers from the top on, over those below them
abbrev pub ops_down : List ℕ → List MessageList → Operations → Operations
ops_down key [] below = below
ops_down key (buffer ∷ lower) below = over (ops_in buffer.messages key) (ops_down key lower below)

-- each buffer's operations on the key are newer than those below it
abbrev pub NewerDown : List ℕ → List MessageList → Operations → Type 0
NewerDown key [] below = Unit {0}
NewerDown key (buffer ∷ lower) below =
    IsAbove (ops_in buffer.messages key) (ops_down key lower below) × NewerDown key lower below

-- the buffers, and what is below them, have all that a node has of the key
pub record HaveAll (t : Subtree) (key : List ℕ) (buffers : List MessageList)
    (below : Operations) : Type 0 where
  pub messages : (n : ℕ) → ops_in (messages_of t) key n ≡ ops_down key buffers below n
  pub newer : NewerDown key buffers below

abbrev pub row_ops : {A : Type 0} → Way A → List ℕ → Operations
row_ops way = ops_in (map row_message way.rows.now)

abbrev pub way_ops : {A : Type 0} → Way A → List ℕ → Operations
way_ops way key = ops_down key (buffers_of way.levels.items) (row_ops way key)

-- ---- where a range stands

-- the two have the same parts, up to the same end
pub record IsSameWay {A : Type 0} (old new : Way A) : Type 0 where
  pub buffers : buffers_of new.levels.items ≡ buffers_of old.levels.items
  pub rows : new.rows.now ≡ old.rows.now
  pub end : new.end.bytes.now ≡ old.end.bytes.now

-- each part's next key is the lowest from this one on
pub record WayStandsAt {A : Type 0} (way : Way A) (key to : List ℕ) : Type 0 where
  pub levels : AreNext key false to way.levels.items
  pub row : IsNextKey (row_ops way) key false to (key_in way.next_row)

-- the way has all that the node has of the keys from this one on up to its end, and stands at the
-- key
pub record IsAt {A : Type 0} (t : Subtree) (way : Way A) (key to : List ℕ) : Type 0 where
  pub inside : is_lt (bytes_cmp key way.end.bytes.now) ≡ true
  pub all : (other : List ℕ) → spans key way.end.bytes.now other ≡ true
      → HaveAll t other (buffers_of way.levels.items) (row_ops way other)
  pub stands : WayStandsAt way key to

-- where the key isn't the next one, it has no operations
abbrev pub IsNextTold : Operations → Option (List ℕ) → List ℕ → Type 0
IsNextTold ops next key = (is_next next key ≡ true) ⊎ ((n : ℕ) → ops n ≡ None)

-- what the way has of the key stands where its parts' next keys are
pub record IsReadyFor {A : Type 0} (way : Way A) (key : List ℕ) : Type 0 where
  pub levels : AllByRecursion (λ level.
      IsNextTold (ops_in level.buffer.now.messages key) (key_in level.next) key) way.levels.items
  pub row : IsNextTold (row_ops way key) (key_in way.next_row) key
  pub newer : NewerDown key (buffers_of way.levels.items) (row_ops way key)
