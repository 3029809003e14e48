-- Definitions at examples, and at what they leave out.
use Rattle.std.specs.Prelude.{◌≡◌, ℕ, Some, None, List, [], ◌∷◌, codes, if◌then◌else◌, ◌==◌}
use Rattle.std.specs.declared.cmp.Ordering.TheVariants.{Less, Greater}
use Rattle.stow_tree_model.specs.Keys.{packed, tenant_of, own_key, IsTenantKey, IsOfTenant}
use Rattle.stow_tree_model.specs.Op.{Op, Put, Gone, Append}
use Rattle.stow_tree_model.specs.TreeMessage.{TreeMessage}
use Rattle.stow_tree_model.specs.Version.{Version}
use Rattle.stow_tree_model.specs.Order.{place_cmp, MessagesRise, VersionsRise}
use Rattle.stow_tree_model.specs.Messages.{Messages, ops_of, value, set_of, in_order, IsCall}
use Rattle.stow_tree_model.specs.Agreement.{TenantPins, TenantBounds, AgreeAt, Agree, PinsBelow, PinsAmong, IsNewer, IsOver}
use Rattle.stow_tree_model.specs.Merged.{IsGreatestUpTo, IsKept, Stays, merged, IsPruning}
use Rattle.stow_tree_model.specs.Intervals.{IsWithin}

-- tenant 1's key `a`
abbrev pub a_key : List ℕ
a_key = packed 1 (codes "a")

abbrev pub message : ℕ → Op → TreeMessage
message n op = record { key = a_key; number = n; op = op }

-- the key gets x, then y after it, is taken away, and gets z after nothing
abbrev pub four_messages : List TreeMessage
four_messages =
    message 1 (Put (codes "x")) ∷ message 2 (Append (codes "y")) ∷ message 3 Gone
    ∷ message 4 (Append (codes "z")) ∷ []

-- keys and places
pub record OfKeys : Type 0 where
  pub tenant : tenant_of a_key ≡ 1
  pub own : own_key a_key ≡ codes "a"
  pub key : IsTenantKey a_key
  pub not_key : IsTenantKey (0 ∷ 0 ∷ 1 ∷ []) → ⊥
  pub of_tenant : IsOfTenant a_key
  pub not_of_tenant : IsOfTenant (packed 0 (codes "a")) → ⊥
  pub by_number : place_cmp (a_key, 1) (a_key, 2) ≡ Less
  pub by_key : place_cmp (packed 1 (codes "b"), 1) (a_key, 2) ≡ Greater
  pub by_tenant : place_cmp (packed 1 (codes "z"), 2) (packed 2 [], 1) ≡ Less
  pub within : IsWithin (packed 1 []) (packed 2 []) a_key
  pub not_within : IsWithin (packed 1 []) (packed 2 []) (packed 2 []) → ⊥
  pub rising : MessagesRise four_messages
  pub not_rising : MessagesRise (message 1 Gone ∷ message 1 Gone ∷ []) → ⊥

-- what a key has at a number
pub record OfValues : Type 0 where
  pub before : value (set_of four_messages) a_key 0 ≡ None
  pub put : value (set_of four_messages) a_key 1 ≡ Some (record { number = 1; value = codes "x" })
  pub appended : value (set_of four_messages) a_key 2
      ≡ Some (record { number = 2; value = codes "xy" })
  pub gone : value (set_of four_messages) a_key 3 ≡ None
  -- not `xyz`
  pub over_gone : value (set_of four_messages) a_key 4
      ≡ Some (record { number = 4; value = codes "z" })
  pub later : value (set_of four_messages) a_key 9 ≡ Some (record { number = 4; value = codes "z" })
  pub other : value (set_of four_messages) (packed 2 (codes "a")) 9 ≡ None
  pub ordered : in_order (set_of four_messages) ≡ four_messages
  pub call : IsCall 1 3 (message 3 Gone ∷ [])
  pub not_call : IsCall 1 3 (message 4 Gone ∷ []) → ⊥

abbrev pub no_pins : TenantPins
no_pins tenant = []

-- pins of one tenant
abbrev pub pins_at : ℕ → List ℕ → TenantPins
pins_at owner numbers tenant = if tenant == owner then numbers else []

abbrev pub bound_two : TenantBounds
bound_two tenant = 2

-- two writes, and one that leaves the same
abbrev pub put_and_append : List TreeMessage
put_and_append = message 1 (Put (codes "x")) ∷ message 2 (Append (codes "y")) ∷ []

abbrev pub two_writes : Messages
two_writes = set_of put_and_append

abbrev pub put_at_two : List TreeMessage
put_at_two = message 2 (Put (codes "xy")) ∷ []

abbrev pub last_write : Messages
last_write = set_of put_at_two

abbrev pub gone_at : ℕ → List TreeMessage
gone_at n = message n Gone ∷ []

-- agreement
pub record OfAgreement : Type 0 where
  pub same : Agree two_writes last_write no_pins bound_two
  pub not_same : Agree two_writes last_write (pins_at 1 (1 ∷ [])) bound_two → ⊥
  pub at_key : AgreeAt (ops_of two_writes a_key) (ops_of last_write a_key) [] 2
  pub not_at_key : AgreeAt (ops_of two_writes a_key) (ops_of last_write a_key) [] 1 → ⊥
  pub below : PinsBelow (pins_at 1 (2 ∷ [])) bound_two
  pub not_below : PinsBelow (pins_at 1 (3 ∷ [])) bound_two → ⊥
  pub among : PinsAmong no_pins (pins_at 1 (2 ∷ []))
  pub not_among : PinsAmong (pins_at 1 (2 ∷ [])) no_pins → ⊥
  pub newer : IsNewer (set_of (gone_at 2)) (set_of (gone_at 1)) bound_two
  pub not_newer : IsNewer (set_of (gone_at 1)) (set_of (gone_at 2)) bound_two → ⊥
  pub over : IsOver (set_of (message 1 Gone ∷ gone_at 2)) (set_of (gone_at 2)) (set_of (gone_at 1))
  pub not_over : IsOver (set_of (gone_at 2)) (set_of (gone_at 2)) (set_of (gone_at 1)) → ⊥

abbrev pub version : ℕ → List ℕ → Version
version n bytes = record { key = a_key; number = n; value = Some bytes }

abbrev pub removal : ℕ → Version
removal n = record { key = a_key; number = n; value = None }

-- a leaf's row, and what follows it
abbrev pub one_row : List Version
one_row = version 1 (codes "x") ∷ []

abbrev pub two_more : List TreeMessage
two_more = message 2 (Append (codes "y")) ∷ message 3 Gone ∷ []

abbrev pub all_three : List TreeMessage
all_three = message 1 (Put (codes "x")) ∷ two_more

abbrev pub three_writes : Messages
three_writes = set_of all_three

-- what stays
pub record OfMerges : Type 0 where
  pub nothing : merged one_row two_more no_pins ≡ []
  pub above_kept : merged one_row two_more (pins_at 1 (2 ∷ []))
      ≡ version 2 (codes "xy") ∷ removal 3 ∷ []
  pub between : merged one_row (message 3 (Append (codes "y")) ∷ []) (pins_at 1 (2 ∷ []))
      ≡ version 1 (codes "x") ∷ version 3 (codes "xy") ∷ []
  pub newest : merged one_row (message 2 (Append (codes "y")) ∷ []) no_pins
      ≡ version 2 (codes "xy") ∷ []
  pub other_tenant : merged one_row two_more (pins_at 2 (2 ∷ [])) ≡ []
  pub oldest_removal : merged [] (message 1 Gone ∷ message 2 Gone ∷ []) (pins_at 1 (1 ∷ []))
      ≡ removal 2 ∷ []
  pub greatest : IsGreatestUpTo three_writes a_key 1 1
  pub not_greatest : IsGreatestUpTo three_writes a_key 1 2 → ⊥
  pub kept : IsKept (pins_at 1 (2 ∷ [])) three_writes a_key 2
  pub not_kept : IsKept (pins_at 1 (2 ∷ [])) three_writes a_key 1 → ⊥
  pub stays : Stays (pins_at 1 (2 ∷ [])) three_writes (removal 3)
  pub not_stays : Stays no_pins three_writes (removal 3) → ⊥
  pub pruning : IsPruning no_pins three_writes []
  pub not_pruning : IsPruning no_pins three_writes (removal 3 ∷ []) → ⊥
  pub rising : VersionsRise (version 2 (codes "xy") ∷ removal 3 ∷ [])
  pub not_rising : VersionsRise (removal 3 ∷ version 2 (codes "xy") ∷ []) → ⊥

-- all of them
abbrev pub Examples : Type 0
Examples = OfKeys × OfValues × OfAgreement × OfMerges
